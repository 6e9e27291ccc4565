-- `rows::take_lines` meets its contract. Assumes nothing.
use mathlib.Core.Path.{◌≡◌}
use Prim.Native.Nat.{◌-◌}
use lib.ListN.{length}
use Rattle.rows.proofs.Days.{Taking}
use Rattle.rows.proofs.take_lines.Given as goal

abbrev pub invariant-loop-day : goal.invariant-loop-day
invariant-loop-day l = Taking l.n l.last l.input l.initial.out l.out l.count l.used l.to × (length l.out ≡ length l.initial.out)

abbrev pub decreases-loop-day : goal.decreases-loop-day
decreases-loop-day l = length l.input - l.used
