-- `report::take_part` meets its contract. The invariant is `Taking`; its laws begin, keep and end it. The measure is the number of bytes left. Assumes nothing.
use mathlib.Core.Path.{◌≡◌}
use Prim.Native.Nat.{◌-◌}
use lib.ListN.{length}
use Rattle.report.proofs.Taking.{Taking}
use Rattle.report.proofs.take_part.Given as goal

abbrev pub invariant-loop-used : goal.invariant-loop-used
invariant-loop-used l = Taking l.initial.next l.input l.initial.out l.out l.next l.used l.written × (length l.ends ≡ 256) × (length l.answers ≡ 256)

abbrev pub decreases-loop-used : goal.decreases-loop-used
decreases-loop-used l = length l.input - l.used
