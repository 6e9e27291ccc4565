-- `case::run` meets its contract. The invariant is `Going`; its laws begin, keep and end it. The measure is the number of bytes left. Assumes nothing.
use mathlib.Core.Path.{◌≡◌}
use Prim.Native.Nat.{◌-◌}
use lib.ListN.{length}
use Rattle.case.proofs.Running.{Going}
use Rattle.case.proofs.run.Given as goal

abbrev pub invariant-loop-at : goal.invariant-loop-at
invariant-loop-at l = Going l.input l.initial.answers l.answers l.held l.at l.count × (length l.ends ≡ 256)

abbrev pub decreases-loop-at : goal.decreases-loop-at
decreases-loop-at l = length l.input - l.at
