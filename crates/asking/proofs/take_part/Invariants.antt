-- `asking::take_part` meets its contract. The invariant: the fields that are left lead to what is held after all. The measure is the number of bytes left. Assumes nothing.
use mathlib.Core.Path.{◌≡◌}
use Prim.Native.Nat.{◌-◌}
use lib.ListN.{length}
use Rattle.case.proofs.Taking.{Passed}
use Rattle.asking.proofs.take_part.Given as goal

abbrev pub invariant-loop-used : goal.invariant-loop-used
invariant-loop-used l = Passed l.initial.next l.input l.next l.used × (length l.ends ≡ 256) × (length l.answers ≡ 256)

abbrev pub decreases-loop-used : goal.decreases-loop-used
decreases-loop-used l = length l.input - l.used
