-- `to_text::take_some` meets its contract. Assumes nothing.
use mathlib.Core.Path.{◌≡◌}
use Prim.Native.Nat.{◌-◌}
use lib.ListN.{length, drop}
use Rattle.to_text.specs.Turns.{size_within}
use Rattle.to_text.proofs.Sizes.{Taking}
use Rattle.to_text.proofs.take_some.Given as goal

abbrev pub invariant-loop-size : goal.invariant-loop-size
invariant-loop-size l =
    Taking l.input l.initial.out l.out l.count l.used l.to × (l.size ≡ size_within (length l.out - l.to) (drop l.used l.input)) × (length l.out ≡ length l.initial.out)

abbrev pub decreases-loop-size : goal.decreases-loop-size
decreases-loop-size l = length l.input - l.used
