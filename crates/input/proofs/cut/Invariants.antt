-- `input::cut` meets its contract. The invariant is `Cutting`; its laws begin, keep and end it. Assumes nothing.
use mathlib.Core.Path.{◌≡◌}
use Prim.Native.Nat.{min}
use lib.ListN.{length}
use Rattle.input.proofs.Fronts.{Cutting}
use Rattle.input.proofs.cut.Given as goal

abbrev pub invariant-loop-k : goal.invariant-loop-k
invariant-loop-k l = (l.most ≡ min l.room (length l.initial.ends)) × Cutting l.last l.input l.most l.initial.ends l.ends l.at l.k
