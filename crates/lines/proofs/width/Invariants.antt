-- `lines::width` meets its contract. The invariant: the bytes counted, and those of what is left, are all and one more. Assumes nothing.
use mathlib.Core.Path.{◌≡◌}
use Prim.Native.Nat.{◌+◌, ◌*◌, ◌≤◌}
use lib.ListN.{length}
use Rattle.lines.proofs.Numbers.{text_from}
use Rattle.lines.proofs.width.Given as goal

abbrev pub invariant-loop-n : goal.invariant-loop-n
invariant-loop-n l = (l.w ≤ 1 + 21 * l.n-index) × (l.w + length (text_from l.numbers l.n-index) ≡ 1 + length (text_from l.numbers 0))
