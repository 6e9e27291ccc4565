-- `lines::write_numbers` meets its contract. The invariant: what is left, written behind what is written, gives the whole. Assumes nothing.
use mathlib.Core.Path.{◌≡◌}
use Prim.Native.Nat.{◌+◌, ◌≤◌}
use lib.ListN.{length}
use lib.Seq.{sets}
use Rattle.lines.proofs.Numbers.{text_from}
use Rattle.lines.proofs.write_numbers.Given as goal

abbrev pub invariant-loop-n : goal.invariant-loop-n
invariant-loop-n l =
    (length l.out ≡ length l.initial.out)
    × (l.at + length (text_from l.numbers 0) ≤ length l.initial.out)
    × (l.to + length (text_from l.numbers l.n-index) ≡ l.at + length (text_from l.numbers 0))
    × (sets l.out l.to (text_from l.numbers l.n-index) ≡ sets l.initial.out l.at (text_from l.numbers 0))
