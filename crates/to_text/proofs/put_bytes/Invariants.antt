-- `to_text::put_bytes` meets its contract. Assumes nothing.
use Rattle.to_text.proofs.Texts.{Hexing}
use Rattle.to_text.proofs.put_bytes.Given as goal

abbrev pub invariant-loop-i : goal.invariant-loop-i
invariant-loop-i l = Hexing l.initial.out l.at l.bytes l.i l.to l.out
