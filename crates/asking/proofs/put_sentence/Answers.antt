-- `asking::put_sentence` meets its contract. Assumes nothing.
use native.Mathlib.Omega.{arith}
use Rattle.forms.proofs.Puts.{put-none, put_as, put-placed}
use Rattle.asking.specs.Answers.{no_case}
use Rattle.asking.proofs.Telling.{sentence-case, sentence-none}
use Rattle.asking.proofs.put_sentence.Goals as goal

pub returns-then-number-eq2 : goal.returns-then-number-eq2
returns-then-number-eq2 c = put_as 64 (omega arith) (sentence-case _ c.if-number-eq2.true) (put-placed 16 no_case (omega arith) (omega arith) c.put.ensures)

pub returns : goal.returns
returns c = put_as 64 (omega arith) (sentence-none _ c.if-number-eq2.false) (put-none _ _)
