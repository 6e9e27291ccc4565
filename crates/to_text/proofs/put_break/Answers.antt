-- `to_text::put_break` meets its contract. Assumes nothing.
use native.Mathlib.Omega.{arith}
use Rattle.forms.proofs.Puts.{put-none, put_as, put-placed}
use Rattle.to_text.proofs.Texts.{break-first, break-none, break-there}
use Rattle.to_text.proofs.put_break.Goals as goal

pub returns-then-i-eq0 : goal.returns-then-i-eq0
returns-then-i-eq0 c = put_as 2 (omega arith) (break-first _ c.if-i-eq0.true) (put-none _ _)

pub returns-then-i-ne0 : goal.returns-then-i-ne0
returns-then-i-ne0 c = put_as 2 (omega arith) (break-none _ c.if-i-ne0.true) (put-none _ _)

pub returns : goal.returns
returns c =
    put_as 2 (omega arith) (break-there _ c.if-i-eq0.false c.if-i-ne0.false)
    (put-placed 2 _ (omega arith) (omega (arith, c.requires)) c.put.ensures)
