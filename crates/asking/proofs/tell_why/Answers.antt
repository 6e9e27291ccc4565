-- `asking::tell_why` meets its contract. Assumes nothing.
use mathlib.Core.Bool.{false}
use native.Mathlib.Omega.{arith}
use Rattle.forms.proofs.Puts.{put-placed}
use Rattle.asking.proofs.Telling.{told, told_none}
use Rattle.asking.proofs.tell_why.Goals as goal

pub returns-then-out-lt128 : goal.returns-then-out-lt128
returns-then-out-lt128 c = told_none _ _ c.if-out-lt128.true

pub returns : goal.returns
returns c =
    told false c.args.why.now c.if-out-lt128.false (put-placed 128 c.args.why.now c.requires (omega (arith, c.requires, c.if-out-lt128.false)) c.put.ensures)
