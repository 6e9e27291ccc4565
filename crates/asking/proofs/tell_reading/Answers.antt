-- `asking::tell_reading` meets its contract. Assumes nothing.
use mathlib.Core.Bool.{true, false}
use Rattle.asking.proofs.Telling.{told, told_none, told-as, reading-refused, reading-answered}
use Rattle.asking.proofs.tell_reading.Goals as goal

pub returns-then-out-lt128 : goal.returns-then-out-lt128
returns-then-out-lt128 c = told_none _ _ c.if-out-lt128.true

pub returns-in-Ok : goal.returns-in-Ok
returns-in-Ok c = told-as _ (reading-answered _ _ c.in-Ok.is) (told true _ c.if-out-lt128.false c.put_requirement.ensures)

pub returns-in-Err : goal.returns-in-Err
returns-in-Err c = told-as _ (reading-refused _ _ c.in-Err.is) (told false _ c.if-out-lt128.false c.put_refusal.ensures)
