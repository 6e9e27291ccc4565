-- `case::Case::head` meets its contract. Assumes nothing.
use mathlib.Core.Path.{refl}
use Rattle.case.proofs.Outcomes.{head-declined, head-accepted}
use Rattle.case.proofs.Case.head.Goals as goal

pub returns-in-Err : goal.returns-in-Err
returns-in-Err c = rw c.number.ensures (head-declined _ _ c.in-Err.ensures _ refl)

pub returns-in-Ok : goal.returns-in-Ok
returns-in-Ok c = head-accepted _ c.in-Ok.ensures _ c.new.ensures
