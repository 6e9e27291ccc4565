-- `case::take` meets its contract. Assumes nothing.
use mathlib.Core.Path.{refl, sym}
use Rattle.case.proofs.Outcomes.{take-declined, take-accepted}
use Rattle.case.proofs.take.Goals as goal

pub returns-in-Err : goal.returns-in-Err
returns-in-Err c = rw c.number.ensures (take-declined c.args.held _ _ c.in-Err.ensures)

pub returns-in-Ok : goal.returns-in-Ok
returns-in-Ok c = rw (c.advance.ensures (sym c.in-Ok.ensures)) (take-accepted c.args.held _ c.in-Ok.ensures _ refl)
