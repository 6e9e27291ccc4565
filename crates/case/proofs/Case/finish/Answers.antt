-- `case::Case::finish` meets its contract. Assumes nothing.
use mathlib.Core.Path.{refl}
use mathlib.Core.Option.{some}
use Rattle.machine.specs.Wire.{FINISH}
use Rattle.case.specs.Cases.{case_answer_to, case_answer, after_asked, case_after}
use Rattle.case.proofs.Outcomes.{declined, accepted}
use Rattle.case.proofs.Case.finish.Goals as goal

pub returns-in-Err : goal.returns-in-Err
unfolding case_answer_to case_answer
returns-in-Err c = declined c.args.self (some FINISH) _ c.in-Err.ensures _ c.declined.ensures

pub returns-in-Ok : goal.returns-in-Ok
unfolding case_answer_to case_answer after_asked case_after
returns-in-Ok c = accepted c.args.self (some FINISH) c.in-Ok.ensures _ refl _ c.accepted.ensures
