-- `case::Case::close` meets its contract. Assumes nothing.
use mathlib.Core.Option.{some}
use Rattle.machine.specs.Wire.{CLOSE}
use Rattle.case.specs.Cases.{case_answer_to, case_answer, after_asked, case_after}
use Rattle.case.proofs.Outcomes.{declined, accepted}
use Rattle.case.proofs.Case.close.Goals as goal

pub returns-in-Err : goal.returns-in-Err
unfolding case_answer_to case_answer
returns-in-Err c = declined c.args.self (some CLOSE) _ c.in-Err.ensures _ c.declined.ensures

pub returns-in-Ok : goal.returns-in-Ok
unfolding case_answer_to case_answer after_asked case_after
returns-in-Ok c = accepted c.args.self (some CLOSE) c.in-Ok.ensures _ (rw (c.take_close.ensures, c.round_of-round.ensures)) _ c.accepted.ensures
