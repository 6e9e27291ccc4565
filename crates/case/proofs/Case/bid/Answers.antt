-- `case::Case::bid` meets its contract. Assumes nothing.
use mathlib.Core.Path.{◌∙◌}
use mathlib.Core.Path.{ap}
use mathlib.Core.Option.{some}
use Rattle.machine.specs.Wire.{BID}
use Rattle.case.specs.Cases.{case_of, case_answer_to, case_answer, after_asked, case_after}
use Rattle.case.proofs.Outcomes.{declined, accepted}
use Rattle.case.proofs.Case.bid.Goals as goal

pub returns-in-Err : goal.returns-in-Err
unfolding case_answer_to case_answer
returns-in-Err c = declined c.args.self (some (BID c.args.pool c.args.m c.args.units c.args.price)) _ c.in-Err.ensures _ c.declined.ensures

pub returns-in-Ok : goal.returns-in-Ok
unfolding case_answer_to case_answer after_asked case_after
returns-in-Ok c = accepted c.args.self (some (BID c.args.pool c.args.m c.args.units c.args.price)) c.in-Ok.ensures _ (ap (case_of c.args.self.stage) (c.take_bid.ensures ∙ rw c.round_of-round.ensures)) _ c.accepted.ensures
