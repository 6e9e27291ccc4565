-- `case::Case::sale` meets its contract. Assumes nothing.
use mathlib.Core.Option.{some}
use Rattle.machine.specs.Wire.{SALE}
use Rattle.case.specs.Cases.{case_answer_to, case_answer, after_asked}
use Rattle.case.proofs.Outcomes.{declined, accepted, sale-open, sale-shut}
use Rattle.case.proofs.Case.sale.Goals as goal

pub returns-in-Err : goal.returns-in-Err
unfolding case_answer_to case_answer
returns-in-Err c = declined c.args.self (some (SALE c.args.pool c.args.m c.args.price)) _ c.in-Err.ensures _ c.declined.ensures

pub returns-then-any_open : goal.returns-then-any_open
unfolding case_answer_to case_answer after_asked
returns-then-any_open c = accepted c.args.self (some (SALE c.args.pool c.args.m c.args.price)) c.in-Ok.ensures _ (sale-open c.args.self _ _ _ _ c.take_sale-sold.ensures _ c.any_open.ensures c.if-any_open.true) _ c.accepted.ensures

pub returns-else-any_open : goal.returns-else-any_open
unfolding case_answer_to case_answer after_asked
returns-else-any_open c = accepted c.args.self (some (SALE c.args.pool c.args.m c.args.price)) c.in-Ok.ensures _ (sale-shut c.args.self _ _ _ _ c.take_sale-sold.ensures _ c.any_open.ensures c.if-any_open.false) _ c.accepted-else-any_open.ensures
