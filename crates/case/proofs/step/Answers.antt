-- `case::step` meets its contract: each call by its method. Assumes nothing.
use native.Mathlib.Omega.{arith}
use Rattle.wire.specs.Asked.{asked}
use Rattle.wire.specs.declared.Call.TheVariants.{Round}
use Rattle.case.specs.Cases.{first_answer, first_answer_to, case_after, after_asked}
use Rattle.case.proofs.Outcomes.{handed, round-later}
use Rattle.case.proofs.step.Goals as goal

pub returns-in-Head : goal.returns-in-Head
unfolding asked after_asked case_after
returns-in-Head c = λ present e. rw c.in-Head.is c.new.ensures

pub returns-in-Pool : goal.returns-in-Pool
unfolding asked first_answer_to first_answer
returns-in-Pool c = rw c.in-Pool.is (λ present e. handed c.args.case.now _ (λ z. absurd (omega arith)) _ c.pool_in_place.ensures present e)

pub returns-in-Member : goal.returns-in-Member
unfolding asked first_answer_to first_answer
returns-in-Member c = rw c.in-Member.is (λ present e. handed c.args.case.now _ (λ z. absurd (omega arith)) _ c.member_in_place.ensures present e)

pub returns-in-Round : goal.returns-in-Round
returns-in-Round c =
    rw c.in-Round.is
    (λ present e.
    handed c.args.case.now (asked (Round c.in-Round.count c.in-Round.a c.in-Round.b c.in-Round.c c.in-Round.d))
    (round-later c.in-Round.count c.in-Round.a c.in-Round.b c.in-Round.c c.in-Round.d) _ c.round_in_place.ensures present e)

pub returns-in-Bid : goal.returns-in-Bid
unfolding asked first_answer_to first_answer
returns-in-Bid c = rw c.in-Bid.is (λ present e. handed c.args.case.now _ (λ z. absurd (omega arith)) _ c.bid_in_place.ensures present e)

pub returns-in-Close : goal.returns-in-Close
unfolding asked first_answer_to first_answer
returns-in-Close c = rw c.in-Close.is (λ present e. handed c.args.case.now _ (λ z. absurd (omega arith)) _ c.close_in_place.ensures present e)

pub returns-in-Allocate : goal.returns-in-Allocate
unfolding asked first_answer_to first_answer
returns-in-Allocate c = rw c.in-Allocate.is (λ present e. handed c.args.case.now _ (λ z. absurd (omega arith)) _ c.allocate_in_place.ensures present e)

pub returns-in-Tear : goal.returns-in-Tear
unfolding asked first_answer_to first_answer
returns-in-Tear c = rw c.in-Tear.is (λ present e. handed c.args.case.now _ (λ z. absurd (omega arith)) _ c.tear_in_place.ensures present e)

pub returns-in-Call : goal.returns-in-Call
unfolding asked first_answer_to first_answer
returns-in-Call c = rw c.in-Call.is (λ present e. handed c.args.case.now _ (λ z. absurd (omega arith)) _ c.call_in_place.ensures present e)

pub returns-in-Pay : goal.returns-in-Pay
unfolding asked first_answer_to first_answer
returns-in-Pay c = rw c.in-Pay.is (λ present e. handed c.args.case.now _ (λ z. absurd (omega arith)) _ c.pay_in_place.ensures present e)

pub returns-in-Move : goal.returns-in-Move
unfolding asked first_answer_to first_answer
returns-in-Move c = rw c.in-Move.is (λ present e. handed c.args.case.now _ (λ z. absurd (omega arith)) _ c.move_units_in_place.ensures present e)

pub returns-in-Miss : goal.returns-in-Miss
unfolding asked first_answer_to first_answer
returns-in-Miss c = rw c.in-Miss.is (λ present e. handed c.args.case.now _ (λ z. absurd (omega arith)) _ c.miss_in_place.ensures present e)

pub returns-in-Finish : goal.returns-in-Finish
unfolding asked first_answer_to first_answer
returns-in-Finish c = rw c.in-Finish.is (λ present e. handed c.args.case.now _ (λ z. absurd (omega arith)) _ c.finish_in_place.ensures present e)

pub returns-in-Sale : goal.returns-in-Sale
unfolding asked first_answer_to first_answer
returns-in-Sale c = rw c.in-Sale.is (λ present e. handed c.args.case.now _ (λ z. absurd (omega arith)) _ c.sale_in_place.ensures present e)

pub returns-in-Withdraw : goal.returns-in-Withdraw
unfolding asked first_answer_to first_answer
returns-in-Withdraw c = rw c.in-Withdraw.is (λ present e. handed c.args.case.now _ (λ z. absurd (omega arith)) _ c.withdraw_in_place.ensures present e)

pub returns-in-Unknown : goal.returns-in-Unknown
unfolding asked after_asked
returns-in-Unknown c = λ present e. rw c.in-Unknown.is
