-- `asking::answer` meets its contract. Assumes nothing.
use borrow.Author.Tests.{not-true, not-false}
use Rattle.asking.proofs.Telling.{told-as, at-failed, at_cut, at-requirement, at-unknown}
use Rattle.asking.proofs.answer.Goals as goal

pub returns-then-not-rest : goal.returns-then-not-rest
returns-then-not-rest c =
    let a = c.args in
    told-as _ (at-failed a.question a.rest (not-true _ c.if-not-rest.true)) c.tell_why.ensures

pub returns-then-rest-ne0 : goal.returns-then-rest-ne0
returns-then-rest-ne0 c =
    let a = c.args in
    told-as _ (at_cut a.question a.rest (not-false _ c.if-not-rest.false) c.if-rest-ne0.true) c.tell_why-then-rest-ne0.ensures

pub returns-in-Requirement : goal.returns-in-Requirement
returns-in-Requirement c =
    let a = c.args in
    told-as _ (at-requirement a.question a.rest (not-false _ c.if-not-rest.false) c.if-rest-ne0.false c.in-Requirement.is _ c.requirement.ensures) c.tell_reading.ensures

pub returns-in-Unknown : goal.returns-in-Unknown
returns-in-Unknown c =
    let a = c.args in
    told-as _ (at-unknown a.question a.rest (not-false _ c.if-not-rest.false) c.if-rest-ne0.false c.in-Unknown.is) c.tell_usage.ensures
