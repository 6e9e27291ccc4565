-- `positions::expected` meets its contract. Assumes nothing.
use Rattle.std.proofs.Common.{◌≡◌, sym, refl, ◌∙◌, rules}
use Rattle.lists.specs.Refusals.{number_of, answer_of}
use Rattle.lists.proofs.Refused.{not-accepted}
use Rattle.positions.proofs.Whole.{answers-before, answers-some, answers-bad, answers-used, answers-end}
use Rattle.positions.proofs.expected.Goals as goal

pub returns-in_err-why_before : goal.returns-in_err-why_before
returns-in_err-why_before c =
    let a = c.args in
    let e = c.in_err-why_before.field-0.0 in
    let is : answer_of c.from_residual.result ≡ number_of e = search rules in
    answers-before a.set a.units a.bytes.now a.shares.now _ _ c.count_of-n.ensures.0 (is ∙ c.in_err-why_before.ensures) (λ z. not-accepted e (sym is ∙ z))

pub sum_up-requires : goal.sum_up-requires
sum_up-requires c =
    let a = c.args in
    (answers-some a.set a.units a.bytes.now a.shares.now _ _ c.count_of-n.ensures.0 c.in_ok-why_before.ensures refl, c.count_of-n.ensures.1)

pub returns-in_err-run : goal.returns-in_err-run
returns-in_err-run c =
    let a = c.args in
    let e = c.in_err-run.field-0.0 in
    let is : answer_of c.from_residual-in_err-run.result ≡ number_of e = search rules in
    answers-bad a.set a.units a.bytes.now a.shares.now _ _ c.count_of-n.ensures.0 c.in_ok-why_before.ensures refl _ (c.in_err-run.ensures ∙ sym is)
    (λ z. not-accepted e (sym is ∙ z))

pub overflow_sub-bytes : goal.overflow_sub-bytes
overflow_sub-bytes c =
    let a = c.args in
    let run = c.in_ok-run.ensures in
    answers-used a.set a.units a.bytes.now a.shares.now _ _ c.count_of-n.ensures.0 c.in_ok-why_before.ensures refl _ run.0 refl _ _ run.1 run.2

pub returns : goal.returns
returns c =
    let a = c.args in
    let run = c.in_ok-run.ensures in
    answers-end a.set a.units a.bytes.now a.shares.now _ _ c.count_of-n.ensures.0 c.in_ok-why_before.ensures refl _ run.0 refl _ _ run.1 run.2 _ _ c.end.ensures
