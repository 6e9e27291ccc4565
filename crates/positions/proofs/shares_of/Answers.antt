-- `positions::shares_of` meets its contract. Assumes nothing.
use Rattle.std.proofs.Common.{Err, ◌≡◌, length, take, sym, ap, ◌∙◌, length-take-le, arith, rules}
use Rattle.std.proofs.lemmas.Result.{MatchResult-weaker}
use Rattle.lists.specs.Refusals.{number_of}
use Rattle.lists.proofs.Refused.{not-accepted}
use Rattle.positions.proofs.Ends.{end-before, end-cut, end-split}
use Rattle.positions.proofs.shares_of.Goals as goal

pub returns-in_err-why_before : goal.returns-in_err-why_before
returns-in_err-why_before c =
    let a = c.args in
    let e = c.in_err-why_before.field-0.0 in
    let is : c.from_residual.result ≡ Err e = search rules in
    rw is (end-before a.n a.units a.left a.sums.now _ c.in_err-why_before.ensures (not-accepted e))

pub returns-in_err-decline_if : goal.returns-in_err-decline_if
returns-in_err-decline_if c =
    let a = c.args in
    let e = c.in_err-decline_if in
    let is : c.from_residual-in_err-decline_if.result ≡ Err e.field-0.0 = search rules in
    rw is (ap number_of e.ensures.1 ∙ end-cut a.n a.units a.left a.sums.now c.in_ok-why_before.ensures e.ensures.0)

pub returns : goal.returns
returns c =
    let a = c.args in
    let why = end-split a.n a.units a.left a.sums.now c.in_ok-why_before.ensures c.in_ok-decline_if.ensures in
    let long : length (take a.n a.sums.now) ≡ a.n = length-take-le a.n a.sums.now (omega arith) in
    MatchResult-weaker c.split_by.result (rw long at c.split_by.ensures)
    (λ xs w. (sym why ∙ w.0, w.1))
    (λ e w. w ∙ why)
