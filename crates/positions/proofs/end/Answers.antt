-- `positions::end` meets its contract. Assumes nothing.
use Rattle.std.proofs.Common.{◌≡◌, sym, ◌∙◌, rules}
use Rattle.lists.specs.Refusals.{number_of, answer_of}
use Rattle.lists.proofs.Refused.{not-accepted}
use Rattle.positions.proofs.Ends.{end-declined, end-done}
use Rattle.positions.proofs.end.Goals as goal

pub returns-in_err-xs : goal.returns-in_err-xs
returns-in_err-xs c =
    let a = c.args in
    let e = c.in_err-xs.field-0.0 in
    let is : answer_of c.from_residual.result ≡ number_of e = search rules in
    end-declined a.set a.units a.left a.sums.now a.shares.now _ c.count_of.ensures.0 _ (is ∙ c.in_err-xs.ensures) (λ z. not-accepted e (sym is ∙ z))

pub returns : goal.returns
returns c =
    let a = c.args in
    end-done a.set a.units a.left a.sums.now a.shares.now _ c.count_of.ensures.0 c.in_ok-xs.ensures.0 _ _ c.in_ok-xs.ensures.1 c.spread.ensures
