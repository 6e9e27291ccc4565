-- `positions::split_by` meets its contract. Assumes nothing.
use Rattle.std.proofs.Common.{Err, ◌≡◌, length, sym, refl, rules}
use Rattle.positions.proofs.Ends.{split-answer, split-shares}
use Rattle.positions.proofs.split_by.Goals as goal

pub returns-in_err-split : goal.returns-in_err-split
returns-in_err-split c =
    let a = c.args in
    let is : c.from_residual.result ≡ Err c.in_err-split.field-0.0 = search rules in
    rw is (split-answer a.units (length a.sums.now) _ _ _ c.requires c.in_err-split.ensures)

pub returns : goal.returns
returns c =
    let a = c.args in
    (sym (split-answer a.units (length a.sums.now) _ _ _ c.requires c.in_ok-split.ensures), split-shares a.units (length a.sums.now) _ _ _ c.requires c.in_ok-split.ensures refl)
