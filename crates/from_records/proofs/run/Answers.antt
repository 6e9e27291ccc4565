-- `from_records::run` meets its contract. Assumes nothing.
use Rattle.std.proofs.Common.{refl, sym, ◌∙◌}
use Rattle.lists.proofs.Refused.{not-accepted}
use Rattle.positions.proofs.Whole.{ready-some}
use Rattle.from_records.proofs.Turning.{ready, gives-declined, gives_none, gives}
use Rattle.from_records.proofs.run.Goals as goal

pub returns-in-Err : goal.returns-in-Err
returns-in-Err c =
    let a = c.args in
    let is = c.number.ensures in
    gives-declined a.set a.units a.shares.now _ _ c.count_of.ensures.0 (is ∙ c.in-Err.ensures) (λ z. not-accepted c.in-Err.refusal (sym is ∙ z))

pub returns-then-buf-lt128 : goal.returns-then-buf-lt128
returns-then-buf-lt128 c = gives_none _ _ _

pub take_input-requires : goal.take_input-requires
take_input-requires c =
    let a = c.args in
    ready-some _ a.units (ready a.set a.units _ _ c.count_of.ensures.0 c.in_default.ensures refl)

pub returns-in-Ok : goal.returns-in-Ok
returns-in-Ok c =
    let a = c.args in
    gives a.set a.units a.shares.now _ _ _ (ready a.set a.units _ _ c.count_of.ensures.0 c.in_default.ensures refl) _ c.in-Ok.ensures c.finish.ensures
