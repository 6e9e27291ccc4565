-- `units::reprice` meets its contract. Assumes nothing.
use Rattle.units.proofs.Results.{repriced-is}
use Rattle.units.proofs.reprice.Goals as goal

pub returns : goal.returns
returns c = repriced-is _ _ _ _ _ _ _ _ _ _ _ _ c.from.ensures c.from-2.ensures c.from-3.ensures c.from-4.ensures c.from-5.ensures c.saturating_sub.ensures c.narrow.ensures
