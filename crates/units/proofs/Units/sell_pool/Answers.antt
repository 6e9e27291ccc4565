-- `units::Units::sell_pool` meets its contract. Assumes nothing.
use Rattle.units.proofs.Results.{sale-past, sale-there}
use Rattle.units.proofs.Units.sell_pool.Goals as goal

pub returns-then-pool-ge4 : goal.returns-then-pool-ge4
returns-then-pool-ge4 c = sale-past _ _ _ _ c.if-pool-ge4.true

pub returns : goal.returns
returns c = sale-there _ _ _ _ _ _ c.if-pool-ge4.false c.from-at.ensures c.noted_at.ensures
