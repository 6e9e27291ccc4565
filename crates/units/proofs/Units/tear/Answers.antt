-- `units::Units::tear` meets its contract. Assumes nothing.
use Rattle.units.proofs.Results.{tear-past, tear-there}
use Rattle.units.proofs.Units.tear.Goals as goal

pub returns-then-pool-ge4 : goal.returns-then-pool-ge4
returns-then-pool-ge4 c = tear-past _ _ _ c.if-pool-ge4.true

pub returns : goal.returns
returns c = tear-there _ _ _ _ _ c.if-pool-ge4.false c.from-at.ensures c.noted_at.ensures
