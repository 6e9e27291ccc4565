-- `units::Units::put_up` meets its contract. Assumes nothing.
use Rattle.units.proofs.Results.{put-past, put-there}
use Rattle.units.proofs.Units.put_up.Goals as goal

pub returns-then-pool-ge4 : goal.returns-then-pool-ge4
returns-then-pool-ge4 c = put-past _ _ _ c.if-pool-ge4.true

pub returns : goal.returns
returns c = put-there _ _ _ _ _ c.if-pool-ge4.false c.from.ensures c.add_at.ensures
