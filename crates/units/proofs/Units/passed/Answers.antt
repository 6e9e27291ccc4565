-- `units::Units::passed` meets its contract. Assumes nothing.
use Rattle.units.proofs.Results.{passed-past, passed-there}
use Rattle.units.proofs.Units.passed.Goals as goal

pub returns-then-m-ge32 : goal.returns-then-m-ge32
returns-then-m-ge32 c = passed-past _ _ c.if-m-ge32.true

pub returns : goal.returns
returns c = passed-there _ _ _ _ _ c.if-m-ge32.false c.from-k.ensures c.four-allocated.ensures.0 c.four-moved.ensures.0
