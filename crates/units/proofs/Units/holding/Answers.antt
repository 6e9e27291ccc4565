-- `units::Units::holding` meets its contract. Assumes nothing.
use mathlib.Core.Path.{◌∙◌}
use Rattle.units.proofs.Results.{holding-past, holding-none, holding-there}
use Rattle.units.proofs.Units.holding.Goals as goal

pub returns-then-pool-ge4 : goal.returns-then-pool-ge4
returns-then-pool-ge4 c = holding-past _ _ _ _ _ _ _ c.if-pool-ge4.true

pub returns-then-m-ge32 : goal.returns-then-m-ge32
returns-then-m-ge32 c = holding-none _ _ _ _ _ _ _ c.if-m-ge32.true

pub returns : goal.returns
returns c = holding-there _ _ _ _ _ _ _ _ _ _ _ _ _ _ _ _ _ c.if-pool-ge4.false c.if-m-ge32.false c.from-at.ensures c.from.ensures c.sold_for-sold.ensures.0 c.from-2.ensures c.number_if-allocated.ensures c.from-3.ensures c.number_if-moved.ensures (c.both-here.ensures ∙ rw (c.buyer.ensures, c.sale_price.ensures)) (c.from-4.ensures ∙ c.agreed_units.ensures) c.number_if-agreed.ensures
