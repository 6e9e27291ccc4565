-- `wire::price_at` meets its contract. Assumes nothing.
use Rattle.machine.specs.Wire.{price}
use Rattle.wire.proofs.price_at.Goals as goal

pub returns : goal.returns
unfolding price
returns c = rw c.four.ensures
