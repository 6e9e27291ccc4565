-- `sets::next` meets its contract. The trailing zeros are the least member. Assumes nothing.
use Rattle.sets.proofs.Bits.{next-is}
use Rattle.sets.proofs.next.Goals as goal

pub returns : goal.returns
returns c = next-is c.args.set c.ranges.set.fits
