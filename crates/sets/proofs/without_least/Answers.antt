-- `sets::without_least` meets its contract. A set and the number before it have in common all members but the least. Assumes nothing.
use Rattle.sets.proofs.Bits.{members-none, without-least-is}
use Rattle.sets.proofs.without_least.Goals as goal

pub returns-then-set-eq0 : goal.returns-then-set-eq0
returns-then-set-eq0 c = rw (c.if-set-eq0.true, members-none)

pub returns-else-set-eq0 : goal.returns-else-set-eq0
returns-else-set-eq0 c = without-least-is c.args.set c.if-set-eq0.false c.ranges.set.fits
