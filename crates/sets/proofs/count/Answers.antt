-- `sets::count` meets its contract. The machine's count of ones is the number of members. Assumes nothing.
use mathlib.Core.Path.{sym}
use Rattle.sets.proofs.Bits.{count-is}
use Rattle.sets.proofs.count.Goals as goal

pub returns : goal.returns
returns c = sym (count-is c.args.set c.ranges.set.fits)
