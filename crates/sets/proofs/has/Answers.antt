-- `sets::has` meets its contract. Below 32 it is the definition, and from 32 on no bit is set. Assumes nothing.
use mathlib.Core.Path.{refl, sym}
use Rattle.sets.specs.Set.{member}
use Rattle.sets.proofs.Bits.{member-high}
use Rattle.sets.proofs.has.Goals as goal

pub returns-then-i-lt32 : goal.returns-then-i-lt32
unfolding member
returns-then-i-lt32 c = refl

pub returns-else-i-lt32 : goal.returns-else-i-lt32
returns-else-i-lt32 c = sym (member-high c.args.set c.args.i c.ranges.set.fits c.if-i-lt32.false)
