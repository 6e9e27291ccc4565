-- `auction::held` meets its contract: the bits of the price, and the sum that wraps at 32 bits. Assumes nothing.
use mathlib.Core.Path.{◌≡◌, refl}
use lib.IntN.{ℤ, pos, negsuc}
use mir.Syntax.{w32}
use mir.Val.{SFits, of_z}
use mir.Facts.{to_z-of_z}
use Rattle.auction.specs.Lent.{bits, held}
use Rattle.auction.proofs.held.Goals as goal

same_bits : (z : ℤ) → SFits w32 z → of_z w32 z ≡ bits z
unfolding bits
same_bits (pos n) f = refl
same_bits (negsuc n) f = refl

pub returns : goal.returns
unfolding held
returns c = rw (c.cast_unsigned.ensures, to_z-of_z c.ranges.price, same_bits c.args.price c.ranges.price) refl
