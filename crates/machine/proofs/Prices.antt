-- The 4 bytes of a price: what is held of them is in range exactly if the price that they mean is, and then means that price. Assumes nothing.
use mathlib.Core.Path.{◌≡◌, refl, sym, ap}
use mathlib.Core.Bool.{true, ◌&&◌}
use mathlib.Core.List.{List}
use Prim.Native.Nat.{ℕ, ◌+◌, ◌%◌, ◌^◌, ◌<◌}
use native.Mathlib.Omega.{arith}
use lib.Dec.{ltb}
use lib.IntN.{pos, negsuc}
use lib.ListN.{drop}
use lib.Signed.{le_z}
use mir.Syntax.{w32}
use mir.Val.{SFits}
use borrow.Author.Tests.{ltb-true, ltb-false}
use Rattle.lists.proofs.Bools.{by-test}
use Rattle.lists.proofs.Each.{Each, each-drop}
use Rattle.auction.specs.Price.{zero_price, price_ok, cents}
use Rattle.auction.specs.Lent.{bits, held}
use Rattle.auction.proofs.Signed.{held-in-range, held-cents}
use Rattle.machine.specs.Wire.{number, price, signed}
use Rattle.machine.proofs.Bytes.{Byte, four_bytes}

-- a number of 32 bits is the bits of what it means, which fits a signed number of 32 bits
module _ (n : ℕ) (h : n < 2 ^ 32) where
  bits-signed : bits (signed n) ≡ n
  unfolding bits signed
  bits-signed = by-test (λ z. bits z ≡ n) (ltb n (2 ^ 31)) (λ e. refl) (λ e. omega arith)

  signed-fits : SFits w32 (signed n)
  unfolding signed
  signed-fits =
      by-test (SFits w32) (ltb n (2 ^ 31))
      (λ e. record { sfits = omega (arith, ltb-true n (2 ^ 31) e) })
      (λ e. record { sfits = omega (arith, ltb-false n (2 ^ 31) e) })

module _ (at : ℕ) (v : List ℕ) (bytes : Each Byte v) where
  small : number at 4 v < 2 ^ 32
  unfolding number
  small = four_bytes (drop at v) (each-drop Byte at v bytes)

  -- the bytes of a price are held as a signed price is that is lent to the auction alone
  price-held : price at v ≡ held (signed (number at 4 v))
  unfolding price held
  price-held = ap (λ (b : ℕ). (b + zero_price) % 2 ^ 32) (sym (bits-signed (number at 4 v) small))

  -- "prices and reserves −10^6 to 10^6"
  pub price-in-range : price_ok (price at v) ≡ (le_z (negsuc 999_999) (signed (number at 4 v)) && le_z (signed (number at 4 v)) (pos 1_000_000))
  price-in-range = rw price-held (held-in-range (signed (number at 4 v)) (signed-fits (number at 4 v) small))

  pub price-in-cents : price_ok (price at v) ≡ true → cents (price at v) ≡ signed (number at 4 v)
  price-in-cents e = rw price-held (held-cents (signed (number at 4 v)) (signed-fits (number at 4 v) small) (rw price-held at e))
