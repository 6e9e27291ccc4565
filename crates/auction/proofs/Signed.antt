-- Signed prices: what is held of a price of 32 bits is in range exactly if the price is, and then means that price. Assumes nothing.
use mathlib.Core.Path.{◌≡◌, sym, ◌∙◌}
use mathlib.Core.Logic.{⊎_elim}
use mathlib.Core.Bool.{true, ◌&&◌, and-true}
use Prim.Native.Nat.{ℕ, suc, ◌+◌, ◌-◌, ◌≤◌, ◌<◌, ◌^◌}
use native.Mathlib.Omega.{arith}
use lib.Dec.{leb}
use lib.IntN.{ℤ, pos, negsuc}
use lib.Signed.{le_z}
use mir.Syntax.{w32}
use mir.Val.{SFits}
use borrow.Author.Tests.{leb-true}
use Rattle.lists.proofs.Bools.{leb-same, lt-or-le}
use Rattle.auction.specs.Price.{price_limit, price_ok, cents}
use Rattle.auction.specs.Lent.{bits, held}
use Rattle.auction.proofs.Cents.{sub_same, pos-sub, neg-sub}

-- ---- what is held

held-pos : (n : ℕ) → n < 2 ^ 31 → held (pos n) ≡ n + 1_000_000
unfolding held bits
held-pos n h = omega arith

held-near : (n : ℕ) → n < 1_000_000 → held (negsuc n) ≡ 1_000_000 - suc n
unfolding held bits
held-near n h = omega arith

held-far : (n : ℕ) → n < 2 ^ 31 → 1_000_000 ≤ n → held (negsuc n) ≡ 2 ^ 32 + 1_000_000 - suc n
unfolding held bits
held-far n h g = omega arith

pub held_fits : (z : ℤ) → held z < 2 ^ 32
unfolding held
held_fits z = omega arith

-- what is held is in range exactly if the price is: "prices and reserves −10^6 to 10^6"
pub held-in-range : (z : ℤ) → SFits w32 z → price_ok (held z) ≡ (le_z (negsuc 999_999) z && le_z z (pos 1_000_000))
held-in-range (pos n) f =
    leb-same (held (pos n)) price_limit n 1_000_000
    (λ h. omega (arith, f.sfits, held-pos n f.sfits))
    (λ h. omega (arith, f.sfits, held-pos n f.sfits))
held-in-range (negsuc n) f =
    leb-same (held (negsuc n)) price_limit n 999_999
    (λ h. ⊎_elim (λ l. omega arith) (λ g. absurd (omega (arith, held-far n f.sfits g))) (lt-or-le n 1_000_000))
    (λ h. omega (arith, held-near n (omega arith)))
    ∙ sym (and-true (leb n 999_999))

-- and then means that price
pub held-cents : (z : ℤ) → SFits w32 z → price_ok (held z) ≡ true → cents (held z) ≡ z
unfolding cents
held-cents (pos n) f e = sub_same (held (pos n)) 1_000_000 n 0 (omega (arith, held-pos n f.sfits)) ∙ sym (pos-sub n)
held-cents (negsuc n) f e =
    ⊎_elim
    (λ l. sub_same (held (negsuc n)) 1_000_000 0 (suc n) (omega (arith, held-near n l)) ∙ sym (neg-sub n))
    (λ g. absurd (omega (arith, held-far n f.sfits g, leb-true (held (negsuc n)) price_limit e)))
    (lt-or-le n 1_000_000)
