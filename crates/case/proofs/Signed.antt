-- The difference of two numbers below 2^62 as a signed number of 64 bits. Assumes nothing.
use mathlib.Core.Path.{◌≡◌, refl}
use mathlib.Core.Bool.{Bool, true, false, cond}
use Prim.Native.Nat.{ℕ, zero, suc, ◌-◌, ◌<◌, ◌^◌}
use native.Mathlib.Nat.{add-zero}
use native.Mathlib.Omega.{arith}
use lib.Dec.{ltb}
use lib.IntN.{pos, negsuc, sub_ℕ, ◌-ℤ◌}
use mir.Syntax.{w64}
use mir.Val.{SFits, to_z}
use mir.Facts.{to_z-of_z}
use Rattle.auction.proofs.Cents.{pos-sub}

pub small : (a : ℕ) → a < 2 ^ 62 → to_z w64 a ≡ pos a
small a h = to_z-of_z {w = w64} {z = pos a} (record { sfits = omega arith })

pub minus : (a b : ℕ) → pos a -ℤ pos b ≡ sub_ℕ a b
minus a zero = simp add-zero (pos-sub a)
minus a (suc b) = refl

pub sub-fits : (a b : ℕ) → a < 2 ^ 62 → b < 2 ^ 62 → SFits w64 (sub_ℕ a b)
sub-fits a b ha hb = go (ltb a b) refl
  where
    go : (t : Bool) → ltb a b ≡ t → SFits w64 (cond t (negsuc (b - suc a)) (pos (a - b)))
    go true e = record { sfits = omega arith }
    go false e = record { sfits = omega arith }

pub minus_is : (a b : ℕ) → a < 2 ^ 62 → b < 2 ^ 62 → to_z w64 a -ℤ to_z w64 b ≡ sub_ℕ a b
minus_is a b ha hb = rw (small a ha, small b hb) (minus a b)

pub minus-fits : (a b : ℕ) → a < 2 ^ 62 → b < 2 ^ 62 → SFits w64 (to_z w64 a -ℤ to_z w64 b)
minus-fits a b ha hb = rw (minus_is a b ha hb) (sub-fits a b ha hb)
