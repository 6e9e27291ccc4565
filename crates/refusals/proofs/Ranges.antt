-- The ranges of HEAD, MEMBER and ROUND, number by number, as the code tests them, for every number of pools. Assumes nothing.
use mathlib.Core.Path.{◌≡◌, refl}
use mathlib.Core.Bool.{◌&&◌, ◌||◌, and-true, and_assoc}
use mathlib.Core.List.{[], ◌∷◌}
use Prim.Native.Nat.{ℕ, zero, suc}
use native.Mathlib.Omega.{arith}
use lib.Dec.{leb, ltb}
use lib.ListN.{take}
use lib.Seq.{take-nil, drop-nil}
use borrow.Author.Tests.{lt-ltb, lt-leb}
use Rattle.lists.specs.Lists.{between, all}
use Rattle.auction.specs.Price.{price_ok}
use Rattle.machine.specs.Wire.{Head}
use Rattle.machine.specs.Refusals.{head_ok, member_ok}
use Rattle.refusals.specs.Answers.{amounts_ok, expected_ok}

-- the numbers of HEAD
pub head-tested : (h : Head)
    → head_ok h ≡ (between 1 4 h.pools && (between 1 1000 h.least_bid && (ltb 0 h.set && amounts_ok h)))
unfolding head_ok all amounts_ok
head-tested h = simp and-true

-- the numbers of MEMBER: a pool lies in the case if its number is below the number of pools
pub member-tested : (n contribution p q r s : ℕ)
    → member_ok n contribution (p ∷ q ∷ r ∷ s ∷ [])
    ≡ (leb contribution 500_000_000
    && ((expected_ok (ltb 0 n) p && expected_ok (ltb 1 n) q) && (expected_ok (ltb 2 n) r && expected_ok (ltb 3 n) s)))
unfolding member_ok all
member-tested zero contribution p q r s = simp (and_assoc, and-true)
member-tested (suc zero) contribution p q r s = simp (and_assoc, and-true)
member-tested (suc (suc zero)) contribution p q r s = simp (and_assoc, and-true)
member-tested (suc (suc (suc zero))) contribution p q r s = simp (and_assoc, and-true)
member-tested (suc (suc (suc (suc n)))) contribution p q r s =
    let n4 : ℕ = suc (suc (suc (suc n))) in
    rw (
      lt-ltb 0 n4 (omega arith),
      lt-ltb 1 n4 (omega arith),
      lt-ltb 2 n4 (omega arith),
      lt-ltb 3 n4 (omega arith),
      take-nil n,
      drop-nil n,
    )
    (simp (and_assoc, and-true))

-- the reserves of ROUND: of n of them those at places below n are tested
pub reserves-tested : (n p q r s : ℕ)
    → all price_ok (take n (p ∷ q ∷ r ∷ s ∷ []))
    ≡ (((leb n 0 || price_ok p) && (leb n 1 || price_ok q)) && ((leb n 2 || price_ok r) && (leb n 3 || price_ok s)))
unfolding all
reserves-tested zero p q r s = refl
reserves-tested (suc zero) p q r s = simp and-true
reserves-tested (suc (suc zero)) p q r s = simp (and_assoc, and-true)
reserves-tested (suc (suc (suc zero))) p q r s = simp (and_assoc, and-true)
reserves-tested (suc (suc (suc (suc n)))) p q r s =
    let n4 : ℕ = suc (suc (suc (suc n))) in
    rw (
      lt-leb n4 0 (omega arith),
      lt-leb n4 1 (omega arith),
      lt-leb n4 2 (omega arith),
      lt-leb n4 3 (omega arith),
      take-nil n,
    )
    (simp (and_assoc, and-true))
