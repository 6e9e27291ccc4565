-- The floors of a split, their remainders, and what is left: what is left, W times, is the sum of the remainders. Assumes nothing.
use mathlib.Core.Path.{◌≡◌, ap}
use mathlib.Core.Logic.{⊎_elim}
use mathlib.Core.List.{List}
use Prim.Native.Nat.{ℕ, ◌+◌, ◌*◌, ◌≤◌, ◌<◌}
use native.Mathlib.Nat.{eq-zero-or-pos, one-mul, mul-le-mul_left, mul-le-mul_right, mul_comm, add-mul, div-le_of_le-mul, div-add-mod', le_of_mul-le-mul_right, mod-lt}
use native.Mathlib.Omega.{arith}
use lib.Dec.{ltb}
use lib.ListN.{length, get_or}
use borrow.Author.Tests.{lt-ltb}
use Rattle.lists.specs.Lists.{sum, sum_to, one_if, count_to}
use Rattle.lists.proofs.Bools.{lt-or-le, one-true}
use Rattle.lists.proofs.Sums.{sum_to-ext, sum_to-le, sum_to-add, sum_to-mul, sum_to-times, sum-places, entry-le, count_small}
use Rattle.splitting.specs.Split.{floor_at, remainder_at, left}

module _ (q : ℕ) (ws : List ℕ) where
  -- a floor is at most q
  pub floor-le : (i : ℕ) → floor_at q ws i ≤ q
  unfolding floor_at
  floor-le i = div-le_of_le-mul (sum ws) (omega (arith, mul-le-mul_left q (entry-le ws i), mul_comm q (sum ws)))

  -- a remainder is below W
  pub remainder-lt : (i : ℕ) → 0 < sum ws → remainder_at q ws i < sum ws
  unfolding remainder_at
  remainder-lt i h = mod-lt (q * get_or ws i 0) h

  pub floor-remainder : (i : ℕ) → floor_at q ws i * sum ws + remainder_at q ws i ≡ q * get_or ws i 0
  unfolding floor_at remainder_at
  floor-remainder i = div-add-mod' (q * get_or ws i 0) (sum ws)

  -- the floor of a larger weight is no smaller
  pub floor-order : (i j : ℕ) → 0 < sum ws → get_or ws i 0 ≤ get_or ws j 0 → floor_at q ws i ≤ floor_at q ws j
  floor-order i j some le =
      ⊎_elim
      (λ l. absurd (omega (
        arith,
        mul-le-mul_left q le,
        floor-remainder i,
        floor-remainder j,
        remainder-lt j some,
        mul-le-mul_right (sum ws) l,
        add-mul (floor_at q ws j) 1 (sum ws),
        one-mul (sum ws),
      )))
      (λ g. g)
      (lt-or-le (floor_at q ws j) (floor_at q ws i))

  -- the floors, W times, and the remainders make q × W
  division : sum_to (length ws) (floor_at q ws) * sum ws + sum_to (length ws) (remainder_at q ws) ≡ q * sum ws
  division =
      let n = length ws in
      omega (
        arith,
        sum_to-mul n (floor_at q ws) (sum ws),
        sum_to-add n (λ k. floor_at q ws k * sum ws) (remainder_at q ws),
        sum_to-ext n (λ k. floor_at q ws k * sum ws + remainder_at q ws k) (λ k. q * get_or ws k 0) (λ k l. floor-remainder k),
        sum_to-times n q (λ k. get_or ws k 0),
        ap (λ (s : ℕ). q * s) (sum-places ws),
      )

  module _ (some : 0 < sum ws) where
    pub floors-le : sum_to (length ws) (floor_at q ws) ≤ q
    floors-le = le_of_mul-le-mul_right (omega (arith, division)) some

    pub floors-left : sum_to (length ws) (floor_at q ws) + left q ws ≡ q
    unfolding left
    floors-left = omega (arith, floors-le)

    -- what is left, W times, is the sum of the remainders
    pub left-times : left q ws * sum ws ≡ sum_to (length ws) (remainder_at q ws)
    left-times =
        omega (
          arith,
          division,
          add-mul (sum_to (length ws) (floor_at q ws)) (left q ws) (sum ws),
          ap (λ (s : ℕ). s * sum ws) floors-left,
        )

    -- what is left is at most the number of places that have a remainder, since each remainder is below W
    remainder-times : (i : ℕ) → remainder_at q ws i ≤ one_if (ltb 0 (remainder_at q ws i)) * sum ws
    remainder-times i =
        ⊎_elim
        (λ e. omega arith)
        (λ l. rw (lt-ltb 0 (remainder_at q ws i) l, one-true) (omega (arith, one-mul (sum ws), remainder-lt i some)))
        (eq-zero-or-pos (remainder_at q ws i))

    pub left_le : left q ws ≤ count_to (length ws) (λ k. ltb 0 (remainder_at q ws k))
    left_le =
        let counted : ℕ → ℕ = λ k. one_if (ltb 0 (remainder_at q ws k)) in
        le_of_mul-le-mul_right
        (omega (
          arith,
          left-times,
          sum_to-le (length ws) (remainder_at q ws) (λ k. counted k * sum ws) (λ k l. remainder-times k),
          sum_to-mul (length ws) counted (sum ws),
        ))
        some

    pub left-few : left q ws ≤ length ws
    left-few = omega (arith, left_le, count_small (length ws) (λ k. ltb 0 (remainder_at q ws k)))
