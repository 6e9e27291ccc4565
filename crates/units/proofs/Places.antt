-- The places at which units are counted, kind by kind, and sums over them. Assumes nothing.
use mathlib.Core.Path.{◌≡◌, ap, subst, ◌∙◌}
use mathlib.Core.Logic.{⊎_elim}
use mathlib.Core.List.{List}
use Prim.Native.Nat.{ℕ, zero, suc, ◌+◌, ◌-◌, ◌*◌, ◌/◌, ◌%◌, ◌<◌}
use native.Mathlib.Omega.{arith}
use lib.ListN.{get_or}
use borrow.Author.Tests.{lt-ltb, le-ltb}
use Rattle.lists.specs.Lists.{sum_to}
use Rattle.lists.proofs.Bools.{lt-or-le}
use Rattle.machine.specs.Roll.{Open, Sold, Allocated, Moved, Torn, Agreed, Bid, no_bid}
use Rattle.units.specs.Places.{allocated_at, sold_at, moved_at, agreed_at, unit_at, weigh}

-- ---- the entry at each place

module _ (allocation noted buyers : List ℕ) (bids : List Bid) where
  pub unit-open : (pool : ℕ) → pool < 4 → unit_at allocation noted buyers bids pool ≡ record { pool = pool; state = Open }
  unfolding unit_at
  unit-open pool l = rw (lt-ltb pool 4 l)

  pub unit-allocated : (pool m : ℕ) → pool < 4 → m < 32 → unit_at allocation noted buyers bids (allocated_at pool m) ≡ record { pool = pool; state = Allocated m (get_or allocation pool 0) }
  unfolding unit_at
  unit-allocated pool m lp lm =
      let k = allocated_at pool m in
      let p : k % 4 ≡ pool = omega arith in
      let q : (k - 4) / 4 ≡ m = omega arith in
      rw (le-ltb k 4 (omega arith), lt-ltb k 132 (omega arith), p, q)

  pub unit-sold : (b : ℕ) → b < 256 → unit_at allocation noted buyers bids (sold_at b) ≡ record { pool = (get_or bids b no_bid).pool; state = Sold b }
  unfolding unit_at
  unit-sold b l =
      let k = sold_at b in
      let q : k - 132 ≡ b = omega arith in
      rw (le-ltb k 4 (omega arith), le-ltb k 132 (omega arith), lt-ltb k 388 (omega arith), q)

  pub unit-moved : (pool m : ℕ) → pool < 4 → m < 32 → unit_at allocation noted buyers bids (moved_at pool m) ≡ record { pool = pool; state = Moved m }
  unfolding unit_at
  unit-moved pool m lp lm =
      let k = moved_at pool m in
      let p : k % 4 ≡ pool = omega arith in
      let q : (k - 388) / 4 ≡ m = omega arith in
      rw (le-ltb k 4 (omega arith), le-ltb k 132 (omega arith), le-ltb k 388 (omega arith), lt-ltb k 516 (omega arith), p, q)

  pub unit-torn : (i : ℕ) → i < 260 → unit_at allocation noted buyers bids (516 + i) ≡ record { pool = i % 4; state = Torn (get_or noted i 0) }
  unfolding unit_at
  unit-torn i l =
      let k = 516 + i in
      let p : k % 4 ≡ i % 4 = omega arith in
      let q : k - 516 ≡ i = omega arith in
      rw (le-ltb k 4 (omega arith), le-ltb k 132 (omega arith), le-ltb k 388 (omega arith), le-ltb k 516 (omega arith), lt-ltb k 776 (omega arith), p, q)

  pub unit-agreed : (pool : ℕ) → pool < 4
      → unit_at allocation noted buyers bids (agreed_at pool) ≡ record { pool = pool; state = Agreed (get_or buyers pool 0) (get_or noted (260 + pool) 0) }
  unfolding unit_at
  unit-agreed pool l =
      let k = agreed_at pool in
      let p : k % 4 ≡ pool = omega arith in
      let q : k - 516 ≡ 260 + pool = omega arith in
      rw (le-ltb k 4 (omega arith), le-ltb k 132 (omega arith), le-ltb k 388 (omega arith), le-ltb k 516 (omega arith), le-ltb k 776 (omega arith), p, q)

-- ---- what holds of each kind of place holds of each place

pub by_place : (P : ℕ → Type 0) → ((pool : ℕ) → pool < 4 → P pool) → ((pool m : ℕ) → pool < 4 → m < 32 → P (allocated_at pool m)) → ((b : ℕ) → b < 256 → P (sold_at b))
    → ((pool m : ℕ) → pool < 4 → m < 32 → P (moved_at pool m)) → ((i : ℕ) → i < 260 → P (516 + i)) → ((pool : ℕ) → pool < 4 → P (agreed_at pool)) → (k : ℕ) → k < 780 → P k
by_place P open' allocated sold moved torn agreed k l =
    ⊎_elim
    (λ h. open' k h)
    (λ g. ⊎_elim
    (λ h. subst P (omega arith) (allocated (k % 4) ((k - 4) / 4) (omega arith) (omega arith)))
    (λ g. ⊎_elim
    (λ h. subst P (omega arith) (sold (k - 132) (omega arith)))
    (λ g. ⊎_elim
    (λ h. subst P (omega arith) (moved (k % 4) ((k - 388) / 4) (omega arith) (omega arith)))
    (λ g. ⊎_elim
    (λ h. subst P (omega arith) (torn (k - 516) (omega arith)))
    (λ g. subst P (omega arith) (agreed (k - 776) (omega arith)))
    (lt-or-le k 776))
    (lt-or-le k 516))
    (lt-or-le k 388))
    (lt-or-le k 132))
    (lt-or-le k 4)

-- ---- sums kind by kind

pub sum-split : (a b : ℕ) (g : ℕ → ℕ) → sum_to (a + b) g ≡ sum_to a g + sum_to b (λ k. g (a + k))
unfolding sum_to
sum-split a zero g = let e : a + 0 ≡ a = omega arith in rw e (omega arith)
sum-split a (suc b) g = let e : a + suc b ≡ suc (a + b) = omega arith in rw e (omega (arith, sum-split a b g))

-- in rows of four
pub sum_rows : (n : ℕ) (g : ℕ → ℕ) → sum_to (4 * n) g ≡ sum_to n (λ m. sum_to 4 (λ p. g (4 * m + p)))
unfolding sum_to
sum_rows zero g = omega arith
sum_rows (suc n) g = let e : 4 * suc n ≡ 4 * n + 4 = omega arith in rw e (sum-split (4 * n) 4 g ∙ ap (λ (x : ℕ). x + sum_to 4 (λ p. g (4 * n + p))) (sum_rows n g))

module _ (counts : List ℕ) (v : ℕ → ℕ) where
  -- what a place adds
  abbrev part : ℕ → ℕ
  part k = get_or counts k 0 * v k

  pub weigh-parts : weigh counts v
      ≡ sum_to 4 part + sum_to 32 (λ m. sum_to 4 (λ pool. part (allocated_at pool m))) + sum_to 256 (λ b. part (sold_at b))
      + sum_to 32 (λ m. sum_to 4 (λ pool. part (moved_at pool m))) + sum_to 260 (λ i. part (516 + i))
      + sum_to 4 (λ pool. part (agreed_at pool))
  unfolding weigh
  weigh-parts =
      omega (
        arith,
        sum-split 776 4 part,
        sum-split 516 260 part,
        sum-split 388 128 part,
        sum_rows 32 (λ j. part (388 + j)),
        sum-split 132 256 part,
        sum-split 4 128 part,
        sum_rows 32 (λ j. part (4 + j)),
      )
