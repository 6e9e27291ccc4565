-- The units won are as many as are open, or all the valid units if these are fewer. The proof goes down the prices: the bids at t and above win the
-- smaller of n and their units, at each price t. Assumes nothing.
use mathlib.Core.Path.{◌≡◌, refl, sym, ap, ◌∙◌}
use mathlib.Core.Logic.{⊎_elim}
use mathlib.Core.Bool.{true}
use mathlib.Core.List.{List}
use Prim.Native.Nat.{ℕ, zero, suc, ◌+◌, ◌-◌, ◌≤◌, ◌<◌, min}
use native.Mathlib.Omega.{arith}
use lib.Dec.{eqb}
use lib.ListN.{length, get_or}
use Rattle.lists.specs.Lists.{when◌then◌else◌, sum, sum_to}
use Rattle.lists.proofs.Bools.{lt-or-le}
use Rattle.lists.proofs.Sums.{sum_to-ext, sum_to-zero, sum-places, entry-le}
use Rattle.auction.specs.Auction.{valid_units, shares_at, allot}
use Rattle.auction.specs.Edge.{counted_at, from}
use Rattle.auction.proofs.Levels.{level, counts, counts-not, is_at, is-not-at, price-cases, from_step, from_nothing, valid-all}
use Rattle.auction.proofs.Laws.{at_length, at-elsewhere, at_sum, won-invalid, won-all, won-none, won-share, allot-length}

module _ (n r : ℕ) (us ps : List ℕ) where
  abbrev ws : List ℕ
  ws = allot n r us ps

  abbrev price : ℕ → ℕ
  price i = get_or ps i 0

  -- what the bids at the price p win, from what each wins and what f gives there, where f gives 0 elsewhere
  by-price : (f : ℕ → ℕ) (p : ℕ) → ((i : ℕ) → price i ≡ p → get_or ws i 0 ≡ f i) → ((i : ℕ) → (price i ≡ p → ⊥) → f i ≡ 0)
      → level ws ps p ≡ sum_to (length us) f
  by-price f p here elsewhere =
      ap (λ (m : ℕ). sum_to m (λ i. when eqb (price i) p then get_or ws i 0 else 0)) (allot-length n r us ps)
      ∙ sum_to-ext (length us) _ f
      (λ i l. price-cases (price i) p ((when eqb (price i) p then get_or ws i 0 else 0) ≡ f i)
      (λ e. is_at p (price i) (get_or ws i 0) e ∙ here i e)
      (λ o. is-not-at p (price i) (get_or ws i 0) o ∙ sym (elsewhere i o)))

  level_all : (p : ℕ) → r ≤ p → from us ps p ≤ n → level ws ps p ≡ level us ps p
  level_all p h le =
      by-price (λ i. when eqb (price i) p then get_or us i 0 else 0) p
      (λ i e. won-all n r us ps i (omega arith) (rw e le) ∙ sym (is_at p (price i) (get_or us i 0) e))
      (λ i o. is-not-at p (price i) (get_or us i 0) o)

  level-share : (p : ℕ) → r ≤ p → n < from us ps p → from us ps (p + 1) ≤ n → level ws ps p ≡ n - from us ps (p + 1)
  level-share p h lt le =
      let q = n - from us ps (p + 1) in
      let shares = shares_at p q us ps in
      by-price (λ i. get_or shares i 0) p
      (λ i e. rw e at (won-share n r us ps i (omega arith) (rw e lt) (rw e le)))
      (λ i o. at-elsewhere us ps p q i o)
      ∙ ap (λ (m : ℕ). sum_to m (λ i. get_or shares i 0)) (sym (at_length us ps p q))
      ∙ sym (sum-places shares)
      ∙ at_sum us ps p q (omega (arith, from_step us ps p))

  level-none : (p : ℕ) → r ≤ p → n < from us ps p → n ≤ from us ps (p + 1) → level ws ps p ≡ 0
  level-none p h lt le =
      by-price (λ i. 0) p (λ i e. won-none n r us ps i (omega arith) (rw e lt) (rw e le)) (λ i o. refl) ∙ sum_to-zero (length us)

  -- the bids at t and above, of which there are d prices
  down : (d t : ℕ) → r ≤ t → ((i : ℕ) → price i < t + d) → from ws ps t ≡ min n (from us ps t)
  down zero t h top =
      omega (arith, from_nothing ws ps t (λ i. omega (arith, top i)), from_nothing us ps t (λ i. omega (arith, top i)))
  down (suc d) t h top =
      let up = down d (t + 1) (omega arith) (λ i. omega (arith, top i)) in
      let a = from_step ws ps t in
      let b = from_step us ps t in
      ⊎_elim
      (λ lt. ⊎_elim
      (λ l. omega (arith, level-none t h lt (omega arith)))
      (λ g. omega (arith, level-share t h lt g))
      (lt-or-le n (from us ps (t + 1))))
      (λ le. omega (arith, level_all t h le))
      (lt-or-le n (from us ps t))

  -- only valid bids win
  valid-only : (i : ℕ) → get_or ws i 0 ≡ counted_at ws ps r i
  valid-only i =
      ⊎_elim
      (λ l. won-invalid n r us ps i l ∙ sym (counts-not r (price i) (get_or ws i 0) l))
      (λ g. sym (counts r (price i) (get_or ws i 0) g))
      (lt-or-le (price i) r)

  -- the units won
  pub allot-sum : sum (allot n r us ps) ≡ min n (valid_units r (λ price. true) us ps)
  unfolding from
  allot-sum =
      omega (
        arith,
        sum-places ws,
        sum_to-ext (length ws) (λ i. get_or ws i 0) (counted_at ws ps r) (λ i l. valid-only i),
        down (sum ps + 1) r (omega arith) (λ i. omega (arith, entry-le ps i)),
        valid-all us ps r,
      )

  pub allot-sum-le : sum (allot n r us ps) ≤ n
  allot-sum-le = omega (arith, allot-sum)

  pub allot-sum-valid : sum (allot n r us ps) ≤ valid_units r (λ price. true) us ps
  allot-sum-valid = omega (arith, allot-sum)
