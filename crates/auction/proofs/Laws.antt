-- What holds of `allot`, for every list of bids, every reserve and any number of open units. Assumes nothing.
use mathlib.Core.Path.{◌≡◌, refl, sym, ◌∙◌}
use mathlib.Core.Logic.{⊎_elim}
use mathlib.Core.Bool.{Bool, false}
use mathlib.Core.List.{List, map}
use Prim.Native.Nat.{ℕ, ◌+◌, ◌-◌, ◌≤◌, ◌<◌}
use native.Mathlib.Omega.{arith}
use lib.Dec.{ltb, leb, eqb}
use lib.ListN.{length, get_or, get_or-eq_default}
use borrow.Author.Tests.{le-leb, lt-leb, eq-eqb, ne_eqb}
use Rattle.lists.specs.Lists.{when◌then◌else◌, sum, places, keep}
use Rattle.lists.proofs.Bools.{same-choice, lt-or-le}
use Rattle.lists.proofs.Places.{length-tab, get_or-tab, get_or-tab-past}
use Rattle.lists.proofs.Keep.{sum_kept}
use Rattle.splitting.proofs.Among.{shares-length, share-off, share-past, shares_sum, share-le, share-le-amount, shares-order}
use Rattle.auction.specs.Auction.{valid_at, valid_units, shares_at, won_at, allot}
use Rattle.auction.specs.Edge.{from}
use Rattle.auction.proofs.Levels.{level, from_le, from_step, valid-at-or-above, valid-above}

-- ---- the shares of the bids at one price

module _ (us ps : List ℕ) (p balance : ℕ) where
  abbrev here : ℕ → Bool
  here j = eqb (get_or ps j 0) p

  abbrev units : ℕ → ℕ
  units j = get_or us j 0

  level-kept : level us ps p ≡ sum (map units (keep here (places (length us))))
  level-kept = sym (sum_kept (length us) here units (λ j. j))

  pub at_length : length (shares_at p balance us ps) ≡ length us
  unfolding shares_at
  at_length = shares-length (length us) here balance units

  pub at-elsewhere : (i : ℕ) → (get_or ps i 0 ≡ p → ⊥) → get_or (shares_at p balance us ps) i 0 ≡ 0
  unfolding shares_at
  at-elsewhere i h = share-off (length us) here balance units i (ne_eqb (get_or ps i 0) p h)

  pub at-past : (i : ℕ) → length us ≤ i → get_or (shares_at p balance us ps) i 0 ≡ 0
  unfolding shares_at
  at-past i h = share-past (length us) here balance units i h

  pub at-le-balance : (i : ℕ) → get_or (shares_at p balance us ps) i 0 ≤ balance
  unfolding shares_at
  at-le-balance = share-le-amount (length us) here balance units

  -- of two of them the one for more units has no smaller share
  pub at-order : (j i : ℕ) → get_or ps j 0 ≡ p → get_or us i 0 < get_or us j 0 → get_or (shares_at p balance us ps) i 0 ≤ get_or (shares_at p balance us ps) j 0
  unfolding shares_at
  at-order j i e h =
      ⊎_elim
      (λ l. shares-order (length us) here balance units j i l (eq-eqb (get_or ps j 0) p e) h)
      (λ g. absurd (omega (arith, get_or-eq_default us 0 {n = j} g)))
      (lt-or-le j (length us))

  module _ (most : balance ≤ level us ps p) where
    pub at_sum : sum (shares_at p balance us ps) ≡ balance
    unfolding shares_at
    at_sum = shares_sum (length us) here balance units (omega (arith, level-kept))

    pub at-le : (i : ℕ) → get_or (shares_at p balance us ps) i 0 ≤ get_or us i 0
    unfolding shares_at
    at-le = share-le (length us) here balance units (omega (arith, level-kept))

-- ---- the allotment by cases

module _ (n r : ℕ) (us ps : List ℕ) where
  won-past : (i : ℕ) → length us ≤ i → won_at n r us ps i ≡ 0
  unfolding won_at
  won-past i h =
      let p = get_or ps i 0 in
      rw (
        get_or-eq_default us 0 {n = i} h,
        at-past us ps p (n - valid_units r (ltb p) us ps) i h,
        same-choice {A = ℕ} (leb n (valid_units r (ltb p) us ps)) 0,
        same-choice {A = ℕ} (leb (valid_units r (leb p) us ps) n) 0,
      )

  pub allot-get : (i : ℕ) → get_or (allot n r us ps) i 0 ≡ (when valid_at r ps i then won_at n r us ps i else 0)
  unfolding allot
  allot-get i =
      let won : ℕ → ℕ = λ k. when valid_at r ps k then won_at n r us ps k else 0 in
      ⊎_elim
      (λ l. get_or-tab (length us) won i 0 l)
      (λ g. get_or-tab-past (length us) won i g ∙ rw (won-past i g) (sym (same-choice (valid_at r ps i) 0)))
      (lt-or-le i (length us))

  module _ (i : ℕ) where
    abbrev price : ℕ
    price = get_or ps i 0

    abbrev won : ℕ
    won = get_or (allot n r us ps) i 0

    -- what is left for the bids at this price
    abbrev balance : ℕ
    balance = n - from us ps (price + 1)

    abbrev share : ℕ
    share = get_or (shares_at price balance us ps) i 0

    -- an invalid bid wins nothing
    pub won-invalid : get_or ps i 0 < r → get_or (allot n r us ps) i 0 ≡ 0
    unfolding valid_at
    won-invalid h = allot-get i ∙ rw (lt-leb r price h)

    module _ (valid : r ≤ get_or ps i 0) where
      won-valid : won ≡ won_at n r us ps i
      unfolding valid_at
      won-valid = allot-get i ∙ rw (le-leb r price valid)

      pub won-all : from us ps (get_or ps i 0) ≤ n → get_or (allot n r us ps) i 0 ≡ get_or us i 0
      unfolding won_at
      won-all le = won-valid ∙ rw (valid-at-or-above us ps r price valid, le-leb (from us ps price) n le)

      pub won-none : n < from us ps (get_or ps i 0) → n ≤ from us ps (get_or ps i 0 + 1) → get_or (allot n r us ps) i 0 ≡ 0
      unfolding won_at
      won-none lt le =
          won-valid
          ∙ rw (
            valid-at-or-above us ps r price valid,
            lt-leb (from us ps price) n lt,
            valid-above us ps r price valid,
            le-leb n (from us ps (price + 1)) le,
          )

      won-some : n < from us ps price → from us ps (price + 1) < n → won ≡ share
      unfolding won_at
      won-some lt le =
          won-valid
          ∙ rw (
            valid-at-or-above us ps r price valid,
            lt-leb (from us ps price) n lt,
            valid-above us ps r price valid,
            lt-leb n (from us ps (price + 1)) le,
          )

      -- where nothing is left for the bids at this price each share is 0, as the rule says
      pub won-share : n < from us ps (get_or ps i 0) → from us ps (get_or ps i 0 + 1) ≤ n
          → get_or (allot n r us ps) i 0 ≡ get_or (shares_at (get_or ps i 0) (n - from us ps (get_or ps i 0 + 1)) us ps) i 0
      won-share lt le =
          ⊎_elim
          (λ l. won-some lt l)
          (λ g. omega (arith, won-none lt g, at-le-balance us ps price balance i))
          (lt-or-le (from us ps (price + 1)) n)

    -- a claim about what a bid wins: it is enough to show it of 0, of all its units and of a share
    pub won-cases : (P : ℕ → Type 0) → P 0
        → (r ≤ get_or ps i 0 → from us ps (get_or ps i 0) ≤ n → P (get_or us i 0))
        → (r ≤ get_or ps i 0 → n < from us ps (get_or ps i 0) → from us ps (get_or ps i 0 + 1) ≤ n
        → P (get_or (shares_at (get_or ps i 0) (n - from us ps (get_or ps i 0 + 1)) us ps) i 0))
        → P (get_or (allot n r us ps) i 0)
    won-cases P none all some =
        ⊎_elim
        (λ l. rw (won-invalid l) none)
        (λ h. ⊎_elim
        (λ lt. ⊎_elim
        (λ (k : n < from us ps (price + 1)). rw (won-none h lt (omega arith)) none)
        (λ k. rw (won-share h lt k) (some h lt k))
        (lt-or-le n (from us ps (price + 1))))
        (λ le. rw (won-all h le) (all h le))
        (lt-or-le n (from us ps price)))
        (lt-or-le price r)

-- ---- the laws for callers

module _ (n r : ℕ) (us ps : List ℕ) where
  -- as many counts as bids
  pub allot-length : length (allot n r us ps) ≡ length us
  unfolding allot
  allot-length = length-tab (length us) _

  -- no bid wins more than its units
  pub allot-le : (i : ℕ) → get_or (allot n r us ps) i 0 ≤ get_or us i 0
  allot-le i =
      let p = get_or ps i 0 in
      won-cases n r us ps i (λ x. x ≤ get_or us i 0) (omega arith) (λ h le. omega arith)
      (λ h lt le. at-le us ps p (n - from us ps (p + 1)) (omega (arith, from_step us ps p)) i)

  -- an invalid bid wins nothing
  pub allot-invalid : (i : ℕ) → valid_at r ps i ≡ false → get_or (allot n r us ps) i 0 ≡ 0
  allot-invalid i e = allot-get n r us ps i ∙ rw e

  -- a bid that wins is at or above the reserve, and the units bid above its price are at most those open
  pub winner : (i : ℕ) → 0 < get_or (allot n r us ps) i 0 → (r ≤ get_or ps i 0) × (from us ps (get_or ps i 0 + 1) ≤ n)
  winner i =
      let p = get_or ps i 0 in
      won-cases n r us ps i (λ x. 0 < x → (r ≤ p) × (from us ps (p + 1) ≤ n)) (λ l. absurd (omega arith))
      (λ h le l. (h, omega (arith, from_le us ps p (p + 1) (omega arith))))
      (λ h lt le l. (h, le))

  pub allot-reserve-met : (i : ℕ) → 0 < get_or (allot n r us ps) i 0 → r ≤ get_or ps i 0
  allot-reserve-met i w = (winner i w).0

  -- where a bid wins, each bid at a higher price wins all its units
  pub allot-higher : (i j : ℕ) → 0 < get_or (allot n r us ps) i 0 → get_or ps i 0 < get_or ps j 0 → get_or (allot n r us ps) j 0 ≡ get_or us j 0
  allot-higher i j w l =
      let e = winner i w in
      won-all n r us ps j (omega arith) (omega (arith, from_le us ps (get_or ps i 0 + 1) (get_or ps j 0) (omega arith)))

  -- document 02, C-15: of two bids at one price the one for more units never wins fewer
  pub won-order : (j i : ℕ) → get_or ps i 0 ≡ get_or ps j 0 → get_or us i 0 < get_or us j 0 → get_or (allot n r us ps) i 0 ≤ get_or (allot n r us ps) j 0
  won-order j i e h =
      let p = get_or ps j 0 in
      won-cases n r us ps i (λ x. x ≤ get_or (allot n r us ps) j 0) (omega arith)
      (λ v le. omega (arith, won-all n r us ps j (omega arith) (rw e at le)))
      (λ v lt le. rw e (omega (
        arith,
        won-share n r us ps j (omega arith) (rw e at lt) (rw e at le),
        at-order us ps p (n - from us ps (p + 1)) j i refl h,
      )))
