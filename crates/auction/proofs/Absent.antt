-- A bid of 0 units is as if it were not there: the other bids win what they win without it. Nor do the prices of such bids matter, nor anything of the
-- reserve but which bids it makes valid. Assumes nothing.
use mathlib.Core.Path.{◌≡◌, refl, sym, ap, ◌∙◌}
use mathlib.Core.Logic.{⊎_elim}
use mathlib.Core.Bool.{Bool, false, ◌&&◌}
use mathlib.Core.List.{List, [], ◌∷◌, ◌++◌, map, map_congr_left}
use Prim.Native.Nat.{ℕ, ◌+◌, ◌-◌, ◌<◌}
use native.Mathlib.Nat.{eq-zero-or-pos}
use native.Mathlib.Omega.{arith}
use lib.Dec.{ltb, leb, eqb}
use lib.ListN.{length, get_or, replicate, length-map, length-append, get_or-append}
use lib.Seq.{ext_get_or}
use borrow.Author.Tests.{lt-ltb}
use Rattle.lists.specs.Lists.{when◌then◌else◌, sum_to, tab, places, keep, among}
use Rattle.lists.proofs.Bools.{same-choice, cases}
use Rattle.lists.proofs.Sums.{sum_to-ext}
use Rattle.lists.proofs.Places.{map-tab, map-places, tab-of, tab-self, tab-ext}
use Rattle.lists.proofs.Among.{place, passes, at_place, off-place, sum_to-among, among-on, among-is, among_first, padded}
use Rattle.splitting.specs.Split.{split}
use Rattle.splitting.proofs.Weightless.{split-among}
use Rattle.splitting.proofs.Among.{split-masked}
use Rattle.auction.specs.Auction.{valid_at, valid_units, shares_at, won_at, allot}
use Rattle.auction.proofs.Laws.{allot-get, allot-length, allot-le}

-- ---- bids that do not pass a test: the others win what they win alone

-- two fields of the entries of a list, by places
by-places : {A : Type 0} (f g : A → ℕ) (h : ℕ → ℕ → ℕ) (l : List A)
    → tab (length (map f l)) (λ j. h (get_or (map f l) j 0) (get_or (map g l) j 0)) ≡ map (λ x. h (f x) (g x)) l
unfolding tab
by-places f g h [] = refl
by-places f g h (x ∷ xs) = ap (λ (r : List ℕ). h (f x) (g x) ∷ r) (by-places f g h xs)

module _ {B : Type 0} (n r : ℕ) (p : B → Bool) (units price : B → ℕ) (l : List B) where
  abbrev own : B → ℕ
  own b = when p b then units b else 0

  -- all bids, with 0 units for those that do not pass
  abbrev us : List ℕ
  us = map own l

  abbrev ps : List ℕ
  ps = map price l

  -- those that pass alone
  abbrev us' : List ℕ
  us' = map units (keep p l)

  abbrev ps' : List ℕ
  ps' = map price (keep p l)

  -- where the k-th of those that pass stands
  abbrev to : ℕ → ℕ
  to k = place p l k

  units-on : (k : ℕ) → get_or us (to k) 0 ≡ get_or us' k 0
  units-on = at_place p 0 units own (λ b e. rw e) l

  units-off : (i : ℕ) → passes p l i ≡ false → get_or us i 0 ≡ 0
  units-off = off-place p own (λ b e. rw e) l

  price-on : (k : ℕ) → get_or ps (to k) 0 ≡ get_or ps' k 0
  price-on = at_place p 0 price price (λ b e. refl) l

  -- the valid units at prices that pass a test
  same_units : (test : ℕ → Bool) → valid_units r test us ps ≡ valid_units r test us' ps'
  unfolding valid_units valid_at
  same_units test =
      let part : ℕ → ℕ = λ j. when leb r (get_or ps j 0) && test (get_or ps j 0) then get_or us j 0 else 0 in
      ap (λ (m : ℕ). sum_to m part) (length-map l own)
      ∙ sum_to-among p part l (λ i e. rw (units-off i e) (same-choice (leb r (get_or ps i 0) && test (get_or ps i 0)) 0))
      ∙ sum_to-ext (length (keep p l)) _ _ (λ k h. cc (units-on k, price-on k))
      ∙ ap (λ (m : ℕ). sum_to m (λ k. when leb r (get_or ps' k 0) && test (get_or ps' k 0) then get_or us' k 0 else 0)) (sym (length-map (keep p l) units))

  -- the shares of the bids at the price x
  module _ (x balance : ℕ) where
    abbrev at : (B → ℕ) → B → ℕ
    at f b = when eqb (price b) x then f b else 0

    share-all : shares_at x balance us ps ≡ split balance (map (λ b. when p b then at units b else 0) l)
    unfolding shares_at
    share-all =
        split-masked (length us) (λ j. eqb (get_or ps j 0) x) balance (λ j. get_or us j 0)
        ∙ ap (split balance)
        (by-places own price (λ u y. when eqb y x then u else 0) l
        ∙ map_congr_left {l = l} (λ b m. cases (p b) (at own b ≡ (when p b then at units b else 0)) (λ e. rw e) (λ e. rw e (same-choice (eqb (price b) x) 0))))

    share-kept : shares_at x balance us' ps' ≡ split balance (map (at units) (keep p l))
    unfolding shares_at
    share-kept =
        split-masked (length us') (λ j. eqb (get_or ps' j 0) x) balance (λ j. get_or us' j 0)
        ∙ ap (split balance) (by-places units price (λ u y. when eqb y x then u else 0) (keep p l))

    share-on : (k : ℕ) → k < length (keep p l) → get_or (shares_at x balance us ps) (to k) 0 ≡ get_or (shares_at x balance us' ps') k 0
    share-on k h =
        ap (λ (s : List ℕ). get_or s (to k) 0) (share-all ∙ split-among balance p (at units) l)
        ∙ among-on p (λ bs. split balance (map (at units) bs)) l k h
        ∙ ap (λ (s : List ℕ). get_or s k 0) (sym share-kept)

  won-on : (k : ℕ) → k < length (keep p l) → won_at n r us ps (to k) ≡ won_at n r us' ps' k
  unfolding won_at
  won-on k h =
      let x = get_or ps' k 0 in
      rw (price-on k, units-on k, same_units (ltb x), same_units (leb x), share-on x (n - valid_units r (ltb x) us' ps') k h)

  pub allot-among : allot n r (map (λ b. when p b then units b else 0) l) (map price l) ≡ among p (λ bs. allot n r (map units bs) (map price bs)) l
  unfolding valid_at
  allot-among =
      among-is p (λ bs. allot n r (map units bs) (map price bs)) l (allot n r us ps) (allot-length n r us ps ∙ length-map l own)
      (λ k h. allot-get n r us ps (to k) ∙ rw (price-on k, won-on k h) (sym (allot-get n r us' ps' k)))
      (λ i e. omega (arith, allot-le n r us ps i, units-off i e))

-- ---- bids of 0 units

module _ (n r : ℕ) (us ps : List ℕ) (paired : length ps ≡ length us) where
  abbrev units-at : ℕ → ℕ
  units-at i = get_or us i 0

  abbrev price-at : ℕ → ℕ
  price-at i = get_or ps i 0

  all-prices : map price-at (places (length us)) ≡ ps
  all-prices = ap (λ (m : ℕ). map price-at (places m)) (sym paired) ∙ map-places 0 ps

  -- the bids that have units win what they win where the others are left out
  pub allot-kept : allot n r us ps
      ≡ among (λ i. ltb 0 (get_or us i 0)) (λ ks. allot n r (map (λ i. get_or us i 0) ks) (map (λ i. get_or ps i 0) ks)) (places (length us))
  allot-kept =
      let some : ℕ → Bool = λ i. ltb 0 (units-at i) in
      let own : ℕ → ℕ = λ i. when some i then units-at i else 0 in
      let same : map own (places (length us)) ≡ us
      = map-tab (length us) own (λ i. i)
      ∙ tab-ext (length us) own units-at (λ i l. ⊎_elim (λ e. rw e) (λ h. rw (lt-ltb 0 (units-at i) h)) (eq-zero-or-pos (units-at i)))
      ∙ sym (tab-self 0 us) in
      cc (same, all-prices, allot-among n r some units-at price-at (places (length us)))

-- places of 0 units behind the bids, at whatever price, win 0 and change nothing
pub allot-pad : (n r : ℕ) (us ps qs : List ℕ) → length ps ≡ length us
    → allot n r (us ++ replicate (length qs) 0) (ps ++ qs) ≡ allot n r us ps ++ replicate (length qs) 0
allot-pad n r us ps qs paired =
    let m = length us in
    let k = length qs in
    let units : ℕ → ℕ = λ i. get_or us i 0 in
    let price : ℕ → ℕ = λ i. get_or (ps ++ qs) i 0 in
    let own : ℕ → ℕ = λ i. when ltb i m then units i else 0 in
    let alone : List ℕ → List ℕ = λ ks. allot n r (map units ks) (map price ks) in
    let all-units : map own (places (m + k)) ≡ us ++ replicate k 0 = map-tab (m + k) own (λ i. i) ∙ padded us k in
    let all-prices : map price (places (m + k)) ≡ ps ++ qs
    = ap (λ (j : ℕ). map price (places j)) (omega (arith, length-append ps qs)) ∙ map-places 0 (ps ++ qs) in
    let own-prices : map price (places m) ≡ ps
    = map-tab m price (λ i. i) ∙ sym (tab-of m price 0 ps paired (λ i l. sym (get_or-append ps qs 0 i (omega arith)))) in
    let own-bids : alone (places m) ≡ allot n r us ps = cc (map-places 0 us, own-prices) in
    cc (all-units, all-prices)
    ∙ allot-among n r (λ i. ltb i m) units price (places (m + k))
    ∙ among_first m k alone (ap length own-bids ∙ allot-length n r us ps)
    ∙ ap (λ (l : List ℕ). l ++ replicate k 0) own-bids

-- ---- what does not matter

-- the bids that have units are at the same prices, and the same are valid
pub record Alike (us : List ℕ) (r : ℕ) (ps : List ℕ) (s : ℕ) (qs : List ℕ) : Type 0 where
  pub prices : (i : ℕ) → i < length us → 0 < get_or us i 0 → get_or ps i 0 ≡ get_or qs i 0
  pub valid : (i : ℕ) → i < length us → 0 < get_or us i 0 → valid_at r ps i ≡ valid_at s qs i

module _ (us : List ℕ) (r : ℕ) (ps : List ℕ) (s : ℕ) (qs : List ℕ) (h : Alike us r ps s qs) where
  -- a test of a bid's validity and price counts the same units
  same-part : (test : Bool → ℕ → Bool) (i : ℕ) → i < length us
      → (when test (valid_at r ps i) (get_or ps i 0) then get_or us i 0 else 0) ≡ (when test (valid_at s qs i) (get_or qs i 0) then get_or us i 0 else 0)
  same-part test i l =
      ⊎_elim
      (λ e. rw e (same-choice (test (valid_at r ps i) (get_or ps i 0)) 0 ∙ sym (same-choice (test (valid_at s qs i) (get_or qs i 0)) 0)))
      (λ g. rw (h.valid i l g, h.prices i l g))
      (eq-zero-or-pos (get_or us i 0))

  same-valid : (test : ℕ → Bool) → valid_units r test us ps ≡ valid_units s test us qs
  unfolding valid_units
  same-valid test = sum_to-ext (length us) _ _ (λ i l. same-part (λ v x. v && test x) i l)

  same-shares : (p balance : ℕ) → shares_at p balance us ps ≡ shares_at p balance us qs
  unfolding shares_at
  same-shares p balance =
      split-masked (length us) (λ j. eqb (get_or ps j 0) p) balance (λ j. get_or us j 0)
      ∙ ap (split balance) (tab-ext (length us) _ _ (λ i l. same-part (λ v x. eqb x p) i l))
      ∙ sym (split-masked (length us) (λ j. eqb (get_or qs j 0) p) balance (λ j. get_or us j 0))

  same-won : (n i : ℕ) → get_or ps i 0 ≡ get_or qs i 0 → won_at n r us ps i ≡ won_at n s us qs i
  unfolding won_at
  same-won n i e =
      let x = get_or qs i 0 in
      rw (e, same-valid (ltb x), same-valid (leb x), same-shares x (n - valid_units s (ltb x) us qs))

  pub allot-agree : (n : ℕ) → allot n r us ps ≡ allot n s us qs
  allot-agree n =
      ext_get_or 0 (allot n r us ps) (allot n s us qs) (allot-length n r us ps ∙ sym (allot-length n s us qs))
      (λ i l. ⊎_elim
      (λ e. omega (arith, allot-le n r us ps i, allot-le n s us qs i))
      (λ g.
      let within : i < length us = omega (arith, allot-length n r us ps) in
      allot-get n r us ps i ∙ rw (h.valid i within g, same-won n i (h.prices i within g)) (sym (allot-get n s us qs i)))
      (eq-zero-or-pos (get_or us i 0)))

-- two reserves under which the same bids are valid give the same allotment
pub allot-reserve : (n r s : ℕ) (us ps : List ℕ) → ((i : ℕ) → i < length us → 0 < get_or us i 0 → valid_at r ps i ≡ valid_at s ps i)
    → allot n r us ps ≡ allot n s us ps
allot-reserve n r s us ps h = allot-agree us r ps s ps (record { prices = λ i l g. refl; valid = h }) n
