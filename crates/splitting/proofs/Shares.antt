-- What holds of `split`, for every list of weights and every q. Assumes nothing.
use mathlib.Core.Path.{◌≡◌, refl, sym, ap, ◌∙◌}
use mathlib.Core.Logic.{⊎_elim}
use mathlib.Core.Bool.{Bool, true}
use mathlib.Core.List.{List}
use Prim.Native.Nat.{ℕ, ◌+◌, ◌*◌, ◌≤◌, ◌<◌}
use native.Mathlib.Nat.{eq-zero-or-pos, zero-mul, mul-zero, zero-mod, zero-div, mul-le-mul_right, mul_comm, le_of_mul-le-mul_right}
use native.Mathlib.Omega.{arith}
use lib.Dec.{ltb, eqb}
use lib.ListN.{length, get_or, get_or-eq_default, replicate, length-replicate, get_or-replicate}
use lib.Seq.{ext_get_or}
use borrow.Author.Tests.{ltb-true, lt-ltb, le-ltb, eq-eqb, ne_eqb}
use Rattle.lists.specs.Lists.{when◌then◌else◌, sum, one_if, count_to, tab}
use Rattle.lists.specs.Order.{earlier}
use Rattle.lists.proofs.Bools.{lt-or-le, one_if-small, one-false}
use Rattle.lists.proofs.Sums.{entry-le, sum_to-add, sum_to-zero}
use Rattle.lists.proofs.Places.{length-tab, get_or-tab, get_or-tab-past, get_or-same, sum-tab, tab-same}
use Rattle.lists.proofs.Orders.{Strict, larger, same, earlier-strict, larger-strict, first, once, count-le}
use Rattle.splitting.specs.Split.{floor_at, remainder_at, at_tie, ahead, places_ahead, left, share_at, split}
use Rattle.splitting.proofs.Division.{floor-remainder, floors-left, left_le, left-few}

-- the order at a tie is a strict total order of the places
pub tie-strict : (ws : List ℕ) → Strict (at_tie ws)
unfolding at_tie
tie-strict ws = larger-strict (λ k. get_or ws k 0) earlier earlier-strict

module _ (q : ℕ) (ws : List ℕ) where
  -- ---- the order of the hand-out

  -- `ahead` is a strict total order of the places
  pub ahead-strict : Strict (ahead q ws)
  unfolding ahead
  ahead-strict = larger-strict (remainder_at q ws) (at_tie ws) (tie-strict ws)

  -- a place with a larger remainder is ahead
  pub ahead-larger : (j i : ℕ) → remainder_at q ws i < remainder_at q ws j → ahead q ws j i ≡ true
  unfolding ahead
  ahead-larger j i h = larger (remainder_at q ws) (at_tie ws) j i h

  -- of two places with the same remainder the one with the larger weight is ahead
  pub ahead-heavier : (j i : ℕ) → remainder_at q ws j ≡ remainder_at q ws i → get_or ws i 0 < get_or ws j 0 → ahead q ws j i ≡ true
  unfolding ahead at_tie
  ahead-heavier j i e h = same (remainder_at q ws) (at_tie ws) j i e ∙ larger (λ k. get_or ws k 0) earlier j i h

  -- and of two with the same weight too the earlier
  pub ahead-earlier : (j i : ℕ) → remainder_at q ws j ≡ remainder_at q ws i → get_or ws j 0 ≡ get_or ws i 0 → j < i → ahead q ws j i ≡ true
  unfolding ahead at_tie earlier
  ahead-earlier j i e f l = same (remainder_at q ws) (at_tie ws) j i e ∙ same (λ k. get_or ws k 0) earlier j i f ∙ lt-ltb j i l

  -- how many places are ahead of a place ranks the places: each number below their count is that of exactly one place
  pub ranked-once : (m : ℕ) → m < length ws → count_to (length ws) (λ i. eqb (places_ahead q ws i) m) ≡ 1
  unfolding places_ahead
  ranked-once m h = once (ahead q ws) ahead-strict (length ws) m h

  -- a place with no remainder has at least as many places ahead of it as are left to hand out, so its share is its floor
  pub no-remainder : (i : ℕ) → 0 < sum ws → remainder_at q ws i ≡ 0 → share_at q ws i ≡ floor_at q ws i
  unfolding share_at places_ahead
  no-remainder i h e =
      let more = count-le (length ws) (λ k. ltb 0 (remainder_at q ws k)) (λ k. ahead q ws k i)
      (λ k t. ahead-larger k i (omega (arith, ltb-true 0 (remainder_at q ws k) t))) in
      omega (arith, one-false, ap one_if (le-ltb (count_to (length ws) (λ k. ahead q ws k i)) (left q ws) (omega (arith, left_le q ws h))))

  -- ---- the split by cases of W

  pub split-some : 0 < sum ws → split q ws ≡ tab (length ws) (share_at q ws)
  unfolding split
  split-some h = ap (λ (b : Bool). tab (length ws) (λ i. when b then 0 else share_at q ws i)) (ne_eqb (sum ws) 0 (omega arith))

  pub split-none : sum ws ≡ 0 → split q ws ≡ replicate (length ws) 0
  unfolding split
  split-none h =
      ap (λ (b : Bool). tab (length ws) (λ i. when b then 0 else share_at q ws i)) (eq-eqb (sum ws) 0 h) ∙ tab-same (length ws) 0

  -- as many shares as weights
  pub split-length : length (split q ws) ≡ length ws
  unfolding split
  split-length = length-tab (length ws) _

  -- a place whose product with q is 0 has the share 0
  share-nothing : (i : ℕ) → 0 < sum ws → q * get_or ws i 0 ≡ 0 → share_at q ws i ≡ 0
  unfolding floor_at remainder_at
  share-nothing i h e = no-remainder i h (rw e (zero-mod (sum ws))) ∙ rw e (zero-div (sum ws))

  -- the share at any place, past the end too
  pub split_at : (i : ℕ) → 0 < sum ws → get_or (split q ws) i 0 ≡ share_at q ws i
  split_at i h =
      ap (λ (l : List ℕ). get_or l i 0) (split-some h)
      ∙ ⊎_elim
      (λ l. get_or-tab (length ws) (share_at q ws) i 0 l)
      (λ g.
      get_or-tab-past (length ws) (share_at q ws) i g
      ∙ sym (share-nothing i h (rw (get_or-eq_default ws 0 {n = i} g) (mul-zero q))))
      (lt-or-le i (length ws))

  pub split-at-none : (i : ℕ) → sum ws ≡ 0 → get_or (split q ws) i 0 ≡ 0
  split-at-none i e = ap (λ (l : List ℕ). get_or l i 0) (split-none e) ∙ get_or-same (length ws) i 0

  -- a claim about a share: it is enough to show it of 0 and, where W is not 0, of `share_at`
  pub share-cases : (i : ℕ) (P : ℕ → Type 0) → P 0 → (0 < sum ws → P (share_at q ws i)) → P (get_or (split q ws) i 0)
  share-cases i P none some =
      ⊎_elim (λ e. rw (split-at-none i e) none) (λ h. rw (split_at i h) (some h)) (eq-zero-or-pos (sum ws))

  -- ---- sums

  -- the shares add up to q, unless every weight is 0
  pub split-sum : 0 < sum ws → sum (split q ws) ≡ q
  unfolding share_at places_ahead
  split-sum h =
      let n = length ws in
      let extra : ℕ → ℕ = λ i. one_if (ltb (places_ahead q ws i) (left q ws)) in
      omega (
        arith,
        ap sum (split-some h),
        sum-tab n (share_at q ws),
        sum_to-add n (floor_at q ws) extra,
        first (ahead q ws) ahead-strict n (left q ws) (left-few q ws h),
        floors-left q ws h,
      )

  -- the same without a condition on the weights, where q is at most W
  pub split-sum-le : q ≤ sum ws → sum (split q ws) ≡ q
  split-sum-le le =
      ⊎_elim
      (λ e. omega (arith, ap sum (split-none e ∙ sym (tab-same (length ws) 0)), sum-tab (length ws) (λ i. 0), sum_to-zero (length ws)))
      (λ h. split-sum h)
      (eq-zero-or-pos (sum ws))

  -- ---- single shares

  -- a share is at most q
  pub split-le : (i : ℕ) → get_or (split q ws) i 0 ≤ q
  split-le i =
      ⊎_elim
      (λ e. omega (arith, share-cases i (λ x. x ≤ q) (omega arith) (λ h. absurd (omega arith))))
      (λ h. omega (arith, entry-le (split q ws) i, split-sum h))
      (eq-zero-or-pos (sum ws))

  -- a share is its floor or one more
  pub share-close : (i : ℕ) → share_at q ws i ≤ floor_at q ws i + 1
  unfolding share_at
  share-close i = omega (arith, one_if-small (ltb (places_ahead q ws i) (left q ws)))

  -- where q is at most W a share is at most its weight: a floor that reaches the weight leaves no remainder
  share-le-weight : (i : ℕ) → 0 < sum ws → q ≤ sum ws → share_at q ws i ≤ get_or ws i 0
  share-le-weight i h le =
      let w = get_or ws i 0 in
      let most : q * w ≤ w * sum ws = omega (arith, mul-le-mul_right w le, mul_comm (sum ws) w) in
      let whole = floor-remainder q ws i in
      ⊎_elim
      (λ l. omega (arith, share-close i))
      (λ g.
      let exact : remainder_at q ws i ≡ 0 = omega (arith, mul-le-mul_right (sum ws) g) in
      let fits : floor_at q ws i ≤ w = le_of_mul-le-mul_right (omega arith) h in
      omega (arith, no-remainder i h exact))
      (lt-or-le (floor_at q ws i) w)

  pub split-le-weight : q ≤ sum ws → (i : ℕ) → get_or (split q ws) i 0 ≤ get_or ws i 0
  split-le-weight le i = share-cases i (λ x. x ≤ get_or ws i 0) (omega arith) (λ h. share-le-weight i h le)

  share-of-nothing : (i : ℕ) → q * get_or ws i 0 ≡ 0 → get_or (split q ws) i 0 ≡ 0
  share-of-nothing i e = share-cases i (λ x. x ≡ 0) refl (λ h. share-nothing i h e)

  -- a place of weight 0 gets nothing
  pub split-weightless : (i : ℕ) → get_or ws i 0 ≡ 0 → get_or (split q ws) i 0 ≡ 0
  split-weightless i e = share-of-nothing i (rw e (mul-zero q))

-- to split nothing gives nothing
pub split-nothing : (ws : List ℕ) → split 0 ws ≡ replicate (length ws) 0
split-nothing ws =
    let n = length ws in
    ext_get_or 0 (split 0 ws) (replicate n 0) (split-length 0 ws ∙ sym (length-replicate n 0))
    (λ i l. share-of-nothing 0 ws i (zero-mul (get_or ws i 0)) ∙ sym (get_or-replicate n i 0 0 (omega (arith, split-length 0 ws))))
