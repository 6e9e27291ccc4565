-- A place of weight 0 is the same as not being in the list: the shares of the others stay as they are. Assumes nothing.
use mathlib.Core.Path.{◌≡◌, sym, ap, ◌∙◌}
use mathlib.Core.Logic.{⊎_elim}
use mathlib.Core.Bool.{Bool, false}
use mathlib.Core.List.{List, map}
use Prim.Native.Nat.{ℕ, ◌<◌}
use native.Mathlib.Nat.{eq-zero-or-pos, mul-zero, zero-mod, zero-div}
use native.Mathlib.Omega.{arith}
use lib.ListN.{length, get_or, length-map}
use Rattle.lists.specs.Lists.{when◌then◌else◌, sum, sum_to, one_if, keep, among}
use Rattle.lists.specs.Order.{larger_first, earlier}
use Rattle.lists.proofs.Bools.{one-false}
use Rattle.lists.proofs.Sums.{sum_to-ext, sum-places}
use Rattle.lists.proofs.Among.{place, passes, place-order, at_place, off-place, sum_to-among, among-is}
use Rattle.lists.proofs.Orders.{smaller}
use Rattle.splitting.specs.Split.{floor_at, remainder_at, at_tie, ahead, places_ahead, left, share_at, split}
use Rattle.splitting.proofs.Shares.{no-remainder, split_at, split-at-none, split-length, split-weightless}

-- q is split by f among those that pass a test: the same as a weight of 0 for the others
module _ {A : Type 0} (q : ℕ) (p : A → Bool) (f : A → ℕ) (l : List A) where
  -- with 0 for those that do not pass
  abbrev weight : A → ℕ
  weight x = when p x then f x else 0

  abbrev all-weights : List ℕ
  all-weights = map weight l

  -- of those that pass alone
  abbrev own-weights : List ℕ
  own-weights = map f (keep p l)

  -- where the k-th of those that pass stands
  abbrev to : ℕ → ℕ
  to k = place p l k

  weight-on : (k : ℕ) → get_or all-weights (to k) 0 ≡ get_or own-weights k 0
  weight-on = at_place p 0 f weight (λ x e. rw e) l

  weight-off : (i : ℕ) → passes p l i ≡ false → get_or all-weights i 0 ≡ 0
  weight-off = off-place p weight (λ x e. rw e) l

  -- a sum over all places, in which a place of weight 0 gives 0, and the sum over those that pass
  sums : (g h : ℕ → ℕ) → ((i : ℕ) → passes p l i ≡ false → g i ≡ 0) → ((k : ℕ) → k < length (keep p l) → g (to k) ≡ h k)
      → sum_to (length all-weights) g ≡ sum_to (length own-weights) h
  sums g h off on =
      ap (λ (n : ℕ). sum_to n g) (length-map l weight)
      ∙ sum_to-among p g l off
      ∙ sum_to-ext (length (keep p l)) _ h on
      ∙ ap (λ (n : ℕ). sum_to n h) (sym (length-map (keep p l) f))

  same_sum : sum all-weights ≡ sum own-weights
  same_sum =
      sum-places all-weights
      ∙ sums (λ i. get_or all-weights i 0) (λ k. get_or own-weights k 0) weight-off (λ k h. weight-on k)
      ∙ sym (sum-places own-weights)

  floor-on : (k : ℕ) → floor_at q all-weights (to k) ≡ floor_at q own-weights k
  unfolding floor_at
  floor-on k = cc (weight-on k, same_sum)

  floor-off : (i : ℕ) → passes p l i ≡ false → floor_at q all-weights i ≡ 0
  unfolding floor_at
  floor-off i e = rw (weight-off i e, mul-zero q) (zero-div (sum all-weights))

  remainder-on : (k : ℕ) → remainder_at q all-weights (to k) ≡ remainder_at q own-weights k
  unfolding remainder_at
  remainder-on k = cc (weight-on k, same_sum)

  remainder-off : (i : ℕ) → passes p l i ≡ false → remainder_at q all-weights i ≡ 0
  unfolding remainder_at
  remainder-off i e = rw (weight-off i e, mul-zero q) (zero-mod (sum all-weights))

  same_left : left q all-weights ≡ left q own-weights
  unfolding left
  same_left = omega (arith, sums (floor_at q all-weights) (floor_at q own-weights) floor-off (λ k h. floor-on k))

  ahead-on : (j k : ℕ) → ahead q all-weights (to j) (to k) ≡ ahead q own-weights j k
  unfolding ahead at_tie larger_first earlier
  ahead-on j k = cc (remainder-on j, remainder-on k, weight-on j, weight-on k, place-order p l j k)

  -- a place of weight 0 is behind every place that has a remainder
  ahead-off : (i k : ℕ) → passes p l i ≡ false → 0 < remainder_at q own-weights k → ahead q all-weights i (to k) ≡ false
  unfolding ahead
  ahead-off i k e h = smaller (remainder_at q all-weights) (at_tie all-weights) i (to k) (omega (arith, remainder-off i e, remainder-on k))

  same_ahead : (k : ℕ) → 0 < remainder_at q own-weights k → places_ahead q all-weights (to k) ≡ places_ahead q own-weights k
  unfolding places_ahead
  same_ahead k h =
      sums (λ j. one_if (ahead q all-weights j (to k))) (λ j. one_if (ahead q own-weights j k))
      (λ i e. ap one_if (ahead-off i k e h) ∙ one-false)
      (λ j m. ap one_if (ahead-on j k))

  share-on : (k : ℕ) → 0 < sum own-weights → share_at q all-weights (to k) ≡ share_at q own-weights k
  unfolding share_at
  share-on k h =
      ⊎_elim
      (λ e.
      no-remainder q all-weights (to k) (omega (arith, same_sum)) (remainder-on k ∙ e)
      ∙ floor-on k ∙ sym (no-remainder q own-weights k h e))
      (λ m. cc (floor-on k, same_left, same_ahead k m))
      (eq-zero-or-pos (remainder_at q own-weights k))

  pub split-among : split q (map (λ x. when p x then f x else 0) l) ≡ among p (λ ks. split q (map f ks)) l
  split-among =
      among-is p (λ ks. split q (map f ks)) l (split q all-weights) (split-length q all-weights ∙ length-map l weight)
      (λ k m. ⊎_elim
      (λ e. split-at-none q all-weights (to k) (same_sum ∙ e) ∙ sym (split-at-none q own-weights k e))
      (λ h. split_at q all-weights (to k) (omega (arith, same_sum)) ∙ share-on k h ∙ sym (split_at q own-weights k h))
      (eq-zero-or-pos (sum own-weights)))
      (λ i e. split-weightless q all-weights i (weight-off i e))
