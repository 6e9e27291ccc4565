-- What holds of `split_among`, a split among those of n places that pass a test, for every test and all weights. Assumes nothing.
use mathlib.Core.Path.{◌≡◌, sym, ap, ◌∙◌}
use mathlib.Core.Logic.{⊎_elim}
use mathlib.Core.Bool.{Bool, true, false}
use mathlib.Core.List.{List, ◌++◌, map}
use Prim.Native.Nat.{ℕ, ◌+◌, ◌≤◌, ◌<◌}
use native.Mathlib.Omega.{arith}
use lib.Dec.{ltb}
use lib.ListN.{length, get_or, replicate, get_or-eq_default}
use Rattle.lists.specs.Lists.{when◌then◌else◌, sum, tab, places, keep}
use Rattle.lists.proofs.Bools.{lt-or-le, either, cases}
use Rattle.lists.proofs.Places.{length-tab, get_or-tab, get_or-tab-past, map-tab, map-places, sum-tab, tab-ext}
use Rattle.lists.proofs.Keep.{sum_kept, sum-at-kept}
use Rattle.lists.proofs.Among.{among_first, padded}
use Rattle.splitting.specs.Split.{split, split_among}
use Rattle.splitting.proofs.Shares.{split-length, split-sum, split-sum-le, split-le, split-le-weight, split-weightless}
use Rattle.splitting.proofs.Weightless.{split-among}
use Rattle.splitting.proofs.Ties.{split-order}

module _ (n : ℕ) (who : ℕ → Bool) (q : ℕ) (f : ℕ → ℕ) where
  -- the same as a weight of 0 for the others
  pub split-masked : split_among n who q f ≡ split q (tab n (λ i. when who i then f i else 0))
  unfolding split_among
  split-masked = sym (split-among q who f (places n)) ∙ ap (split q) (map-tab n (λ i. when who i then f i else 0) (λ i. i))

  abbrev masked : List ℕ
  masked = tab n (λ i. when who i then f i else 0)

  abbrev total : ℕ
  total = sum (map f (keep who (places n)))

  abbrev share : ℕ → ℕ
  share i = get_or (split_among n who q f) i 0

  masked-sum : sum masked ≡ total
  masked-sum = sum-tab n (λ i. when who i then f i else 0) ∙ sym (sum_kept n who f (λ i. i))

  masked-le : (i : ℕ) → get_or masked i 0 ≤ f i
  masked-le i =
      ⊎_elim
      (λ l. rw (get_or-tab {A = ℕ} n (λ i. when who i then f i else 0) i 0 l) (either (λ x. x ≤ f i) (who i) (omega arith) (omega arith)))
      (λ g. rw (get_or-tab-past n (λ i. when who i then f i else 0) i g) (omega arith))
      (lt-or-le i n)

  masked_off : (i : ℕ) → who i ≡ false → get_or masked i 0 ≡ 0
  masked_off i e =
      ⊎_elim
      (λ l. get_or-tab n (λ i. when who i then f i else 0) i 0 l ∙ rw e)
      (λ g. get_or-tab-past n (λ i. when who i then f i else 0) i g)
      (lt-or-le i n)

  -- a share for each place
  pub shares-length : length (split_among n who q f) ≡ n
  shares-length = ap length split-masked ∙ split-length q masked ∙ length-tab n (λ i. when who i then f i else 0)

  -- none for those that do not pass, nor past the end
  pub share-off : (i : ℕ) → who i ≡ false → get_or (split_among n who q f) i 0 ≡ 0
  share-off i e = ap (λ (l : List ℕ). get_or l i 0) split-masked ∙ split-weightless q masked i (masked_off i e)

  pub share-past : (i : ℕ) → n ≤ i → get_or (split_among n who q f) i 0 ≡ 0
  share-past i g = get_or-eq_default (split_among n who q f) 0 {n = i} (omega (arith, shares-length))

  -- the shares add up to q where q is at most the weights of those that pass, and also above it where these are not 0
  pub shares_sum : q ≤ sum (map f (keep who (places n))) → sum (split_among n who q f) ≡ q
  shares_sum h = ap sum split-masked ∙ split-sum-le q masked (omega (arith, masked-sum))

  pub shares-sum-some : 0 < sum (map f (keep who (places n))) → sum (split_among n who q f) ≡ q
  shares-sum-some h = ap sum split-masked ∙ split-sum q masked (omega (arith, masked-sum))

  -- the sum over those that pass is the sum of all
  pub shares-kept : sum (map (λ i. get_or (split_among n who q f) i 0) (keep who (places n))) ≡ sum (split_among n who q f)
  shares-kept = sum-at-kept n who (split_among n who q f) shares-length (λ i l. share-off i)

  pub shares-kept-sum : q ≤ sum (map f (keep who (places n))) → sum (map (λ i. get_or (split_among n who q f) i 0) (keep who (places n))) ≡ q
  shares-kept-sum h = shares-kept ∙ shares_sum h

  -- no share is above its weight, where q is at most the weights of those that pass, and none is above q
  pub share-le : q ≤ sum (map f (keep who (places n))) → (i : ℕ) → get_or (split_among n who q f) i 0 ≤ f i
  share-le h i =
      omega (arith, ap (λ (l : List ℕ). get_or l i 0) split-masked, split-le-weight q masked (omega (arith, masked-sum)) i, masked-le i)

  pub share-le-amount : (i : ℕ) → get_or (split_among n who q f) i 0 ≤ q
  share-le-amount i = omega (arith, ap (λ (l : List ℕ). get_or l i 0) split-masked, split-le q masked i)

  -- of those that pass, none with a larger weight has a smaller share
  pub shares-order : (j i : ℕ) → j < n → who j ≡ true → f i < f j → get_or (split_among n who q f) i 0 ≤ get_or (split_among n who q f) j 0
  shares-order j i l on h =
      let weight : get_or masked j 0 ≡ f j = get_or-tab n (λ i. when who i then f i else 0) j 0 l ∙ rw on in
      rw split-masked (split-order q masked j i (omega (arith, masked-le i)))

-- tests that agree on the places, and weights that agree where the test passes
pub shares-ext : (n : ℕ) (who who' : ℕ → Bool) (q : ℕ) (f f' : ℕ → ℕ) → ((i : ℕ) → i < n → who i ≡ who' i) → ((i : ℕ) → i < n → who i ≡ true → f i ≡ f' i)
    → split_among n who q f ≡ split_among n who' q f'
shares-ext n who who' q f f' same_test same-weight =
    split-masked n who q f
    ∙ ap (split q)
    (tab-ext n (λ i. when who i then f i else 0) (λ i. when who' i then f' i else 0)
    (λ i l. rw (sym (same_test i l))
    (cases (who i) ((when who i then f i else 0) ≡ (when who i then f' i else 0)) (λ e. rw (e, same-weight i l e)) (λ e. rw e))))
    ∙ sym (split-masked n who' q f')

-- places of weight 0 behind the others, as an array has them behind its used part, get 0 and change nothing
pub split-pad : (q : ℕ) (ws : List ℕ) (m : ℕ) → split q (ws ++ replicate m 0) ≡ split q ws ++ replicate m 0
unfolding split_among
split-pad q ws m =
    let n = length ws in
    let f : ℕ → ℕ = λ i. get_or ws i 0 in
    let own = map-places 0 ws in
    ap (split q) (sym (padded ws m))
    ∙ sym (split-masked (n + m) (λ i. ltb i n) q f)
    ∙ among_first n m (λ ks. split q (map f ks)) (ap (λ l. length (split q l)) own ∙ split-length q ws)
    ∙ ap (λ l. split q l ++ replicate m 0) own
