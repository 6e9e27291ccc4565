-- What `add_at` leaves, and sums by key one entry at a time. Assumes nothing.
use mathlib.Core.Path.{◌≡◌, refl, sym, ap, ◌∙◌}
use mathlib.Core.Logic.{⊎_elim}
use mathlib.Core.List.{List, [], ◌∷◌, map}
use Prim.Native.Nat.{ℕ, zero, suc, ◌+◌, ◌≤◌, ◌<◌, min}
use native.Mathlib.Nat.{min-eq_left}
use native.Mathlib.Numerals.{add-one}
use native.Mathlib.Omega.{arith}
use lib.Dec.{eqb}
use lib.ListN.{length, get_or, set, take, replicate, length-set}
use lib.Seq.{take-suc, set_out, get_or-set_same, get_or-set_other, ext_get_or}
use borrow.Author.Tests.{eqb-true, eqb-false, ne_eqb}
use Rattle.lists.specs.Lists.{when◌then◌else◌, sum, sum_to, tab, sum_by_key}
use Rattle.lists.specs.Adding.{add_at, held_to}
use Rattle.lists.proofs.Bools.{cases, lt-or-le, eqb_same}
use Rattle.lists.proofs.Sums.{sum-append, sum_to-ext, sum_to-add, sum_to-zero}
use Rattle.lists.proofs.Each.{Each, map-append, length-map}
use Rattle.lists.proofs.Places.{tab-same, length-tab, get_or-tab, sum-tab}
use Rattle.lists.proofs.Keep.{sum_to-one}

module _ (most : ℕ) (a : List ℕ) (k v : ℕ) where
  -- a sum that fits
  pub added : get_or a k 0 + v ≤ most → add_at most a k v ≡ set a k (get_or a k 0 + v)
  unfolding add_at
  added fits = ap (set a k) (min-eq_left fits)

  pub added-past : length a ≤ k → add_at most a k v ≡ a
  unfolding add_at
  added-past h = set_out a k (min (get_or a k 0 + v) most) h

  pub length-added : length (add_at most a k v) ≡ length a
  unfolding add_at
  length-added = length-set a k (min (get_or a k 0 + v) most)

  pub added-here : k < length a → get_or (add_at most a k v) k 0 ≡ min (get_or a k 0 + v) most
  unfolding add_at
  added-here h = get_or-set_same a k (min (get_or a k 0 + v) most) 0 h

  -- another place
  pub added-other : (i : ℕ) → (i ≡ k → ⊥) → get_or (add_at most a k v) i 0 ≡ get_or a i 0
  unfolding add_at
  added-other i apart = get_or-set_other a k i (min (get_or a k 0 + v) most) 0 apart

-- ---- numbers held to a width

module _ (most : ℕ) where
  pub length-held : (l : List ℕ) → length (held_to most l) ≡ length l
  unfolding held_to
  length-held l = length-map (λ n. min n most) l

  pub held_at : (l : List ℕ) (k : ℕ) → get_or (held_to most l) k 0 ≡ min (get_or l k 0) most
  unfolding held_to
  held_at [] k = omega arith
  held_at (x ∷ l) zero = refl
  held_at (x ∷ l) (suc k) = held_at l k

  -- all of them fit
  pub held_same : (l : List ℕ) → ((k : ℕ) → k < length l → get_or l k 0 ≤ most) → held_to most l ≡ l
  held_same l fits = ext_get_or 0 (held_to most l) l (length-held l) (λ k h. held_at l k ∙ min-eq_left (fits k (omega (arith, length-held l))))

-- ---- sums by key, one entry after the other

-- the value of an entry, if it has the key k
abbrev pub of_key : {A : Type 0} → (A → ℕ) → (A → ℕ) → ℕ → A → ℕ
of_key key value k x = when eqb (key x) k then value x else 0

module _ {A : Type 0} (n : ℕ) (key value : A → ℕ) where
  pub length-sums : (l : List A) → length (sum_by_key n key value l) ≡ n
  unfolding sum_by_key
  length-sums l = length-tab n (λ k. sum (map (of_key key value k) l))

  pub get_or-sums : (l : List A) (k : ℕ) → k < n → get_or (sum_by_key n key value l) k 0 ≡ sum (map (of_key key value k) l)
  unfolding sum_by_key
  get_or-sums l k h = get_or-tab n (λ k. sum (map (of_key key value k) l)) k 0 h

  pub sums_none : sum_by_key n key value [] ≡ tab n (λ k. 0)
  unfolding sum_by_key sum
  sums_none = refl

  -- a loop that adds up by key, with sums held to a width
  module _ (most : ℕ) where
    -- what it has after the first i entries of a list
    abbrev pub tallied : List A → ℕ → List ℕ
    tallied l i = held_to most (sum_by_key n key value (take i l))

    pub tallied-long : (l : List A) (i : ℕ) → length (tallied l i) ≡ n
    tallied-long l i = length-held most (sum_by_key n key value (take i l)) ∙ length-sums (take i l)

    pub tallied-none : (l : List A) → replicate n 0 ≡ tallied l 0
    tallied-none l =
        sym (tab-same n 0) ∙ sym (held_same most (tab n (λ k. 0)) (λ k h. rw (get_or-tab {A = ℕ} n (λ k. 0) k 0 (omega (arith, length-tab {A = ℕ} n (λ k. 0)))) (omega arith)))
        ∙ ap (held_to most) (sym sums_none)

    -- one turn
    module _ (l : List A) (i : ℕ) (d : A) (inside : i < length l) where
      abbrev at : ℕ
      at = key (get_or l i d)

      abbrev more : ℕ
      more = value (get_or l i d)

      one_more : (k : ℕ) → sum (map (of_key key value k) (take (i + 1) l)) ≡ sum (map (of_key key value k) (take i l)) + of_key key value k (get_or l i d)
      unfolding sum
      one_more k = rw (add-one i, take-suc l i d inside, map-append (of_key key value k) (take i l) (get_or l i d ∷ []), sum-append) (omega arith)

      -- a sum after the turn
      next-at : (k : ℕ) → k < n → get_or (tallied l (i + 1)) k 0 ≡ min (sum (map (of_key key value k) (take i l)) + of_key key value k (get_or l i d)) most
      next-at k h = held_at most _ k ∙ rw (get_or-sums (take (i + 1) l) k h, one_more k)

      old-at : (k : ℕ) → k < n → get_or (tallied l i) k 0 ≡ min (sum (map (of_key key value k) (take i l))) most
      old-at k h = held_at most _ k ∙ rw (get_or-sums (take i l) k h)

      pub tallied-next : add_at most (tallied l i) at more ≡ tallied l (i + 1)
      tallied-next =
          ext_get_or 0 _ _ (length-added most (tallied l i) at more ∙ tallied-long l i ∙ sym (tallied-long l (i + 1)))
          (λ k h.
          let kn : k < n = omega (arith, length-added most (tallied l i) at more, tallied-long l i) in
          cases (eqb at k) _
          (λ t.
          let e = eqb-true at k t in
          let here : get_or (add_at most (tallied l i) at more) k 0 ≡ min (get_or (tallied l i) k 0 + more) most =
          rw (← e) (added-here most (tallied l i) at more (omega (arith, tallied-long l i))) in
          here ∙ rw (old-at k kn, next-at k kn, t) (omega arith))
          (λ t.
          added-other most (tallied l i) at more k (λ e. eqb-false at k t (sym e)) ∙ rw (old-at k kn, next-at k kn, t) (omega arith)))

-- ---- what sums by key add up to

-- a value at its key
key_in : (n j v : ℕ) → j < n → sum_to n (λ k. when eqb j k then v else 0) ≡ v
key_in n j v h =
    sum_to-ext n _ (λ k. when eqb k j then v else 0) (λ k l. rw (eqb_same j k k j (λ e. sym e) (λ e. sym e))) ∙ sum_to-one n j v h

key-out : (n j v : ℕ) → n ≤ j → sum_to n (λ k. when eqb j k then v else 0) ≡ 0
key-out n j v h = sum_to-ext n _ (λ k. 0) (λ k l. rw (ne_eqb j k (omega arith))) ∙ sum_to-zero n

module _ {A : Type 0} (n : ℕ) (key value : A → ℕ) where
  sums-more : (x : A) (xs : List A) → sum (sum_by_key n key value (x ∷ xs)) ≡ sum_to n (λ k. of_key key value k x) + sum (sum_by_key n key value xs)
  unfolding sum_by_key sum
  sums-more x xs =
      sum-tab n (λ k. of_key key value k x + sum (map (of_key key value k) xs)) ∙ sum_to-add n (λ k. of_key key value k x) (λ k. sum (map (of_key key value k) xs))
      ∙ ap (λ (m : ℕ). sum_to n (λ k. of_key key value k x) + m) (sym (sum-tab n (λ k. sum (map (of_key key value k) xs))))

  -- the sum of all values, if every key is below n
  pub sums-all : (l : List A) → Each (λ x. key x < n) l → sum (sum_by_key n key value l) ≡ sum (map value l)
  unfolding sum
  sums-all [] h = ap sum (sums_none n key value) ∙ sum-tab n (λ k. 0) ∙ sum_to-zero n
  sums-all (x ∷ xs) h = omega (arith, sums-more x xs, key_in n (key x) (value x) h.0, sums-all xs h.1)

  -- and at most that
  pub sums-le : (l : List A) → sum (sum_by_key n key value l) ≤ sum (map value l)
  unfolding sum
  sums-le [] = omega (arith, ap sum (sums_none n key value), sum-tab n (λ k. 0), sum_to-zero n)
  sums-le (x ∷ xs) =
      ⊎_elim
      (λ h. omega (arith, sums-more x xs, key_in n (key x) (value x) h, sums-le xs))
      (λ h. omega (arith, sums-more x xs, key-out n (key x) (value x) h, sums-le xs))
      (lt-or-le (key x) n)
