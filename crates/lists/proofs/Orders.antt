-- Strict total orders of places, and places counted by how many come before them: of n places exactly m have fewer than m before them, for
-- m at most n, and each number below n is how many come before exactly one place. Assumes nothing.
use mathlib.Core.Path.{◌≡◌, refl, sym, ap, ◌∙◌}
use mathlib.Core.Bool.{Bool, true, false, false≢true}
use mathlib.Core.Logic.{◌⊎◌, inl, inr, ⊎_elim}
use Prim.Native.Nat.{ℕ, zero, suc, ◌+◌, ◌-◌, ◌≤◌, ◌<◌}
use native.Mathlib.Nat.{not-suc-le-zero, le_of_suc-le-suc, eq-or-lt_of_le}
use native.Mathlib.Omega.{arith}
use lib.Dec.{ltb, eqb}
use borrow.Author.Tests.{ltb-true, ltb-false, lt-ltb, le-ltb, eq-eqb, ne_eqb}
use Rattle.lists.specs.Lists.{sum_to, one_if, count_to}
use Rattle.lists.specs.Order.{larger_first, earlier}
use Rattle.lists.proofs.Bools.{lt-or-le, order-of, ltb-same, one_if-le}
use Rattle.lists.proofs.Sums.{sum_to-ext, sum_to-le, sum_to-add, count_small}

-- `before j i` is a strict total order of the places
pub record Strict (before : ℕ → ℕ → Bool) : Type 0 where
  pub never : (i : ℕ) → before i i ≡ false
  pub chain : (i j k : ℕ) → before i j ≡ true → before j k ≡ true → before i k ≡ true
  pub other : (i j : ℕ) → (i ≡ j → ⊥) → before i j ≡ false → before j i ≡ true

-- `larger_first` by the three ways in which two places can stand to each other
module _ (f : ℕ → ℕ) (then : ℕ → ℕ → Bool) (j i : ℕ) where
  pub larger : f i < f j → larger_first f then j i ≡ true
  unfolding larger_first
  larger h = rw (lt-ltb (f i) (f j) h)

  pub smaller : f j < f i → larger_first f then j i ≡ false
  unfolding larger_first
  smaller h = rw (le-ltb (f i) (f j) (omega arith), ne_eqb (f j) (f i) (omega arith))

  pub same : f j ≡ f i → larger_first f then j i ≡ then j i
  unfolding larger_first
  same h = rw (le-ltb (f i) (f j) (omega arith), eq-eqb (f j) (f i) h)

  -- where the two differ by f, this decides
  pub unequal : (f j ≡ f i → ⊥) → larger_first f then j i ≡ ltb (f i) (f j)
  unequal h =
      ⊎_elim
      (λ l. smaller l ∙ sym (le-ltb (f i) (f j) (omega arith)))
      (⊎_elim (λ e. absurd (h e)) (λ g. larger g ∙ sym (lt-ltb (f i) (f j) g)))
      (order-of (f j) (f i))

  -- what a place that comes first tells
  pub larger-or-same : larger_first f then j i ≡ true → (f i < f j) ⊎ ((f j ≡ f i) × (then j i ≡ true))
  larger-or-same e =
      ⊎_elim (λ h. absurd (false≢true (sym (smaller h) ∙ e)))
      (⊎_elim (λ h. inr (h, sym (same h) ∙ e)) inl)
      (order-of (f j) (f i))

-- the orders are strict and total
pub earlier-strict : Strict earlier
unfolding earlier
earlier-strict = record {
  never = λ i. le-ltb i i (omega arith);
  chain = λ i j k a b. lt-ltb i k (omega (arith, ltb-true i j a, ltb-true j k b));
  other = λ i j n a. lt-ltb j i (omega (arith, ltb-false i j a));
}

pub larger-strict : (f : ℕ → ℕ) (then : ℕ → ℕ → Bool) → Strict then → Strict (larger_first f then)
larger-strict f then order = record {
  never = λ i. same f then i i refl ∙ order.never i;
  chain = λ i j k a b.
      ⊎_elim
      (λ x. ⊎_elim
      (λ y. larger f then i k (omega arith))
      (λ y. larger f then i k (omega arith))
      (larger-or-same f then j k b))
      (λ x. ⊎_elim
      (λ y. larger f then i k (omega arith))
      (λ y. same f then i k (omega arith) ∙ order.chain i j k x.1 y.1)
      (larger-or-same f then j k b))
      (larger-or-same f then i j a);
  other = λ i j n a.
      ⊎_elim
      (λ h. larger f then j i h)
      (⊎_elim
      (λ h. same f then j i (sym h) ∙ order.other i j n (sym (same f then i j h) ∙ a))
      (λ h. absurd (false≢true (sym a ∙ larger f then i j h))))
      (order-of (f i) (f j));
}

-- a test that passes wherever another does passes at least as often
pub count-le : (n : ℕ) (p r : ℕ → Bool) → ((k : ℕ) → p k ≡ true → r k ≡ true) → count_to n p ≤ count_to n r
count-le n p r h = sum_to-le n (λ k. one_if (p k)) (λ k. one_if (r k)) (λ k l. one_if-le (p k) (r k) (h k))

-- and more often where it passes at a place that the other does not
pub count-lt : (n : ℕ) (p r : ℕ → Bool) → ((k : ℕ) → p k ≡ true → r k ≡ true)
    → (i : ℕ) → i < n → p i ≡ false → r i ≡ true → count_to n p < count_to n r
unfolding sum_to one_if
count-lt zero p r h i l off on = absurd (not-suc-le-zero l)
count-lt (suc n) p r h i l off on =
    ⊎_elim
    (λ e. omega (arith, count-le n p r h, ap one_if (ap p (sym e) ∙ off), ap one_if (ap r (sym e) ∙ on)))
    (λ m. omega (arith, count-lt n p r h i m off on, one_if-le (p n) (r n) (h n)))
    (eq-or-lt_of_le (le_of_suc-le-suc l))

-- below m + 1 is below m or at m
at_most : (r m : ℕ) → one_if (ltb r (m + 1)) ≡ one_if (ltb r m) + one_if (eqb r m)
unfolding one_if
at_most r m =
    ⊎_elim
    (λ h. rw (lt-ltb r (m + 1) (omega arith), lt-ltb r m h, ne_eqb r m (omega arith)))
    (⊎_elim
    (λ h. rw (lt-ltb r (m + 1) (omega arith), le-ltb r m (omega arith), eq-eqb r m h))
    (λ h. rw (le-ltb r (m + 1) (omega arith), le-ltb r m (omega arith), ne_eqb r m (omega arith))))
    (order-of r m)

module _ (before : ℕ → ℕ → Bool) (order : Strict before) where
  -- how many of the first n places are before place i
  abbrev rank : ℕ → ℕ → ℕ
  rank n i = count_to n (λ j. before j i)

  -- where place n joins the n places below it, it stands before those with at least as many before them as itself, and after the others
  joins : (n i : ℕ) → i < n
      → ((before n i ≡ true) × (rank n n ≤ rank n i)) ⊎ ((before n i ≡ false) × (rank n i < rank n n))
  joins n i l = go (before n i) refl
    where
      go : (t : Bool) → before n i ≡ t → ((before n i ≡ true) × (rank n n ≤ rank n i)) ⊎ ((before n i ≡ false) × (rank n i < rank n n))
      go true e = inl (e, count-le n (λ j. before j n) (λ j. before j i) (λ j b. order.chain j n i b e))
      go false e =
          let b : before i n ≡ true = order.other n i (omega arith) e in
          inr (e, count-lt n (λ j. before j i) (λ j. before j n) (λ j a. order.chain j i n a b) i l (order.never i) b)

  -- so what counts as below m among n + 1 places counts, among the n, as below m - 1 where place n is below m itself, and as below m where it is not
  below-joined : (n m i : ℕ) → i < n → rank n n < m → ltb (rank (suc n) i) m ≡ ltb (rank n i) (m - 1)
  unfolding sum_to one_if
  below-joined n m i l k =
      ⊎_elim
      (λ w. let e = ap one_if w.0 in ltb-same (rank (suc n) i) m (rank n i) (m - 1) (omega arith) (omega arith))
      (λ w. let e = ap one_if w.0 in ltb-same (rank (suc n) i) m (rank n i) (m - 1) (omega arith) (omega arith))
      (joins n i l)

  below-alone : (n m i : ℕ) → i < n → m ≤ rank n n → ltb (rank (suc n) i) m ≡ ltb (rank n i) m
  unfolding sum_to one_if
  below-alone n m i l k =
      ⊎_elim
      (λ w. let e = ap one_if w.0 in ltb-same (rank (suc n) i) m (rank n i) m (omega arith) (omega arith))
      (λ w. let e = ap one_if w.0 in ltb-same (rank (suc n) i) m (rank n i) m (omega arith) (omega arith))
      (joins n i l)

  -- of n places m have fewer than m places before them
  pub first : (n m : ℕ) → m ≤ n → count_to n (λ i. ltb (rank n i) m) ≡ m
  unfolding sum_to one_if
  first zero m h = omega arith
  first (suc n) m h =
      ⊎_elim
      (λ k. omega (
        arith,
        sum_to-ext n (λ i. one_if (ltb (rank (suc n) i) m)) (λ i. one_if (ltb (rank n i) (m - 1))) (λ i l. ap one_if (below-joined n m i l k)),
        first n (m - 1) (omega arith),
        ap one_if (order.never n),
        ap one_if (lt-ltb (rank (suc n) n) m (omega (arith, ap one_if (order.never n)))),
      ))
      (λ k. omega (
        arith,
        sum_to-ext n (λ i. one_if (ltb (rank (suc n) i) m)) (λ i. one_if (ltb (rank n i) m)) (λ i l. ap one_if (below-alone n m i l k)),
        first n m (omega (arith, count_small n (λ j. before j n))),
        ap one_if (order.never n),
        ap one_if (le-ltb (rank (suc n) n) m (omega (arith, ap one_if (order.never n)))),
      ))
      (lt-or-le (rank n n) m)

  -- and exactly one place has exactly m before it
  pub once : (n m : ℕ) → m < n → count_to n (λ i. eqb (rank n i) m) ≡ 1
  once n m h =
      omega (
        arith,
        first n m (omega arith),
        first n (m + 1) (omega arith),
        sum_to-add n (λ i. one_if (ltb (rank n i) m)) (λ i. one_if (eqb (rank n i) m)),
        sum_to-ext n (λ i. one_if (ltb (rank n i) (m + 1))) (λ i. one_if (ltb (rank n i) m) + one_if (eqb (rank n i) m)) (λ i l. at_most (rank n i) m),
      )
