-- Seniority is a strict order in which "neither is senior" is an equivalence: irreflexive, transitive, and its negation transitive. Assumes
-- nothing.
use mathlib.Core.Bool.{Bool, true, false, false≢true}
use mathlib.Core.Path.{◌≡◌, refl, sym, ap, ◌∙◌}
use mathlib.Core.Logic.{◌⊎◌, inl, inr, ⊎_elim}
use mathlib.Core.List.{List, [], ◌∷◌}
use Prim.Native.Nat.{ℕ, ◌*◌, ◌≤◌, ◌<◌}
use native.Mathlib.Nat.{mul-le-mul_right, mul-lt-mul_of_pos_right, lt_of_mul-lt-mul_right, eq_of_mul-eq-mul_right, mul-pos}
use native.Mathlib.Omega.{arith}
use lib.ListN.{length}
use borrow.Author.Tests.{eq-eqb, ne_eqb, lt-ltb, le-ltb, leb-false}
use Rattle.lists.specs.Lists.{when◌then◌else◌}
use Rattle.lists.proofs.Bools.{order-of}
use Rattle.waterfall.specs.Seniority.{Standing, Fraction, over, in_a, keys_a, keys_b, higher, first_higher, senior}

-- ---- fractions, compared by products: what holds of x and y and of y and z holds of x and z, where the divisors are above 0

abbrev Below : Fraction → Fraction → Type 0
Below x y = x.num * y.den < y.num * x.den

abbrev AtMost : Fraction → Fraction → Type 0
AtMost x y = x.num * y.den ≤ y.num * x.den

abbrev Same : Fraction → Fraction → Type 0
Same x y = x.num * y.den ≡ y.num * x.den

module _ (x y z : Fraction) where
  lt-le : 0 < z.den → Below x y → AtMost y z → Below x z
  lt-le pos h k = lt_of_mul-lt-mul_right y.den (omega (arith, mul-lt-mul_of_pos_right h pos, mul-le-mul_right x.den k))

  le-lt : 0 < x.den → AtMost x y → Below y z → Below x z
  le-lt pos h k = lt_of_mul-lt-mul_right y.den (omega (arith, mul-le-mul_right z.den h, mul-lt-mul_of_pos_right k pos))

  eq-eq : 0 < y.den → Same x y → Same y z → Same x z
  eq-eq pos h k =
      eq_of_mul-eq-mul_right y.den pos (x.num * z.den) (z.num * x.den)
      (omega (arith, ap (λ n. n * z.den) h, ap (λ n. n * x.den) k))

-- ---- one key of the comparison, read as facts

module _ (x y : ℕ) (rest : Bool) where
  pub higher-above : y < x → higher x y rest ≡ true
  higher-above h = rw (lt-ltb y x h)

  pub higher-below : x < y → higher x y rest ≡ false
  higher-below h = rw (le-ltb y x (omega arith), ne_eqb x y (omega arith))

  pub higher-same : x ≡ y → higher x y rest ≡ rest
  higher-same e = rw (le-ltb y x (omega arith), eq-eqb x y e)

  higher-true : higher x y rest ≡ true → (y < x) ⊎ ((x ≡ y) × (rest ≡ true))
  higher-true h =
      ⊎_elim (λ l. absurd (false≢true (sym (higher-below l) ∙ h))) (⊎_elim (λ e. inr (e, sym (higher-same e) ∙ h)) inl) (order-of x y)

  higher-false : higher x y rest ≡ false → (x < y) ⊎ ((x ≡ y) × (rest ≡ false))
  higher-false h =
      ⊎_elim inl (⊎_elim (λ e. inr (e, sym (higher-same e) ∙ h)) (λ l. absurd (false≢true (sym h ∙ higher-above l)))) (order-of x y)

-- ---- lists of keys

Positive : List Fraction → Type 0
Positive [] = Unit {0}
Positive (x ∷ xs) = (0 < x.den) × Positive xs

irreflexive : (xs : List Fraction) → first_higher xs xs ≡ false
unfolding first_higher
irreflexive [] = refl
irreflexive (x ∷ xs) = higher-same (x.num * x.den) (x.num * x.den) (first_higher xs xs) refl ∙ irreflexive xs

transitive : (xs ys zs : List Fraction) → Positive xs → Positive ys → Positive zs → first_higher xs ys ≡ true → first_higher ys zs ≡ true
    → first_higher xs zs ≡ true
unfolding Positive first_higher
transitive [] ys zs a b c h k = absurd (false≢true h)
transitive (x ∷ xs) [] zs a b c h k = absurd (false≢true h)
transitive (x ∷ xs) (y ∷ ys) [] a b c h k = absurd (false≢true k)
transitive (x ∷ xs) (y ∷ ys) (z ∷ zs) a b c h k =
    go (higher-true _ _ (first_higher xs ys) h) (higher-true _ _ (first_higher ys zs) k) (transitive xs ys zs a.1 b.1 c.1)
  where
    go : Below y x ⊎ (Same x y × (first_higher xs ys ≡ true)) → Below z y ⊎ (Same y z × (first_higher ys zs ≡ true))
        → (first_higher xs ys ≡ true → first_higher ys zs ≡ true → first_higher xs zs ≡ true)
        → higher (x.num * z.den) (z.num * x.den) (first_higher xs zs) ≡ true
    go (inl h) (inl k) rest = higher-above _ _ _ (lt-le z y x a.0 k (omega arith))
    go (inl h) (inr k) rest = higher-above _ _ _ (le-lt z y x c.0 (omega arith) h)
    go (inr h) (inl k) rest = higher-above _ _ _ (lt-le z y x a.0 k (omega arith))
    go (inr h) (inr k) rest = higher-same _ _ _ (eq-eq x y z b.0 h.0 k.0) ∙ rest h.1 k.1

not-transitive : (xs ys zs : List Fraction) → length xs ≡ length ys → length ys ≡ length zs → Positive xs → Positive ys → Positive zs
    → first_higher xs ys ≡ false → first_higher ys zs ≡ false → first_higher xs zs ≡ false
unfolding Positive first_higher
not-transitive [] ys zs l m a b c h k = refl
not-transitive (x ∷ xs) [] zs l m a b c h k = absurd (let f : ⊥ = omega arith in f)
not-transitive (x ∷ xs) (y ∷ ys) [] l m a b c h k = refl
not-transitive (x ∷ xs) (y ∷ ys) (z ∷ zs) l m a b c h k =
    go (higher-false _ _ (first_higher xs ys) h) (higher-false _ _ (first_higher ys zs) k)
    (not-transitive xs ys zs (omega arith) (omega arith) a.1 b.1 c.1)
  where
    go : Below x y ⊎ (Same x y × (first_higher xs ys ≡ false)) → Below y z ⊎ (Same y z × (first_higher ys zs ≡ false))
        → (first_higher xs ys ≡ false → first_higher ys zs ≡ false → first_higher xs zs ≡ false)
        → higher (x.num * z.den) (z.num * x.den) (first_higher xs zs) ≡ false
    go (inl h) (inl k) rest = higher-below _ _ _ (lt-le x y z c.0 h (omega arith))
    go (inl h) (inr k) rest = higher-below _ _ _ (lt-le x y z c.0 h (omega arith))
    go (inr h) (inl k) rest = higher-below _ _ _ (le-lt x y z a.0 (omega arith) k)
    go (inr h) (inr k) rest = higher-same _ _ _ (eq-eq x y z b.0 h.0 k.0) ∙ rest h.1 k.1

-- ---- the category as one key more: 1 of A, 0 of B

keys : Bool → Standing → List Fraction
keys true s = over 1 1 ∷ keys_a s
keys false s = over 0 1 ∷ keys_b s

senior-keys : (s t : Standing) → senior s t ≡ first_higher (keys (in_a s) s) (keys (in_a t) t)
unfolding senior keys first_higher
senior-keys s t = go (in_a s) (in_a t)
  where
    go : (a b : Bool)
        → (when a then (when b then first_higher (keys_a s) (keys_a t) else true) else (when b then false else first_higher (keys_b s) (keys_b t)))
        ≡ first_higher (keys a s) (keys b t)
    go true true = refl
    go true false = refl
    go false true = refl
    go false false = refl

keys_length : (s : Standing) → length (keys (in_a s) s) ≡ 4
unfolding keys
keys_length s = go (in_a s)
  where
    go : (b : Bool) → length (keys b s) ≡ 4
    go true = refl
    go false = refl

keys-positive : (s : Standing) → Positive (keys (in_a s) s)
unfolding keys Positive
keys-positive s = go (in_a s) refl
  where
    go : (b : Bool) → in_a s ≡ b → Positive (keys b s)
    go true e = (omega arith, (omega arith, (omega arith, (omega arith, tt))))
    go false e =
        let l : s.W < s.expected = leb-false _ _ e in
        (omega arith, (mul-pos (omega arith) (omega arith), (omega arith, (omega arith, tt))))

-- ---- the laws of seniority

pub senior-irreflexive : (s : Standing) → senior s s ≡ false
senior-irreflexive s = senior-keys s s ∙ irreflexive (keys (in_a s) s)

pub senior-transitive : (s t u : Standing) → senior s t ≡ true → senior t u ≡ true → senior s u ≡ true
senior-transitive s t u h k =
    senior-keys s u
    ∙ transitive (keys (in_a s) s) (keys (in_a t) t) (keys (in_a u) u) (keys-positive s) (keys-positive t) (keys-positive u)
    (sym (senior-keys s t) ∙ h)
    (sym (senior-keys t u) ∙ k)

-- who is not senior to one that is not senior to a third is not senior to the third: so "neither is senior" is an equivalence
pub not-senior-transitive : (s t u : Standing) → senior s t ≡ false → senior t u ≡ false → senior s u ≡ false
not-senior-transitive s t u h k =
    senior-keys s u
    ∙ not-transitive (keys (in_a s) s) (keys (in_a t) t) (keys (in_a u) u) (keys_length s ∙ sym (keys_length t))
    (keys_length t ∙ sym (keys_length u))
    (keys-positive s)
    (keys-positive t)
    (keys-positive u)
    (sym (senior-keys s t) ∙ h)
    (sym (senior-keys t u) ∙ k)

-- of two members one at most is senior
pub senior-asymmetric : (s t : Standing) → senior s t ≡ true → senior t s ≡ false
senior-asymmetric s t h = go (senior t s) refl
  where
    go : (b : Bool) → senior t s ≡ b → b ≡ false
    go true e = sym (senior-transitive s t s h e) ∙ senior-irreflexive s
    go false e = refl
