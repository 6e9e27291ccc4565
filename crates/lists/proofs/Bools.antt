-- Tests taken apart and put together, and claims about a choice. Assumes nothing.
use mathlib.Core.Path.{◌≡◌, refl, sym, ap}
use mathlib.Core.Bool.{Bool, true, false, ◌&&◌, ◌||◌, false≢true}
use mathlib.Core.Logic.{◌⊎◌, inl, inr, ⊎_elim}
use Prim.Native.Nat.{ℕ, ◌≤◌, ◌<◌}
use native.Mathlib.Nat.{eq-or-lt_of_le}
use native.Mathlib.Omega.{arith}
use lib.Dec.{leb, ltb, eqb}
use borrow.Author.Tests.{ltb-true, ltb-false, eqb-true, eqb-false, leb-true, leb-false}
use Rattle.lists.specs.Lists.{when◌then◌else◌, one_if}

-- ---- a choice

-- a claim about a choice, from the claim about both sides
pub either : {A : Type 0} (P : A → Type 0) (b : Bool) {x y : A} → P x → P y → P (when b then x else y)
either P true px py = px
either P false px py = py

-- the same, with what the test says
pub by-test : {A : Type 0} (P : A → Type 0) (b : Bool) {x y : A} → (b ≡ true → P x) → (b ≡ false → P y) → P (when b then x else y)
by-test P true px py = px refl
by-test P false px py = py refl

-- a claim from both ways that a test can come out, each with what the test says
pub cases : (b : Bool) (P : Type 0) → (b ≡ true → P) → (b ≡ false → P) → P
cases true P t f = t refl
cases false P t f = f refl

-- a choice between equals
pub same-choice : {A : Type 0} (b : Bool) (x : A) → (when b then x else x) ≡ x
same-choice true x = refl
same-choice false x = refl

-- ---- and, or, not

pub and-swap : (a b : Bool) → (a && b) ≡ (b && a)
and-swap true true = refl
and-swap true false = refl
and-swap false true = refl
and-swap false false = refl

pub and_left : (a b : Bool) → (a && b) ≡ true → a ≡ true
and_left true b e = refl
and_left false b e = e

pub and_right : (a b : Bool) → (a && b) ≡ true → b ≡ true
and_right true b e = e
and_right false b e = absurd (false≢true e)

pub and_both : (a b : Bool) → a ≡ true → b ≡ true → (a && b) ≡ true
and_both a b p q = rw (p, q)

pub or_left : (a b : Bool) → (a || b) ≡ false → a ≡ false
or_left true b e = e
or_left false b e = refl

pub or_right : (a b : Bool) → (a || b) ≡ false → b ≡ false
or_right true b e = absurd (false≢true (sym e))
or_right false b e = e

pub or_cases : (a b : Bool) → (a || b) ≡ true → (a ≡ true) ⊎ (b ≡ true)
or_cases true b e = inl refl
or_cases false b e = inr e

pub and-false : (a : Bool) → (a && false) ≡ false
and-false true = refl
and-false false = refl

-- two tests that imply each other
pub bool-ext : (a b : Bool) → (a ≡ true → b ≡ true) → (b ≡ true → a ≡ true) → a ≡ b
bool-ext true true f g = refl
bool-ext true false f g = sym (f refl)
bool-ext false true f g = g refl
bool-ext false false f g = refl

-- ---- orders of two numbers

pub lt-or-le : (a b : ℕ) → (a < b) ⊎ (b ≤ a)
lt-or-le a b = go (ltb a b) refl
  where
    go : (t : Bool) → ltb a b ≡ t → (a < b) ⊎ (b ≤ a)
    go true e = inl (ltb-true a b e)
    go false e = inr (ltb-false a b e)

-- two numbers are in one of three orders
pub order-of : (a b : ℕ) → (a < b) ⊎ ((a ≡ b) ⊎ (b < a))
order-of a b = ⊎_elim inl (λ h. ⊎_elim (λ e. inr (inl (sym e))) (λ l. inr (inr l)) (eq-or-lt_of_le h)) (lt-or-le a b)

-- two tests that are passed by the same numbers
pub ltb-same : (a b c d : ℕ) → (a < b → c < d) → (c < d → a < b) → ltb a b ≡ ltb c d
ltb-same a b c d there back = go (ltb a b) (ltb c d) refl refl
  where
    go : (s t : Bool) → ltb a b ≡ s → ltb c d ≡ t → s ≡ t
    go true true e u = refl
    go true false e u = absurd (omega (arith, there (ltb-true a b e), ltb-false c d u))
    go false true e u = absurd (omega (arith, back (ltb-true c d u), ltb-false a b e))
    go false false e u = refl

pub leb-same : (a b c d : ℕ) → (a ≤ b → c ≤ d) → (c ≤ d → a ≤ b) → leb a b ≡ leb c d
leb-same a b c d there back = go (leb a b) (leb c d) refl refl
  where
    go : (s t : Bool) → leb a b ≡ s → leb c d ≡ t → s ≡ t
    go true true e u = refl
    go true false e u = absurd (omega (arith, there (leb-true a b e), leb-false c d u))
    go false true e u = absurd (omega (arith, back (leb-true c d u), leb-false a b e))
    go false false e u = refl

pub eqb_same : (a b c d : ℕ) → (a ≡ b → c ≡ d) → (c ≡ d → a ≡ b) → eqb a b ≡ eqb c d
eqb_same a b c d there back = go (eqb a b) (eqb c d) refl refl
  where
    go : (s t : Bool) → eqb a b ≡ s → eqb c d ≡ t → s ≡ t
    go true true e u = refl
    go true false e u = absurd (eqb-false c d u (there (eqb-true a b e)))
    go false true e u = absurd (eqb-false a b e (back (eqb-true c d u)))
    go false false e u = refl

-- ---- a test as a number

pub one-true : one_if true ≡ 1
unfolding one_if
one-true = refl

pub one-false : one_if false ≡ 0
unfolding one_if
one-false = refl

pub one_if-small : (b : Bool) → one_if b ≤ 1
unfolding one_if
one_if-small true = omega arith
one_if-small false = omega arith

pub one_if-le : (a b : Bool) → (a ≡ true → b ≡ true) → one_if a ≤ one_if b
unfolding one_if
one_if-le true b h = omega (arith, ap one_if (h refl))
one_if-le false b h = omega arith

pub one_if-choice : (b : Bool) → (when b then 1 else 0) ≡ one_if b
unfolding one_if
one_if-choice true = refl
one_if-choice false = refl
