-- The keys of places that have units, the least of keys, and how many units are needed. Assumes nothing.
use mathlib.Core.Path.{◌≡◌, ◌∙◌}
use mathlib.Core.Bool.{Bool, true, false}
use mathlib.Core.Logic.{⊎_elim}
use mathlib.Core.List.{List, [], ◌∷◌}
use Prim.Native.Nat.{ℕ, zero, suc, ◌+◌, ◌-◌, ◌*◌, ◌/◌, ◌≤◌, ◌<◌, min}
use native.Mathlib.Nat.{mul-le-mul_right, div-mul-le_self, lt-div-mul-add, add-mul, one-mul}
use native.Mathlib.Omega.{arith}
use lib.ListN.{length, get_or, set}
use Rattle.std.proofs.Common.{fold}
use Rattle.lists.specs.Lists.{count, one_if}
use Rattle.lists.proofs.Bools.{cases, lt-or-le}
use Rattle.turns.specs.Keys.{no_key, least_key, needed}

-- the least so far and a fold over the rest
pub fold-least : (a : ℕ) (keys : List ℕ) → a ≤ no_key → fold min a keys ≡ min a (least_key keys)
unfolding least_key
fold-least a [] low = omega arith
fold-least a (x ∷ xs) low = omega (arith, fold-least (min a x) xs (omega arith))

-- at most each of them, and at most `no_key`
pub least-top : (keys : List ℕ) → least_key keys ≤ no_key
unfolding least_key
least-top [] = omega arith
least-top (x ∷ xs) = omega (arith, least-top xs)

pub least-is : (keys : List ℕ) (j : ℕ) → j < length keys → least_key keys ≤ get_or keys j 0
unfolding least_key
least-is [] j l = absurd (omega arith)
least-is (x ∷ xs) zero l = omega arith
least-is (x ∷ xs) (suc j) l = omega (arith, least-is xs j (omega arith))

-- one of them, where it is below `no_key`
pub least-in : (keys : List ℕ) → least_key keys < no_key → (j : ℕ) × (j < length keys) × (get_or keys j 0 ≡ least_key keys)
unfolding least_key
least-in [] low = absurd (omega arith)
least-in (x ∷ xs) low = go x (least_key xs) low (λ l. least-in xs l)
  where
    go : (x y : ℕ) → min x y < no_key → (y < no_key → (j : ℕ) × (j < length xs) × (get_or xs j 0 ≡ y)) → (j : ℕ) × (j < suc (length xs)) × (get_or (x ∷ xs) j 0 ≡ min x y)
    go x y low rest =
        ⊎_elim
        (λ l. (0, omega arith, omega arith))
        (λ l. let r = rest (omega arith) in (suc r.0, omega (arith, r.1), r.2 ∙ omega arith))
        (lt-or-le x y)

-- ---- how many keys pass a test

module _ (p : ℕ → Bool) where
  pub count-set-out : (xs : List ℕ) (i v : ℕ) → i < length xs → p (get_or xs i 0) ≡ true → p v ≡ false → count p (set xs i v) + 1 ≡ count p xs
  unfolding count one_if
  count-set-out [] i v l a b = absurd (omega arith)
  count-set-out (x ∷ xs) zero v l a b = rw (a, b) (omega arith)
  count-set-out (x ∷ xs) (suc i) v l a b = omega (arith, count-set-out xs i v (omega arith) a b)

  pub count-zero : (xs : List ℕ) → count p xs ≡ 0 → (i : ℕ) → i < length xs → p (get_or xs i 0) ≡ false
  unfolding count one_if
  count-zero [] e i l = absurd (omega arith)
  count-zero (x ∷ xs) e zero l = cases (p x) _ (λ t. absurd (omega (arith, rw t at e))) (λ t. t)
  count-zero (x ∷ xs) e (suc i) l = count-zero xs (omega arith) i (omega arith)

-- ---- as many units as are needed, and not one more

pub need-enough : (owed saving : ℕ) → 0 < saving → owed ≤ needed owed saving * saving
unfolding needed
need-enough owed saving some = omega (arith, lt-div-mul-add {a = owed - 1} {b = saving} some, add-mul 1 ((owed - 1) / saving) saving, one-mul saving)

pub need-most : (owed saving : ℕ) → 0 < saving → 0 < owed → (n : ℕ) → n ≤ needed owed saving → n * saving < owed + saving
unfolding needed
need-most owed saving some owes n few =
    omega (
      arith,
      mul-le-mul_right saving few,
      add-mul 1 ((owed - 1) / saving) saving,
      one-mul saving,
      div-mul-le_self (owed - 1) saving,
    )
