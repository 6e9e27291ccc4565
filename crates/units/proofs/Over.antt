-- Sums over the entries of a roll when entries change. Assumes nothing.
use mathlib.Core.Path.{◌≡◌, refl, sym, ap, ◌∙◌}
use mathlib.Core.Bool.{Bool, true, false, false≢true}
use mathlib.Core.List.{List, [], ◌∷◌, map, map-map}
use Prim.Native.Nat.{ℕ, zero, suc, ◌+◌, ◌*◌, ◌≤◌, ◌<◌}
use native.Mathlib.Nat.{suc-mul, zero-mul}
use native.Mathlib.Omega.{arith}
use lib.ListN.{length, get_or, set, replicate}
use borrow.Author.Tests.{eqb-true}
use Rattle.lists.specs.Lists.{sum, one_if, count, change_first}
use Rattle.lists.proofs.Sums.{sum-append}
use Rattle.lists.proofs.Each.{map-append}
use Rattle.machine.specs.Roll.{UnitState, Open, Sold, Allocated, Moved, Torn, Agreed, Entry, with_state, is_open, open_in, kind, open_units, put_up, give_lowest, changed_if}
use Rattle.units.specs.Places.{over}

-- n entries that were e are e' in the new roll
abbrev pub Swap : List Entry → List Entry → ℕ → Entry → Entry → Type 0
Swap old new n e e' = (f : Entry → ℕ) → over new f + n * f e ≡ over old f + n * f e'

abbrev pub open_unit : ℕ → Entry
open_unit pool = record { pool = pool; state = Open }

-- how many pass a test
pub count-over : (p : Entry → Bool) (roll : List Entry) → count p roll ≡ over roll (λ e. one_if (p e))
unfolding count sum
count-over p [] = refl
count-over p (e ∷ es) = omega (arith, count-over p es)

over-replicate : (f : Entry → ℕ) (n : ℕ) (e : Entry) → over (replicate n e) f ≡ n * f e
unfolding sum
over-replicate f zero e = sym (zero-mul (f e))
over-replicate f (suc n) e = omega (arith, over-replicate f n e, suc-mul n (f e))

-- POOL
pub over-put : (f : Entry → ℕ) (pool n : ℕ) (roll : List Entry) → over (put_up pool n roll) f ≡ over roll f + n * f (open_unit pool)
unfolding put_up
over-put f pool n roll =
    ap sum (map-append f roll (replicate n (open_unit pool))) ∙ sum-append (map f roll) (map f (replicate n (open_unit pool)))
    ∙ ap (λ (x : ℕ). over roll f + x) (over-replicate f n (open_unit pool))

-- one entry changed
pub over-set : (f : Entry → ℕ) (roll : List Entry) (i : ℕ) (e d : Entry) → i < length roll → over (set roll i e) f + f (get_or roll i d) ≡ over roll f + f e
unfolding sum
over-set f [] i e d l = absurd (omega arith)
over-set f (x ∷ xs) zero e d l = omega arith
over-set f (x ∷ xs) (suc i) e d l = omega (arith, over-set f xs i e d (omega arith))

-- every entry changed that passes a test
pub over-changed : (p : Entry → Bool) (s : UnitState) (f : Entry → ℕ) (roll : List Entry) → over (map (changed_if p s) roll) f ≡ over roll (λ e. f (changed_if p s e))
over-changed p s f roll = ap sum (map-map f (changed_if p s) roll)

-- an open entry of a pool
open_is : (pool : ℕ) (e : Entry) → open_in pool e ≡ true → e ≡ open_unit pool
unfolding open_in is_open kind
open_is pool e h = go e.pool e.state h
  where
    go : (p : ℕ) (s : UnitState) → open_in pool (record { pool = p; state = s }) ≡ true → record { pool = p; state = s } ≡ open_unit pool
    go p Open h = ap (λ (x : ℕ). open_unit x) (eqb-true p pool h)
    go p (Sold b) h = absurd (false≢true h)
    go p (Allocated m price) h = absurd (false≢true h)
    go p (Moved m) h = absurd (false≢true h)
    go p (Torn price) h = absurd (false≢true h)
    go p (Agreed m price) h = absurd (false≢true h)

-- the lowest open entries of a pool
pub give-swaps : (pool : ℕ) (s : UnitState) (n : ℕ) (roll : List Entry) → n ≤ open_units roll pool
    → Swap roll (give_lowest pool s n roll) n (open_unit pool) (record { pool = pool; state = s })
unfolding give_lowest open_units count change_first sum one_if
give-swaps pool s n roll l f = go n roll l
  where
    new : Entry
    new = record { pool = pool; state = s }

    go : (n : ℕ) (roll : List Entry) → n ≤ count (open_in pool) roll
        → over (change_first (open_in pool) (λ e. with_state e s) n roll) f + n * f (open_unit pool) ≡ over roll f + n * f new
    go zero roll l = rw (zero-mul (f (open_unit pool)), zero-mul (f new))
    go (suc n) [] l = absurd (omega arith)
    go (suc n) (x ∷ xs) l = turn (open_in pool x) refl l (go n xs) (go (suc n) xs)
      where
        turn : (b : Bool) → open_in pool x ≡ b → suc n ≤ one_if b + count (open_in pool) xs
            → (n ≤ count (open_in pool) xs → over (change_first (open_in pool) (λ e. with_state e s) n xs) f + n * f (open_unit pool) ≡ over xs f + n * f new)
            → (suc n ≤ count (open_in pool) xs → over (change_first (open_in pool) (λ e. with_state e s) (suc n) xs) f + suc n * f (open_unit pool) ≡ over xs f + suc n * f new)
            → over (elim b [ true ↦ with_state x s ∷ change_first (open_in pool) (λ e. with_state e s) n xs | false ↦ x ∷ change_first (open_in pool) (λ e. with_state e s) (suc n) xs ]) f + suc n * f (open_unit pool)
            ≡ f x + over xs f + suc n * f new
        turn true e l here past = let is = open_is pool x e in rw is (omega (arith, here (omega arith), suc-mul n (f (open_unit pool)), suc-mul n (f new)))
        turn false e l here past = omega (arith, past (omega arith))
