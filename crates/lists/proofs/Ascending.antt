-- Ascending lists: each entry is below all that follow. Assumes nothing.
use mathlib.Core.Bool.{Bool, true, false}
use mathlib.Core.List.{List, [], ◌∷◌}
use Prim.Native.Nat.{ℕ, zero, suc, ◌<◌}
use native.Mathlib.Omega.{arith}
use Rattle.lists.specs.Lists.{when◌then◌else◌, tab, places, keep}
use Rattle.lists.proofs.Each.{Each, each-kept, each-tab}

abbrev pub Ascending : List ℕ → Type 0
Ascending [] = Unit {0}
Ascending (x ∷ xs) = Each (λ y. x < y) xs × Ascending xs

pub ascending-keep : (p : ℕ → Bool) (xs : List ℕ) → Ascending xs → Ascending (keep p xs)
unfolding keep
ascending-keep p [] h = tt
ascending-keep p (x ∷ xs) h = go (p x) (each-kept (λ y. x < y) p xs h.0) (ascending-keep p xs h.1)
  where
    go : (b : Bool) → Each (λ y. x < y) (keep p xs) → Ascending (keep p xs) → Ascending (when b then x ∷ keep p xs else keep p xs)
    go true e r = (e, r)
    go false e r = r

pub ascending-tab : (n : ℕ) (f : ℕ → ℕ) → ((j k : ℕ) → j < k → f j < f k) → Ascending (tab n f)
unfolding tab
ascending-tab zero f up = tt
ascending-tab (suc n) f up =
    (each-tab (λ y. f 0 < y) n (λ k. f (suc k)) (λ k l. up 0 (suc k) (omega arith)), ascending-tab n (λ k. f (suc k)) (λ j k l. up (suc j) (suc k) (omega arith)))

pub ascending-places : (p : ℕ → Bool) (n : ℕ) → Ascending (keep p (places n))
ascending-places p n = ascending-keep p (places n) (ascending-tab n (λ k. k) (λ j k l. l))
