-- Sums by key over places, one place at a time, each sum held to a width. Assumes nothing.
use mathlib.Core.Path.{◌≡◌, ap}
use mathlib.Core.List.{List}
use Prim.Native.Nat.{ℕ, ◌+◌, ◌<◌}
use native.Mathlib.Omega.{arith}
use Rattle.lists.specs.Lists.{places, sum_by_key}
use Rattle.lists.specs.Adding.{add_at, held_to}
use Rattle.lists.proofs.Places.{length-tab, get_or-tab, take-tab}
use Rattle.lists.proofs.Adding.{tallied, tallied-next}

module _ (n : ℕ) (key value : ℕ → ℕ) (most count i : ℕ) where
  -- one place more
  pub place-added : (a : List ℕ) (k v : ℕ) → a ≡ tallied n key value most (places count) i → k ≡ key i → v ≡ value i → i < count
      → add_at most a k v ≡ tallied n key value most (places count) (i + 1)
  place-added a k v ea ek ev inside =
      let at : ◌≡◌ {A = ℕ} _ i = get_or-tab count (λ k. k) i 0 inside in
      cc (tallied-next n key value most (places count) i 0 (omega (arith, length-tab count (λ k. k))))

  -- all places
  pub places-added : i ≡ count → tallied n key value most (places count) i ≡ held_to most (sum_by_key n key value (places count))
  places-added e = ap (λ (l : List ℕ). held_to most (sum_by_key n key value l)) (rw e (take-tab count count (λ k. k) (omega arith)))
