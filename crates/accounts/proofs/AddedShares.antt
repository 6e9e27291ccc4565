-- Laws of `add_shares`: the share of each member that is listed once is added at its place in the pool, and the other places stay. Assumes nothing.
use mathlib.Core.Path.{◌≡◌, refl, ap, ◌∙◌}
use mathlib.Core.Bool.{false}
use mathlib.Core.List.{List, [], ◌∷◌}
use Prim.Native.Nat.{ℕ, ◌+◌, ◌*◌, ◌≤◌, ◌<◌}
use native.Mathlib.Nat.{min-eq_left}
use native.Mathlib.Omega.{arith}
use lib.Dec.{eqb}
use lib.ListN.{length, get_or}
use borrow.Author.Tests.{eqb-true, eqb-false}
use Rattle.lists.specs.Lists.{any}
use Rattle.lists.specs.Adding.{most16, add_at}
use Rattle.lists.proofs.Bools.{cases}
use Rattle.lists.proofs.Adding.{length-added, added-here, added-other}
use Rattle.lists.proofs.Each.{Each, each_more, each-always}
use Rattle.lists.proofs.Ascending.{Ascending}
use Rattle.accounts.specs.Members.{add_shares}

module _ (pool : ℕ) (shares : List ℕ) (inside : pool < 4) where
  pub length-shares : (ms xs : List ℕ) → length (add_shares pool shares ms xs) ≡ length xs
  unfolding add_shares
  length-shares [] xs = refl
  length-shares (j ∷ ms) xs = length-shares ms (add_at most16 xs (4 * j + pool) (get_or shares j 0)) ∙ length-added most16 xs (4 * j + pool) (get_or shares j 0)

  -- a place that is no listed member's in this pool
  shares-else : (k : ℕ) (ms : List ℕ) → Each (λ j. k ≡ 4 * j + pool → ⊥) ms → (xs : List ℕ) → get_or (add_shares pool shares ms xs) k 0 ≡ get_or xs k 0
  unfolding add_shares
  shares-else k [] h xs = refl
  shares-else k (j ∷ ms) h xs =
      shares-else k ms h.1 (add_at most16 xs (4 * j + pool) (get_or shares j 0)) ∙ added-other most16 xs (4 * j + pool) (get_or shares j 0) k h.0

  -- in another pool
  pub shares-other : (m p : ℕ) → p < 4 → (p ≡ pool → ⊥) → (ms xs : List ℕ) → get_or (add_shares pool shares ms xs) (4 * m + p) 0 ≡ get_or xs (4 * m + p) 0
  shares-other m p l apart ms = shares-else (4 * m + p) ms (each-always (λ j. 4 * m + p ≡ 4 * j + pool → ⊥) (λ j. omega arith) ms)

  -- of a member that is listed once, or has no share, where the sum fits
  pub shares_at : (m : ℕ) (ms : List ℕ) → Ascending ms → (any (eqb m) ms ≡ false → get_or shares m 0 ≡ 0)
      → (xs : List ℕ) → 4 * m + pool < length xs → get_or xs (4 * m + pool) 0 + get_or shares m 0 ≤ most16
      → get_or (add_shares pool shares ms xs) (4 * m + pool) 0 ≡ get_or xs (4 * m + pool) 0 + get_or shares m 0
  unfolding add_shares any
  shares_at m [] up none xs room fits = omega (arith, none refl)
  shares_at m (j ∷ ms) up none xs room fits =
      let v : ℕ = get_or shares j 0 in
      let next : List ℕ = add_at most16 xs (4 * j + pool) v in
      cases (eqb m j) _
      (λ t.
      let e : m ≡ j = eqb-true m j t in
      rw (← e)
      (shares-else (4 * m + pool) ms (each_more (λ k. j < k) (λ k. 4 * m + pool ≡ 4 * k + pool → ⊥) (λ k l. omega arith) ms up.0) (add_at most16 xs (4 * m + pool) (get_or shares m 0))
      ∙ added-here most16 xs (4 * m + pool) (get_or shares m 0) room
      ∙ min-eq_left fits))
      (λ t.
      let apart = eqb-false m j t in
      let old : get_or next (4 * m + pool) 0 ≡ get_or xs (4 * m + pool) 0 = added-other most16 xs (4 * j + pool) v (4 * m + pool) (λ e. apart (omega arith)) in
      shares_at m ms up.1 (λ n. none (rw (t, n))) next (omega (arith, length-added most16 xs (4 * j + pool) v)) (omega arith)
      ∙ ap (λ (n : ℕ). n + get_or shares m 0) old)
