-- Larger weights (document 02, C-15): a place that is ahead of another gets one of what is left wherever the other does, and no share of a larger weight is below that
-- of a smaller one. Assumes nothing.
use mathlib.Core.Path.{◌≡◌, sym, ap, ◌∙◌}
use mathlib.Core.Logic.{⊎_elim}
use mathlib.Core.Bool.{true}
use mathlib.Core.List.{List}
use Prim.Native.Nat.{ℕ, ◌+◌, ◌*◌, ◌≤◌, ◌<◌}
use native.Mathlib.Nat.{eq-zero-or-pos, mul-le-mul_left}
use native.Mathlib.Omega.{arith}
use lib.Dec.{ltb}
use lib.ListN.{length, get_or}
use borrow.Author.Tests.{ltb-true, lt-ltb}
use Rattle.lists.specs.Lists.{sum, one_if}
use Rattle.lists.proofs.Bools.{lt-or-le, order-of, one_if-le}
use Rattle.lists.proofs.Orders.{count-le}
use Rattle.splitting.specs.Split.{floor_at, remainder_at, ahead, places_ahead, left, share_at, split}
use Rattle.splitting.proofs.Division.{floor-remainder, floor-order}
use Rattle.splitting.proofs.Shares.{ahead-strict, ahead-larger, ahead-heavier, share-close, split_at, split-at-none}

module _ (q : ℕ) (ws : List ℕ) where
  -- the place that is ahead has fewer places ahead of it, so it gets one of what is left wherever the other does
  ahead-gets : (j i : ℕ) → ahead q ws j i ≡ true → one_if (ltb (places_ahead q ws i) (left q ws)) ≤ one_if (ltb (places_ahead q ws j) (left q ws))
  unfolding places_ahead
  ahead-gets j i e =
      let fewer = count-le (length ws) (λ k. ahead q ws k j) (λ k. ahead q ws k i) (λ k a. (ahead-strict q ws).chain k j i a e) in
      one_if-le (ltb (places_ahead q ws i) (left q ws)) (ltb (places_ahead q ws j) (left q ws))
      (λ t. lt-ltb (places_ahead q ws j) (left q ws) (omega (arith, ltb-true (places_ahead q ws i) (left q ws) t)))

  odd-share : (j i : ℕ) → ahead q ws j i ≡ true → share_at q ws i ≡ floor_at q ws i + 1 → share_at q ws j ≡ floor_at q ws j + 1
  unfolding share_at
  odd-share j i e odd = omega (arith, ahead-gets j i e, share-close q ws j)

  -- where a place gets one of what is left at a tie, so does each larger weight of that remainder
  pub tie-gets : (j i : ℕ) → remainder_at q ws j ≡ remainder_at q ws i → get_or ws i 0 < get_or ws j 0
      → get_or (split q ws) i 0 ≡ floor_at q ws i + 1 → get_or (split q ws) j 0 ≡ floor_at q ws j + 1
  tie-gets j i e h odd =
      ⊎_elim
      (λ none. absurd (omega (arith, split-at-none q ws i none)))
      (λ some. split_at q ws j some ∙ odd-share j i (ahead-heavier q ws j i e h) (sym (split_at q ws i some) ∙ odd))
      (eq-zero-or-pos (sum ws))

  -- of two places with the same floor the larger weight is ahead
  same-floor : (j i : ℕ) → floor_at q ws j ≡ floor_at q ws i → get_or ws i 0 < get_or ws j 0 → ahead q ws j i ≡ true
  same-floor j i e h =
      let most : q * get_or ws i 0 ≤ q * get_or ws j 0 = mul-le-mul_left q (omega arith) in
      ⊎_elim
      (λ l. ahead-larger q ws j i l)
      (⊎_elim
      (λ s. ahead-heavier q ws j i (sym s) h)
      (λ g. absurd (omega (arith, floor-remainder q ws i, floor-remainder q ws j, ap (λ (f : ℕ). f * sum ws) e))))
      (order-of (remainder_at q ws i) (remainder_at q ws j))

  share-order : (j i : ℕ) → 0 < sum ws → get_or ws i 0 < get_or ws j 0 → share_at q ws i ≤ share_at q ws j
  unfolding share_at
  share-order j i some h =
      let floors : floor_at q ws i ≤ floor_at q ws j = floor-order q ws i j some (omega arith) in
      ⊎_elim
      (λ l. omega (arith, share-close q ws i))
      (λ g. omega (arith, ahead-gets j i (same-floor j i (omega arith) h)))
      (lt-or-le (floor_at q ws i) (floor_at q ws j))

  -- a share of a larger weight is never below that of a smaller one
  pub split-order : (j i : ℕ) → get_or ws i 0 < get_or ws j 0 → get_or (split q ws) i 0 ≤ get_or (split q ws) j 0
  split-order j i h =
      ⊎_elim
      (λ e. omega (arith, split-at-none q ws i e, split-at-none q ws j e))
      (λ some. omega (arith, split_at q ws i some, split_at q ws j some, share-order j i some h))
      (eq-zero-or-pos (sum ws))
