-- Ranks in a set: between 1 and the number of members; lower exactly for the senior of two members; equal exactly where neither is senior.
-- No bound on the standings is needed. Assumes nothing.
use mathlib.Core.Bool.{Bool, true, false, ◌&&◌, not}
use mathlib.Core.Path.{◌≡◌, refl, sym, ap, ◌∙◌}
use Prim.Native.Nat.{ℕ, ◌+◌, ◌≤◌, ◌<◌}
use native.Mathlib.Omega.{arith}
use lib.Dec.{eqb, ltb}
use lib.ListN.{length}
use borrow.Author.Tests.{lt-ltb, le-ltb, eq-eqb, ne_eqb}
use Rattle.lists.specs.Lists.{count_to}
use Rattle.lists.proofs.Bools.{and_left, and_right, and_both, and-false}
use Rattle.lists.proofs.Orders.{count-lt}
use Rattle.sets.specs.Set.{member, members}
use Rattle.sets.proofs.Members.{count-members, length-members, members-few, count-members-ext}
use Rattle.waterfall.specs.Seniority.{Standing, senior, rank_in}
use Rattle.waterfall.proofs.Order.{senior-irreflexive, senior-transitive, not-senior-transitive}

module _ (set : ℕ) (standing : ℕ → Standing) where
  -- whether o is senior to m
  abbrev above : ℕ → ℕ → Bool
  above m o = senior (standing o) (standing m)

  rank_is : (m : ℕ) → rank_in set standing m ≡ 1 + count_to 32 (λ o. member set o && above m o)
  unfolding rank_in
  rank_is m = ap (λ n. 1 + n) (count-members set (above m))

  pub rank-low : (m : ℕ) → 1 ≤ rank_in set standing m
  unfolding rank_in
  rank-low m = omega arith

  -- the rank of a member is at most the number of members
  pub rank-high : (m : ℕ) → m < 32 → member set m ≡ true → rank_in set standing m ≤ length (members set)
  rank-high m l on =
      omega (
        arith,
        rank_is m,
        length-members set,
        count-lt 32 (λ o. member set o && above m o) (member set) (λ o. and_left (member set o) (above m o)) m l
            (rw (senior-irreflexive (standing m)) (and-false (member set m))) on,
      )

  pub rank-at-most-32 : (m : ℕ) → m < 32 → member set m ≡ true → rank_in set standing m ≤ 32
  rank-at-most-32 m l on = omega (arith, rank-high m l on, members-few set)

  -- a senior member has the lower rank
  pub senior-lower : (m o : ℕ) → m < 32 → member set m ≡ true → senior (standing m) (standing o) ≡ true
      → rank_in set standing m < rank_in set standing o
  senior-lower m o l on h =
      omega (
        arith,
        rank_is m,
        rank_is o,
        count-lt 32 (λ k. member set k && above m k) (λ k. member set k && above o k)
            (λ k e. and_both (member set k) (above o k) (and_left (member set k) (above m k) e)
            (senior-transitive (standing k) (standing m) (standing o) (and_right (member set k) (above m k) e) h))
            m l
            (rw (senior-irreflexive (standing m)) (and-false (member set m)))
            (and_both (member set m) (above o m) on h),
      )

  -- where neither is senior the ranks are equal
  pub ties-equal : (m o : ℕ) → senior (standing m) (standing o) ≡ false → senior (standing o) (standing m) ≡ false
      → rank_in set standing m ≡ rank_in set standing o
  unfolding rank_in
  ties-equal m o h k =
      ap (λ n. 1 + n) (count-members-ext set (above m) (above o) (λ x l on. same x (above m x) (above o x) refl refl))
    where
      same : (x : ℕ) (a b : Bool) → senior (standing x) (standing m) ≡ a → senior (standing x) (standing o) ≡ b → a ≡ b
      same x true true u v = refl
      same x true false u v = sym u ∙ not-senior-transitive (standing x) (standing o) (standing m) v k
      same x false true u v = sym (not-senior-transitive (standing x) (standing m) (standing o) u h) ∙ v
      same x false false u v = refl

  -- of two members of the set
  module _ (m o : ℕ) (m-below : m < 32) (m-in : member set m ≡ true) (o-below : o < 32) (o-in : member set o ≡ true) where
    -- the rank is lower exactly if the member is senior
    pub lower-is-senior : ltb (rank_in set standing m) (rank_in set standing o) ≡ senior (standing m) (standing o)
    lower-is-senior = go (senior (standing m) (standing o)) (senior (standing o) (standing m)) refl refl
      where
        go : (a b : Bool) → senior (standing m) (standing o) ≡ a → senior (standing o) (standing m) ≡ b
            → ltb (rank_in set standing m) (rank_in set standing o) ≡ a
        go true b h k = lt-ltb _ _ (senior-lower m o m-below m-in h)
        go false true h k = le-ltb (rank_in set standing m) (rank_in set standing o) (omega (arith, senior-lower o m o-below o-in k))
        go false false h k = le-ltb (rank_in set standing m) (rank_in set standing o) (omega (arith, ties-equal m o h k))

    -- the ranks are equal exactly if neither is senior
    pub equal-is-neither : eqb (rank_in set standing m) (rank_in set standing o) ≡ (not (senior (standing m) (standing o)) && not (senior (standing o) (standing m)))
    equal-is-neither = go (senior (standing m) (standing o)) (senior (standing o) (standing m)) refl refl
      where
        go : (a b : Bool) → senior (standing m) (standing o) ≡ a → senior (standing o) (standing m) ≡ b
            → eqb (rank_in set standing m) (rank_in set standing o) ≡ (not a && not b)
        go true b h k = ne_eqb (rank_in set standing m) (rank_in set standing o) (λ e. omega (arith, senior-lower m o m-below m-in h))
        go false true h k = ne_eqb (rank_in set standing m) (rank_in set standing o) (λ e. omega (arith, senior-lower o m o-below o-in k))
        go false false h k = eq-eqb _ _ (ties-equal m o h k)

-- standings that agree on the members and on m
pub rank-ext : (set : ℕ) (s t : ℕ → Standing) (m : ℕ) → ((o : ℕ) → o < 32 → member set o ≡ true → s o ≡ t o) → s m ≡ t m
    → rank_in set s m ≡ rank_in set t m
unfolding rank_in
rank-ext set s t m same here =
    ap (λ n. 1 + n)
    (count-members-ext set (λ o. senior (s o) (s m)) (λ o. senior (t o) (t m)) (λ o l on. rw (same o l on, here)))
