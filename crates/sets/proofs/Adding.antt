-- A loop that adds up f of each member of what is left: what is added so far and the sum over those left make the whole. Assumes nothing.
use mathlib.Core.Path.{◌≡◌, ap, ◌∙◌}
use mathlib.Core.List.{map}
use Prim.Native.Nat.{ℕ, ◌+◌, ◌*◌, ◌^◌, ◌≤◌, ◌<◌}
use native.Mathlib.Omega.{arith}
use Rattle.lists.specs.Lists.{when◌then◌else◌, sum, sum_to}
use Rattle.lists.proofs.Bools.{either}
use Rattle.lists.proofs.Sums.{sum_to-le}
use Rattle.sets.specs.Set.{member, members}
use Rattle.sets.proofs.Bits.{members-none}
use Rattle.sets.proofs.Members.{Taken, sum-members}

pub record Adding (f : ℕ → ℕ) (s total left : ℕ) : Type 0 where
  pub left-fits : left < 2 ^ 32
  pub adds : total + sum (map f (members left)) ≡ sum (map f (members s))

pub start : (f : ℕ → ℕ) (s : ℕ) → s < 2 ^ 32 → Adding f s 0 s
start f s h = record { left-fits = h; adds = omega arith }

-- one turn: j is the first of what is left, left' the rest
module _ (f : ℕ → ℕ) (s total left left' j : ℕ) (a : Adding f s total left) (t : Taken left j left') where
  split : sum (map f (members left)) ≡ f j + sum (map f (members left'))
  unfolding sum
  split = ap (λ ms. sum (map f ms)) t.cons

  pub turn : left' < 2 ^ 32 → Adding f s (total + f j) left'
  turn fits = record { left-fits = fits; adds = omega (arith, a.adds, split) }

  -- the sum never passes the whole
  pub at_most : total + f j ≤ sum (map f (members s))
  at_most = omega (arith, a.adds, split)

pub end : (f : ℕ → ℕ) (s total left : ℕ) → left ≡ 0 → Adding f s total left → total ≡ sum (map f (members s))
unfolding sum
end f s total left e a = omega (arith, a.adds, ap (λ ms. sum (map f ms)) (ap members e ∙ members-none))

-- a bound on each member's value bounds the sum
pub sum-members-le : (s : ℕ) (f : ℕ → ℕ) (b : ℕ) → ((m : ℕ) → f m ≤ b) → sum (map f (members s)) ≤ 32 * b
unfolding sum_to
sum-members-le s f b h =
    omega (
      arith,
      sum-members s f,
      sum_to-le 32 (λ m. when member s m then f m else 0) (λ m. b) (λ m l. either (λ x. x ≤ b) (member s m) (h m) (omega arith)),
    )
