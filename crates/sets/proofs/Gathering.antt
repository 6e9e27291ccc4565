-- A loop that gathers the members that pass a test in a set: those found, and those still left that pass, are as many as pass in all.
-- Assumes nothing.
use mathlib.Core.Bool.{Bool, true, false}
use mathlib.Core.Path.{◌≡◌, refl, ap, ◌∙◌}
use mathlib.Core.List.{◌∷◌}
use Prim.Native.Nat.{ℕ, ◌+◌, ◌^◌, ◌<◌}
use native.Mathlib.Omega.{arith}
use lib.ListN.{length}
use borrow.Author.Tests.{ne_eqb}
use Rattle.lists.specs.Lists.{when◌then◌else◌, count, one_if}
use Rattle.lists.proofs.Each.{Each, each_more, each_both, each-always}
use Rattle.sets.specs.Set.{member, members, insert, with_member}
use Rattle.sets.proofs.Bits.{members-none}
use Rattle.sets.proofs.Members.{Taken, with-is, member-none, member-insert, insert-count}

pub record Gathered (p : ℕ → Bool) (set found left : ℕ) : Type 0 where
  pub left-fits : left < 2 ^ 32
  pub apart : Each (λ o. member found o ≡ false) (members left)
  pub counted : length (members found) + count p (members left) ≡ count p (members set)

pub start : (p : ℕ → Bool) (set : ℕ) → set < 2 ^ 32 → Gathered p set 0 set
start p set h = record {
  left-fits = h;
  apart = each-always (λ o. member 0 o ≡ false) member-none (members set);
  counted = rw members-none (omega arith);
}

-- one turn: j is the first of what is left, left' the rest
pub turn : (p : ℕ → Bool) (set found left left' j : ℕ) → Gathered p set found left → Taken left j left' → left' < 2 ^ 32
    → Gathered p set (when p j then with_member found j else found) left'
unfolding count one_if
turn p set found left left' j g t fits = go (p j) refl
  where
    apart : Each (λ o. member found o ≡ false) (j ∷ members left')
    apart = rw t.cons at g.apart

    rest : count p (members left) ≡ one_if (p j) + count p (members left')
    rest = ap (count p) t.cons

    one_more : p j ≡ true → Gathered p set (insert found j) left'
    one_more e = record {
      left-fits = fits;
      apart =
          each_more (λ o. (j < o) × (member found o ≡ false)) (λ o. member (insert found j) o ≡ false)
          (λ o h. member-insert found j o ∙ rw (ne_eqb j o (omega (arith, h.0)), h.1))
          (members left')
          (each_both (λ o. j < o) (λ o. member found o ≡ false) (members left') t.upwards apart.1);
      counted = omega (arith, g.counted, rest, ap one_if e, insert-count found j t.below apart.0);
    }

    as_many : p j ≡ false → Gathered p set found left'
    as_many e = record { left-fits = fits; apart = apart.1; counted = omega (arith, g.counted, rest, ap one_if e) }

    go : (b : Bool) → p j ≡ b → Gathered p set (when b then with_member found j else found) left'
    go true e = rw (with-is found j t.below) (one_more e)
    go false e = as_many e

pub end : (p : ℕ → Bool) (set found left : ℕ) → left ≡ 0 → Gathered p set found left → length (members found) ≡ count p (members set)
unfolding count
end p set found left e g = omega (arith, g.counted, ap (count p) (ap members e ∙ members-none))
