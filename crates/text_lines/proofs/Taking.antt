-- Pieces written one by one, each where there is enough room for it. Assumes nothing.
use mathlib.Core.Path.{◌≡◌, refl, sym, ap, subst, ◌∙◌}
use mathlib.Core.Logic.{⊎_elim}
use mathlib.Core.List.{List}
use Prim.Native.Nat.{ℕ, ◌+◌, ◌-◌, ◌≤◌, ◌<◌}
use native.Mathlib.Omega.{arith}
use lib.ListN.{length, take, drop}
use borrow.Author.Tests.{lt-ltb, le-ltb}
use Rattle.lists.proofs.Bools.{lt-or-le}
use Rattle.input.proofs.Fronts.{rest_all}
use Rattle.forms.specs.Put.{Put}
use Rattle.translation.specs.Writes.{WritesSome}
use Rattle.translation.proofs.Writing.{Writing, writing-place, writing-few, writing-none, writing-within, writing-goes, writing-ends}
use Rattle.text_lines.specs.Lines.{size_within}

module _ (enough room : ℕ) (size : List ℕ → ℕ) (s : List ℕ) where
  pub size_small : room < enough → size_within enough room size s ≡ 0
  unfolding size_within
  size_small h = rw (lt-ltb room enough h) refl

  pub size-there : enough ≤ room → size_within enough room size s ≡ size s
  unfolding size_within
  size-there h = rw (le-ltb room enough h) refl

  -- a piece that is taken has room
  size_is : (size_within enough room size s ≡ 0 → ⊥) → (size_within enough room size s ≡ size s) × (enough ≤ room)
  size_is some = ⊎_elim (λ small. absurd (some (size_small small))) (λ there. (size-there there, there)) (lt-or-le room enough)

-- what is known of the room and of what is left, at the start
pub taking-first : (Next : ℕ → List ℕ → Type 0) (input out : List ℕ) → Next (length out) input → Next (length out - 0) (drop 0 input)
taking-first Next input out n = let z : length out ≡ length out - 0 = omega arith in subst (λ (k : ℕ). Next k input) z n

-- and as the code lends what is left
pub taking-lent : (Next : List ℕ → Type 0) (input : List ℕ) (used : ℕ) → Next (take (length input - used) (drop used input)) → Next (drop used input)
taking-lent Next input used n = subst Next (rest_all input used) n

module _ (size : List ℕ → ℕ) (most : (s : List ℕ) → size s ≤ length s) (write : List ℕ → List ℕ) (enough : ℕ) (input old out : List ℕ) (count used to : ℕ)
    (g : Writing size most write input old out count used to) (k : ℕ) (is : k ≡ size_within enough (length out - to) size (drop used input)) where
  place : to ≤ length out
  place = omega (arith, writing-place size most write input old out count used to g, g.put.same)

  pub taking-few : count ≤ length input
  taking-few = omega (arith, g.place, writing-few size most write input old out count used to g)

  module _ (some : k ≡ 0 → ⊥) where
    there : (size_within enough (length out - to) size (drop used input) ≡ size (drop used input)) × (enough ≤ length out - to)
    there = size_is enough (length out - to) size (drop used input) (λ z. some (is ∙ z))

    pub taking-within : used + k ≤ length input
    taking-within = writing-within size most write input old out count used to g k (is ∙ there.0)

    pub taking-room : to + enough ≤ length out
    taking-room = omega (arith, there.1, place)

    module _ (r : ℕ) (next : List ℕ) (put : Put out to (write (take k (drop used input))) enough r next) where
      pub taking-behind : r ≤ length next
      taking-behind = omega (arith, put.behind, put.short, put.same, taking-room)

      pub taking-goes : Writing size most write input old next (count + 1) (used + k) r
      taking-goes = writing-goes size most write input old out count used to g k (is ∙ there.0) some enough r next taking-room put

  pub taking-ends : k ≡ 0 → WritesSome size write (enough ≤ length old) input old out count used to
  taking-ends stop =
      writing-ends size most write input old out count used to g _
      (λ room none-there.
      let z = writing-none size most write input old out count used to g none-there in
      ap size (sym z.0)
      ∙ sym (size-there enough (length out - to) size (drop used input) (omega (arith, room, z.1, g.put.same)))
      ∙ sym is
      ∙ stop)
