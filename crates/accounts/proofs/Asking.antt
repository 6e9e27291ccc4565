-- A loop that asks of each member of what is left whether it passes a test: one is found, or one of those left passes, exactly if one of the set
-- does. Assumes nothing.
use mathlib.Core.Path.{◌≡◌, refl, sym, ◌∙◌}
use mathlib.Core.Bool.{Bool, true, false, ◌||◌}
use Prim.Native.Nat.{ℕ, ◌^◌, ◌<◌}
use Rattle.lists.specs.Lists.{any}
use Rattle.sets.specs.Set.{members}
use Rattle.sets.proofs.Bits.{members-none}
use Rattle.sets.proofs.Members.{Taken}

pub record Asking (p : ℕ → Bool) (s : ℕ) (found : Bool) (left : ℕ) : Type 0 where
  pub left-fits : left < 2 ^ 32
  pub asks : (found || any p (members left)) ≡ any p (members s)

pub start : (p : ℕ → Bool) (s : ℕ) → s < 2 ^ 32 → Asking p s false s
start p s h = record { left-fits = h; asks = refl }

or-regroup : (a b c : Bool) → ((a || b) || c) ≡ (a || (b || c))
or-regroup true b c = refl
or-regroup false b c = refl

-- one turn: j is the first of what is left, left' the rest
pub turn : (p : ℕ → Bool) (s : ℕ) (found : Bool) (left left' j : ℕ) → Asking p s found left → Taken left j left' → left' < 2 ^ 32 → Asking p s (found || p j) left'
unfolding any
turn p s found left left' j a t fits = record {
  left-fits = fits;
  asks = or-regroup found (p j) (any p (members left')) ∙ (rw t.cons at a.asks);
}

or-none : (a : Bool) → (a || false) ≡ a
or-none true = refl
or-none false = refl

pub end : (p : ℕ → Bool) (s : ℕ) (found : Bool) (left : ℕ) → left ≡ 0 → Asking p s found left → found ≡ any p (members s)
unfolding any
end p s found left e a = sym (or-none found) ∙ (rw (e, members-none) at a.asks)
