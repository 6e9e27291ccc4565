-- What is held after the whole fields of bytes that come in parts. Assumes nothing.
use mathlib.Core.Path.{◌≡◌, refl, sym, ap, ap₂, ◌∙◌}
use mathlib.Core.List.{List, [], ◌∷◌, ◌++◌}
use Prim.Native.Nat.{ℕ}
use Rattle.input.specs.Pieces.{pieces}
use Rattle.input.specs.Fields.{whole, rest}
use Rattle.input.proofs.Parts.{fields-apart}
use Rattle.case.specs.Cases.{Held}
use Rattle.case.specs.Cases.{applied, no_held}
use Rattle.case.specs.Input.{ledger_after, HeldAfter}
use Rattle.case.proofs.Running.{after_two}

-- nothing is held where nothing was read
pub none-held : (h : Held) → h ≡ no_held → HeldAfter h []
unfolding ledger_after pieces
none-held h e = e

-- what is held after bytes behind bytes
pub after_then : (h : Held) (s t : List ℕ) → ledger_after h (whole (s ++ t)) ≡ ledger_after (ledger_after h (whole s)) (whole (rest s ++ t))
after_then h s t =
    let a = fields-apart s t in
    ap (ledger_after h) a ∙ after_two h (whole s) (whole (rest s ++ t))

-- the same, from no case on
pub held_then : (h next : Held) (all s t : List ℕ) → next ≡ ledger_after h (whole all) → HeldAfter h s → all ≡ rest s ++ t → HeldAfter next (s ++ t)
held_then h next all s t is held e = is ∙ ap₂ (λ (k : Held) (x : List ℕ). ledger_after k (whole x)) held e ∙ sym (after_then no_held s t)

-- one field, and then the others
pub after-cons : (h : Held) (f : List ℕ) (fs : List (List ℕ)) → ledger_after h (f ∷ fs) ≡ ledger_after (applied h f).held fs
unfolding ledger_after
after-cons h f fs = refl

pub after_none : (h : Held) → ledger_after h [] ≡ h
unfolding ledger_after
after_none h = refl
