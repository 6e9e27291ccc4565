-- The unit that MOVE takes next: an entry of the roll that may move, with the least key. Assumes nothing.
use mathlib.Core.Path.{◌≡◌, ap, ◌∙◌}
use mathlib.Core.Bool.{true, not}
use mathlib.Core.List.{List, [], ◌∷◌}
use mathlib.Core.Option.{Option, none, some}
use Prim.Native.Nat.{ℕ, suc, ◌≤◌, ◌<◌}
use native.Mathlib.Omega.{arith}
use lib.ListN.{length, get_or, drop}
use borrow.Author.Tests.{leb-true, leb-false}
use Rattle.lists.proofs.Bools.{cases}
use Rattle.lists.proofs.Each.{Each, drop-step}
use Rattle.machine.specs.Roll.{Entry, Bid}
use Rattle.machine.specs.Move.{Found, may_move, turn, later, better, next_from}
use Rattle.units.proofs.Over.{open_unit}
use Rattle.turns.specs.Keys.{no_key}
use Rattle.turns.proofs.Turns.{unit_key, key-order, may-low, may-not}

module _ (bids : List Bid) where
  abbrev pub found_key : Option Found → ℕ
  found_key none = no_key
  found_key (some x) = unit_key bids x.entry

  module _ (roll : List Entry) where
    -- what is found is an entry at its place, and may move
    abbrev pub Fine : Option Found → Type 0
    Fine none = Unit {0}
    Fine (some x) = (x.place < length roll) × (get_or roll x.place (open_unit 0) ≡ x.entry) × (may_move bids x.entry ≡ true)

    fine-top : (o : Option Found) → Fine o → found_key o ≤ no_key
    fine-top none f = omega arith
    fine-top (some x) f = omega (arith, may-low bids x.entry f.2)

    -- of two, the one that goes first
    Best : Option Found → Found → Option Found → Type 0
    Best o y r = Fine r × (found_key r ≤ found_key o) × (found_key r ≤ unit_key bids y.entry)

    best : (o : Option Found) (y : Found) → Fine o → Fine (some y) → Best o y (better bids o y)
    unfolding better Best
    best none y f g = (g, omega (arith, may-low bids y.entry g.2), omega arith)
    best (some x) y f g =
        let ky = unit_key bids y.entry in
        let kx = unit_key bids x.entry in
        let order = key-order bids y.entry x.entry g.2 f.2 in
        cases (later (turn bids y.entry) (turn bids x.entry)) _
        (λ t. rw t (f, omega arith, omega (arith, leb-false ky kx (order ∙ ap not t))))
        (λ t. rw t (g, omega (arith, leb-true ky kx (order ∙ ap not t)), omega arith))

    pub record Least (o : Option Found) (es : List Entry) (r : Option Found) : Type 0 where
      pub fine : Fine r
      pub found : found_key r ≤ found_key o
      pub each : Each (λ e. found_key r ≤ unit_key bids e) es

    pub next-least : (i : ℕ) (es : List Entry) (o : Option Found) → drop i roll ≡ es → Fine o → Least o es (next_from bids i es o)
    unfolding next_from Best
    next-least i [] o e f = record { fine = f; found = omega arith; each = tt }
    next-least i (x ∷ xs) o e f =
        let r = drop-step roll i x (open_unit 0) xs e in
        cases (may_move bids x) _
        (λ t.
        let b = best o (record { place = i; entry = x }) f (r.0, r.1, t) in
        let n = next-least (suc i) xs (better bids o (record { place = i; entry = x })) r.2 b.0 in
        rw t (record { fine = n.fine; found = omega (arith, b.1, n.found); each = (omega (arith, b.2, n.found), n.each) }))
        (λ t.
        let n = next-least (suc i) xs o r.2 f in
        rw t (record { fine = n.fine; found = n.found; each = (omega (arith, n.found, fine-top o f, may-not bids x t), n.each) }))
