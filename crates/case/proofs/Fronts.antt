-- The fields at an input's front taken in turn, from where they end. Assumes nothing.
use mathlib.Core.Path.{◌≡◌, refl, sym, ap, ap₂, ◌∙◌}
use mathlib.Core.Bool.{Bool}
use mathlib.Core.List.{List, []}
use Prim.Native.Nat.{ℕ, ◌-◌, ◌≤◌, min}
use native.Mathlib.Omega.{arith}
use lib.ListN.{length, get_or, take}
use Rattle.input.specs.Strings.{strings_in, in_front, ends_from, bytes_of}
use Rattle.input.specs.Fields.{front_size, front_fields, Cuts}
use Rattle.input.proofs.Strings.{ends-long, front_long, front-taken}
use Rattle.input.proofs.Pieces.{fields-most, strings-are}
use Rattle.input.proofs.Fronts.{no-entry, last_end, front-most}
use Rattle.case.specs.Cases.{Held}
use Rattle.case.specs.Input.{Replays, FieldsTaken, ledger_after, ledger_answers}

module _ (h : Held) (last : Bool) (input ends answers ends' : List ℕ) (k : ℕ) (c : Cuts last input (length answers) ends ends' k) where
  abbrev fs : List (List ℕ)
  fs = front_fields last (min (length answers) (length ends)) input

  few : length fs ≤ length ends
  few = omega (arith, fields-most (front_size last) (front-most last) (min (length answers) (length ends)) input)

  pub ends-few : k ≤ length ends'
  ends-few = omega (arith, few, c.count, ap length c.ends, front_long (ends_from 0 fs) ends)

  pub taken_none : k ≡ 0 → FieldsTaken h fs ends answers ends' answers (record { held = h; used = 0; count = k })
  unfolding ledger_after ledger_answers bytes_of in_front
  taken_none e =
      let empty : fs ≡ [] = no-entry fs (sym c.count ∙ e) in
      record { held = rw empty refl; used = rw empty refl; count = c.count; places = c.ends; told = rw empty refl }

  -- the strings that end there are the fields
  strings : strings_in input (take (k - 0) ends') ≡ fs
  strings =
      let z : k - 0 ≡ length (ends_from 0 fs) = omega (arith, c.count, ends-long 0 fs) in
      ap₂ (λ (n : ℕ) (l : List ℕ). strings_in input (take n l)) z c.ends
      ∙ ap (strings_in input) (front-taken (ends_from 0 fs) ends (omega (arith, ends-long 0 fs, few)))
      ∙ strings-are (front_size last) (front-most last) (min (length answers) (length ends)) input

  pub taken-some : (k ≡ 0 → ⊥) → (answers' : List ℕ) (next : Held) → Replays h (strings_in input (take (k - 0) ends')) answers answers' next → (used : ℕ) → used ≡ get_or ends' (k - 1) 0
      → FieldsTaken h fs ends answers ends' answers' (record { held = next; used = used; count = k })
  taken-some more answers' next r used is =
      record {
        held = r.held ∙ ap (ledger_after h) strings;
        used =
            is ∙ ap₂ (λ (n : ℕ) (l : List ℕ). get_or l (n - 1) 0) c.count c.ends ∙ last_end fs ends (λ e. more (c.count ∙ e)) few;
        count = c.count;
        places = c.ends;
        told = r.answers ∙ ap (λ (l : List (List ℕ)). in_front (ledger_answers h l) answers) strings;
      }
