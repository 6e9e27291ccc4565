-- The whole fields of an input taken some at a time (`take_fields`): what holds at each turn is that what is held after the fields that are left is what is held
-- after all. Assumes nothing.
use mathlib.Core.Path.{◌≡◌, refl, sym, ap, ◌∙◌}
use mathlib.Core.Bool.{false}
use mathlib.Core.List.{List, ◌++◌}
use Prim.Native.Nat.{ℕ, ◌+◌, ◌-◌, ◌≤◌, ◌<◌, min}
use native.Mathlib.Omega.{arith}
use lib.ListN.{length, take, drop, length-drop}
use lib.Seq.{drop-drop}
use Rattle.input.specs.Strings.{bytes_of}
use Rattle.input.specs.Fields.{front_size, whole_fields, whole}
use Rattle.input.proofs.Strings.{bytes-two}
use Rattle.input.proofs.Pieces.{bytes_most, fields-few, fields-chunk, fields-stop, Passing, passing-ends}
use Rattle.input.proofs.Fronts.{front-most, rest_all, no-entry}
use Rattle.case.specs.Cases.{Held}
use Rattle.case.specs.declared.Front.{Front}
use Rattle.case.specs.Cases.{applied}
use Rattle.case.specs.Input.{ledger_after, FieldsTaken}
use Rattle.case.proofs.Running.{after_two}
use Rattle.case.proofs.Parts.{after-cons, after_none}

abbrev pub Passed : Held → List ℕ → Held → ℕ → Type 0
Passed = Passing (front_size false) (front-most false) ledger_after

-- the rest of the input, as the code lends it
pub lent : (held : Held) (input : List ℕ) (used n : ℕ) (ends answers ends' answers' : List ℕ) (front : Front)
    → FieldsTaken held (whole_fields n (take (length input - used) (drop used input))) ends answers ends' answers' front
    → FieldsTaken held (whole_fields n (drop used input)) ends answers ends' answers' front
lent held input used n ends answers ends' answers' front taken = rw (rest_all input used) at taken

module _ (h : Held) (input : List ℕ) (held : Held) (used : ℕ) (g : Passed h input held used) (ends answers ends' answers' : List ℕ) (front : Front)
    (taken : FieldsTaken held (whole_fields (min (length answers) (length ends)) (drop used input)) ends answers ends' answers' front) where
  abbrev rest : List ℕ
  rest = drop used input

  abbrev m : ℕ
  m = min (length answers) (length ends)

  abbrev gs : List (List ℕ)
  gs = whole_fields m rest

  pub within : (used + front.used ≤ length input) × (front.count ≤ front.used)
  within = (
    omega (arith, taken.used, bytes_most (front_size false) (front-most false) m rest, length-drop used input, g.place),
    omega (arith, taken.used, taken.count, fields-few (front_size false) (front-most false) m rest),
  )

  -- what is left behind these fields
  pub left : whole rest ≡ gs ++ whole (drop (used + bytes_of gs) input)
  left = fields-chunk (front_size false) (front-most false) m rest ∙ ap (λ (r : List ℕ). gs ++ whole r) (drop-drop (bytes_of gs) used input)

  pub goes : Passed h input front.held (used + front.used)
  goes =
      let behind = whole (drop (used + bytes_of gs) input) in
      rw (taken.held, taken.used) (record {
        place = omega (arith, within, taken.used);
        leads = sym (after_two held gs behind) ∙ ap (ledger_after held) (sym left) ∙ g.leads;
        counted = omega (arith, g.counted, ap bytes_of left, bytes-two gs behind);
      })

  -- where none was taken, no whole field is left
  pub none_left : 0 < length answers → 0 < length ends → front.count ≡ 0 → front_size false rest ≡ 0
  unfolding bytes_of
  none_left some-answers some-ends none-there =
      let empty : length gs ≡ 0 = omega (arith, taken.count) in
      let stop : front_size false (drop (bytes_of gs) rest) ≡ 0 = fields-stop (front_size false) (front-most false) m rest (omega arith) in
      ap (λ (fs : List (List ℕ)). front_size false (drop (bytes_of fs) rest)) (sym (no-entry gs empty)) ∙ stop

-- at the input's end none is left
pub none-behind : (input : List ℕ) (used : ℕ) → length input ≤ used → front_size false (drop used input) ≡ 0
none-behind input used l = omega (arith, front-most false (drop used input), length-drop used input)

pub finished : (h : Held) (input : List ℕ) (held : Held) (used : ℕ) → Passed h input held used → front_size false (drop used input) ≡ 0
    → (held ≡ ledger_after h (whole input)) × (used ≡ bytes_of (whole input))
finished h input held used g stop =
    passing-ends (front_size false) (front-most false) ledger_after h input (λ k f. (applied k f).held) after-cons held used g (front_size false (drop used input)) refl after_none stop
