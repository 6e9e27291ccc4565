-- Calls asked first, and what holds at each turn of `run`: the answers written so far, and those that the fields left are given from what is held, are the answers
-- to all fields; and what is held after the fields left is what is held after all. Assumes nothing.
use Rattle.std.specs.Prelude.{Some}
use mathlib.Core.Path.{◌≡◌, refl, sym, ap, ap₂, ◌∙◌}
use mathlib.Core.Bool.{true}
use mathlib.Core.Logic.{⊎_elim}
use mathlib.Core.List.{List, [], ◌∷◌, ◌++◌, append_assoc, append-nil}
use mathlib.Core.Option.{Option}
use Prim.Native.Nat.{ℕ, suc, ◌+◌, ◌-◌, ◌≤◌, ◌<◌, min}
use native.Mathlib.Omega.{arith}
use lib.ListN.{length, take, drop, length-drop, length-append, take-append-drop, drop_of_length-le}
use lib.Seq.{drop-drop, length-take-le, take-append-add, drop-append-add}
use Rattle.lists.proofs.Bools.{lt-or-le}
use Rattle.lists.specs.declared.refusal.Refusal.{Refusal}
use Rattle.lists.specs.Refusals.{number_of}
use Rattle.machine.specs.Wire as Wire
use Rattle.machine.specs.Printed.{fields_in}
use Rattle.case.specs.declared.Case.{Case}
use Rattle.case.specs.Cases.{Held, case_in}
use Rattle.case.specs.declared.Applied.{Applied}
use Rattle.case.specs.declared.Front.{Front}
use Rattle.case.specs.Cases.{answer_to, after_asked, take_asked, applied, no_held}
use Rattle.input.specs.Strings.{in_front, bytes_of}
use Rattle.input.specs.Fields.{front_size, front_fields}
use Rattle.case.specs.Input.{ledger_after, ledger_answers, FieldsTaken}
use Rattle.case.proofs.Outcomes.{take-declined, take-accepted}
use Rattle.input.proofs.Strings.{front_long, front-taken, front-left}
use Rattle.input.proofs.Pieces.{front-zero, front-none, bytes_most, fields-few, fields-most, fields-stop, fields-rest}
use Rattle.input.proofs.Fronts.{front-most, fields-front, rest_all, no-entry}

-- ---- one call, asked first

module _ (h : Held) (a : Option Wire.Call) (s : List ℕ) (read : a ≡ Wire.decode s) where
  -- a call that is declined leaves what is held
  pub asked-declined : (r : Refusal) → number_of r ≡ answer_to h a → ◌≡◌ {A = Applied} (record { answer = number_of r; held = h }) (applied h s)
  unfolding applied
  asked-declined r answered = take-declined h a r answered ∙ ap (take_asked h) read

  pub asked-accepted : 0 ≡ answer_to h a → (d : Case) → d ≡ after_asked (case_in h) a
      → ◌≡◌ {A = Applied} (record { answer = 0; held = Some d }) (applied h s)
  unfolding applied
  asked-accepted answered d e = take-accepted h a answered d e ∙ ap (take_asked h) read

-- ---- fields behind fields

pub after_two : (h : Held) (a b : List (List ℕ)) → ledger_after h (a ++ b) ≡ ledger_after (ledger_after h a) b
unfolding ledger_after
after_two h [] b = refl
after_two h (f ∷ a) b = after_two (applied h f).held a b

pub answers-two : (h : Held) (a b : List (List ℕ)) → ledger_answers h (a ++ b) ≡ ledger_answers h a ++ ledger_answers (ledger_after h a) b
unfolding ledger_answers ledger_after
answers-two h [] b = refl
answers-two h (f ∷ a) b = ap (λ (l : List ℕ). (applied h f).answer ∷ l) (answers-two (applied h f).held a b)

pub answers-long : (h : Held) (a : List (List ℕ)) → length (ledger_answers h a) ≡ length a
unfolding ledger_answers
answers-long h [] = refl
answers-long h (f ∷ a) = ap suc (answers-long (applied h f).held a)

-- ---- the loop

-- the fields left
abbrev left : List ℕ → List ℕ → ℕ → ℕ → List (List ℕ)
left input old at count = front_fields true (length old - count) (drop at input)

pub record Going (input old new : List ℕ) (held : Held) (at count : ℕ) : Type 0 where
  pub size : length new ≡ length old
  pub room : count ≤ length old
  pub place : at ≤ length input
  pub told : take count new ++ ledger_answers held (left input old at count) ≡ ledger_answers no_held (front_fields true (length old) input)
  pub rest : drop count new ≡ drop count old
  pub leads : ledger_after held (left input old at count) ≡ ledger_after no_held (front_fields true (length old) input)
  pub counted : count + length (left input old at count) ≡ length (front_fields true (length old) input)

pub starts : (input old : List ℕ) (h : Held) → h ≡ no_held → Going input old old h 0 0
starts input old h e =
    let z : length old - 0 ≡ length old = omega arith in
    record { size = refl; room = omega arith; place = omega arith; told = rw (z, e) refl; rest = refl; leads = rw (z, e) refl; counted = rw z (omega arith) }

module _ (input old new : List ℕ) (held : Held) (at count : ℕ) (g : Going input old new held at count) (ends ends' part' : List ℕ) (front : Front)
    (taken : FieldsTaken held (front_fields true (min (length (drop count new)) (length ends)) (drop at input)) ends (drop count new) ends' part' front) where
  abbrev m : ℕ
  m = min (length (drop count new)) (length ends)

  abbrev fs : List (List ℕ)
  fs = front_fields true m (drop at input)

  part-long : length (drop count new) ≡ length old - count
  part-long = omega (arith, length-drop count new, g.size)

  -- the fields left are these and those behind them
  left-then : left input old at count ≡ fs ++ left input old (at + bytes_of fs) (count + length fs)
  left-then =
      fields-rest (front_size true) (front-most true) (length old - count) m (drop at input) (omega (arith, part-long))
      ∙ ap₂ (λ (n : ℕ) (r : List ℕ). fs ++ front_fields true n r) (omega arith) (drop-drop (bytes_of fs) at input)

  few : length (ledger_answers held fs) ≤ length (drop count new)
  few = omega (arith, answers-long held fs, fields-most (front_size true) (front-most true) m (drop at input))

  abbrev next : List ℕ
  next = take count new ++ part'

  before : length (take count new) ≡ count
  before = length-take-le count new (omega (arith, g.size, g.room))

  part-is : take (length fs) part' ≡ ledger_answers held fs
  part-is =
      ap₂ (λ (n : ℕ) (l : List ℕ). take n l) (sym (answers-long held fs)) taken.told ∙ front-taken (ledger_answers held fs) (drop count new) few

  part-rest : drop (length fs) part' ≡ drop (length fs) (drop count new)
  part-rest =
      ap₂ (λ (n : ℕ) (l : List ℕ). drop n l) (sym (answers-long held fs)) taken.told
      ∙ front-left (ledger_answers held fs) (drop count new)
      ∙ ap (λ (n : ℕ). drop n (drop count new)) (answers-long held fs)

  pub goes : Going input old next front.held (at + front.used) (count + front.count)
  goes = rw (taken.held, taken.used, taken.count) (record {
    size = length-append (take count new) part' ∙ omega (arith, before, ap length taken.told, front_long (ledger_answers held fs) (drop count new), part-long, g.room);
    room = omega (arith, fields-most (front_size true) (front-most true) m (drop at input), part-long, g.room);
    place = omega (arith, bytes_most (front_size true) (front-most true) m (drop at input), length-drop at input, g.place);
    told =
        rw taken-all
        (append_assoc (take count new) (ledger_answers held fs) _
        ∙ ap (λ (l : List ℕ). take count new ++ l) (sym (answers-two held fs (left input old (at + bytes_of fs) (count + length fs))) ∙ ap (ledger_answers held) (sym left-then))
        ∙ g.told);
    rest = drop_all ∙ part-rest ∙ ap (drop (length fs)) g.rest ∙ drop-drop (length fs) count old;
    leads = sym (after_two held fs (left input old (at + bytes_of fs) (count + length fs))) ∙ ap (ledger_after held) (sym left-then) ∙ g.leads;
    counted = omega (arith, g.counted, ap length left-then, length-append fs (left input old (at + bytes_of fs) (count + length fs)));
  })
    where
      taken-all : take (count + length fs) next ≡ take count new ++ ledger_answers held fs
      taken-all =
          ap (λ (n : ℕ). take (n + length fs) next) (sym before) ∙ take-append-add (take count new) part' (length fs) ∙ ap (λ (l : List ℕ). take count new ++ l) part-is

      drop_all : drop (count + length fs) next ≡ drop (length fs) part'
      drop_all = ap (λ (n : ℕ). drop (n + length fs) next) (sym before) ∙ drop-append-add (take count new) part' (length fs)

-- the same, as the code lends the rest of the input and of the answers
abbrev rest : List ℕ → ℕ → List ℕ
rest xs n = take (length xs - n) (drop n xs)

module _ (input old new : List ℕ) (held : Held) (at count : ℕ) (g : Going input old new held at count) (ends ends' part' : List ℕ) (front : Front)
    (taken : FieldsTaken held (front_fields true (min (length (rest new count)) (length ends)) (rest input at)) ends (rest new count) ends' part' front) where
  pub taken-rest : FieldsTaken held (front_fields true (min (length (drop count new)) (length ends)) (drop at input)) ends (drop count new) ends' part' front
  taken-rest = rw (rest_all new count, rest_all input at) at taken

  pub goes-lent : Going input old (take count new ++ (part' ++ drop (length new - count) (drop count new))) front.held (at + front.used) (count + front.count)
  goes-lent =
      let none-behind' : drop (length new - count) (drop count new) ≡ [] = drop_of_length-le (drop count new) {i = length new - count} (omega (arith, length-drop count new)) in
      rw (none-behind', append-nil part') (goes input old new held at count g ends ends' part' front taken-rest)

-- no field is left: the input is at its end, or there is none at its front, or the answers are full
module _ (input old new : List ℕ) (held : Held) (at count : ℕ) (g : Going input old new held at count) (stop : left input old at count ≡ []) where
  abbrev fields : List (List ℕ)
  fields = fields_in (length old) input

  all : front_fields true (length old) input ≡ fields
  all = sym (fields-front (length old) input)

  pub counts_all : count ≡ length fields
  counts_all = omega (arith, rw stop at g.counted, ap length all)

  pub answers-all : new ≡ ledger_answers no_held fields ++ drop count old
  unfolding ledger_answers
  answers-all =
      let t : take count new ≡ ledger_answers no_held fields = sym (append-nil (take count new)) ∙ (rw stop at g.told) ∙ ap (ledger_answers no_held) all in
      sym (take-append-drop count new) ∙ ap₂ ◌++◌ t g.rest

  pub holds-all : held ≡ ledger_after no_held fields
  unfolding ledger_after
  holds-all = (rw stop at g.leads) ∙ ap (ledger_after no_held) all

-- where the input is at its end no field is left
pub none-behind : (input old : List ℕ) (at count : ℕ) → length input ≤ at → left input old at count ≡ []
none-behind input old at count l =
    front-none (front_size true) (front-most true) (length old - count) (drop at input) (omega (arith, front-most true (drop at input), length-drop at input))

-- no field has no bytes
no_bytes : (fs : List (List ℕ)) → length fs ≡ 0 → bytes_of fs ≡ 0
unfolding bytes_of
no_bytes [] e = refl
no_bytes (f ∷ fs) e = absurd (omega arith)

-- the fields taken are within the input, and one of them takes a byte
pub taken-within : (input old new : List ℕ) (held : Held) (at count : ℕ) → Going input old new held at count → (ends ends' part' : List ℕ) (front : Front)
    → FieldsTaken held (front_fields true (min (length (drop count new)) (length ends)) (drop at input)) ends (drop count new) ends' part' front
    → (at + front.used ≤ length input) × (count + front.count ≤ length old) × (front.count ≤ front.used)
taken-within input old new held at count g ends ends' part' front taken =
    let next = goes input old new held at count g ends ends' part' front taken in
    (next.place, next.room, omega (arith, taken.count, taken.used, fields-few (front_size true) (front-most true) (min (length (drop count new)) (length ends)) (drop at input)))

-- where none was taken, none is left
pub none-taken : (input old new : List ℕ) (held : Held) (at count : ℕ) → Going input old new held at count → (ends ends' part' : List ℕ) (front : Front)
    → FieldsTaken held (front_fields true (min (length (drop count new)) (length ends)) (drop at input)) ends (drop count new) ends' part' front
    → 0 < length ends → front.count ≡ 0 → left input old at count ≡ []
none-taken input old new held at count g ends ends' part' front taken some-room none-there =
    let rest = drop at input in
    let m = min (length (drop count new)) (length ends) in
    let fs = front_fields true m rest in
    let room : length (drop count new) ≡ length old - count = omega (arith, length-drop count new, g.size) in
    let empty : length fs ≡ 0 = omega (arith, taken.count) in
    ⊎_elim
    (λ more.
    let stop : front_size true rest ≡ 0 = ap (λ (n : ℕ). front_size true (drop n rest)) (sym (no_bytes fs empty)) ∙ fields-stop (front_size true) (front-most true) m rest (omega arith) in
    front-none (front_size true) (front-most true) (length old - count) rest stop)
    (λ full. let z : length old - count ≡ 0 = omega arith in ap (λ (n : ℕ). front_fields true n rest) z ∙ front-zero (front_size true) (front-most true) rest)
    (lt-or-le 0 (length (drop count new)))

-- and the answers are as they were
pub none_written : (input old new : List ℕ) (held : Held) (at count : ℕ) → Going input old new held at count → (ends ends' part' : List ℕ) (front : Front)
    → FieldsTaken held (front_fields true (min (length (drop count new)) (length ends)) (drop at input)) ends (drop count new) ends' part' front
    → front.count ≡ 0 → take count new ++ (part' ++ drop (length new - count) (drop count new)) ≡ new
unfolding ledger_answers in_front
none_written input old new held at count g ends ends' part' front taken none-there =
    let fs = front_fields true (min (length (drop count new)) (length ends)) (drop at input) in
    let empty : fs ≡ [] = no-entry fs (sym taken.count ∙ none-there) in
    let same : part' ≡ drop count new = taken.told ∙ ap (λ (l : List (List ℕ)). in_front (ledger_answers held l) (drop count new)) empty in
    let behind : drop (length new - count) (drop count new) ≡ [] = drop_of_length-le (drop count new) {i = length new - count} (omega (arith, length-drop count new)) in
    rw (behind, append-nil part', same) (take-append-drop count new)
