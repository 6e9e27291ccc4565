-- Many calls taken in turn by the program, and the fields of an input. The contract of `run`: its answers and what it holds in the end are the machine's.
use Rattle.std.specs.Prelude.{◌≡◌, Bool, List, [], ◌∷◌, ◌++◌, map, ℕ, min, length, drop}
use Rattle.machine.specs.Run.{Observed, run, observed, run_from}
use Rattle.machine.specs.Printed.{fields_in}
use Rattle.std.proofs.Math.Option.{none}
use Rattle.input.specs.Strings.{in_front, ends_from, bytes_of}
use Rattle.input.specs.Fields.{front_fields, whole}
use Rattle.case.specs.Cases.{Held}
use Rattle.case.specs.declared.Front.{Front}
use Rattle.case.specs.declared.Ran.{Ran}
use Rattle.case.specs.Cases.{applied, no_held}
use Rattle.case.specs.Readings.{seen}

-- what is held after a list of calls
unfoldable pub ledger_after : Held → List (List ℕ) → Held
ledger_after h [] = h
ledger_after h (call ∷ calls) = ledger_after (applied h call).held calls

-- what the ledger holds after the whole fields of some bytes, from no case on
abbrev pub HeldAfter : Held → List ℕ → Type 0
HeldAfter held s = held ≡ ledger_after no_held (whole s)

-- the answers to a list of calls
unfoldable pub ledger_answers : Held → List (List ℕ) → List ℕ
ledger_answers h [] = []
ledger_answers h (call ∷ calls) = (applied h call).answer ∷ ledger_answers (applied h call).held calls

-- ---- calls, and the fields at an input's front

-- of `replay`: the answers to calls in front of what was there, and what is held after them
pub record Replays (h : Held) (calls : List (List ℕ)) (old new : List ℕ) (r : Held) : Type 0 where
  pub answers : new ≡ in_front (ledger_answers h calls) old
  pub held : r ≡ ledger_after h calls

-- of `take_fields`, for fields at an input's front
pub record FieldsTaken (h : Held) (fs : List (List ℕ)) (ends answers ends' answers' : List ℕ) (r : Front) : Type 0 where
  pub held : r.held ≡ ledger_after h fs
  pub used : r.used ≡ bytes_of fs
  pub count : r.count ≡ length fs
  pub places : ends' ≡ in_front (ends_from 0 fs) ends
  pub told : answers' ≡ in_front (ledger_answers h fs) answers

-- as many as there is room for answers and for where they end
abbrev pub TakesFields : Held → Bool → List ℕ → List ℕ → List ℕ → List ℕ → List ℕ → Front → Type 0
TakesFields h last input ends answers ends' answers' r = FieldsTaken h (front_fields last (min (length answers) (length ends)) input) ends answers ends' answers' r

-- ---- a whole input

-- as many fields of an input as there is room for answers, each answered as the machine answers it, and what is held then shows what the
-- machine shows
pub record Runs (input old new : List ℕ) (r : Ran) : Type 0 where
  pub count : r.count ≡ length (fields_in (length old) input)
  pub answers : new ≡ map (λ (o : Observed). o.answer) (run (fields_in (length old) input)) ++ drop r.count old
  pub shows : (n : ℕ) → seen n r.held ≡ observed n (run_from none (fields_in (length old) input))
