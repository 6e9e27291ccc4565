-- A text of days as records: "one line a day, the positions of the members between commas".
use Rattle.std.specs.Prelude.{◌≡◌, Bool, true, false, List, [], ◌∷◌, ◌++◌, ℕ, ◌≤◌, ltb, length, take, Result, Ok, Err}
use Rattle.lists.specs.Lists.{when◌then◌else◌}
use Rattle.forms.specs.Encode.{bytes_of}
use Rattle.translation.specs.Writes.{WritesSome}
use Rattle.text_lines.specs.Lines.{length_to, good_size, size_within}
use Rattle.rows.specs.declared.Row.{Row}
use Rattle.rows.specs.declared.Refusal.{Refusal}
use Rattle.rows.specs.declared.Reason.TheVariants.{LineTooLong}
use Rattle.rows.specs.declared.Day.{Day}
use Rattle.rows.specs.declared.Part.{Part}
use Rattle.rows.specs.Reading.{row_of}

-- "the line is longer than 65536 bytes"
abbrev pub too_long : Refusal
too_long = record { at = 65536; reason = LineTooLong }

-- what a line is read as, with or without its end: so many numbers, each at most 10,000,000
unfoldable pub day_of : (n : ℕ) → List ℕ → Result Row Refusal
day_of n line = when ltb 65536 (length_to line) then Err too_long else row_of n n 10000000 (take (length_to line) line)

-- whether a line is refused
abbrev pub is_refused : Result Row Refusal → Bool
is_refused (Ok row) = false
is_refused (Err refusal) = true

unfoldable pub refused_day : (n : ℕ) → List ℕ → Bool
refused_day n line = is_refused (day_of n line)

-- "4 bytes big-endian for each of its n numbers"
unfoldable pub four_each : List ℕ → List ℕ
four_each [] = []
four_each (n ∷ ns) = bytes_of 4 n ++ four_each ns

-- the numbers of a line; none of one that is refused
abbrev pub numbers_of : Result Row Refusal → List ℕ
numbers_of (Ok row) = take row.count row.numbers
numbers_of (Err refusal) = []

-- the record of a line; "nothing for a line that is nothing"
unfoldable pub record_of : (n : ℕ) → List ℕ → List ℕ
record_of n line = four_each (numbers_of (day_of n line))

-- the bytes of the first line, and 0 where it is refused or not all there
abbrev pub day_size : (n : ℕ) → Bool → List ℕ → ℕ
day_size n last = good_size (refused_day n) last

-- the contract of `next_day`: no bytes where the line is not to be taken, or there is no room for its record
pub record NextDay (n room : ℕ) (last : Bool) (s : List ℕ) (r : Day) : Type 0 where
  pub size : r.size ≡ size_within 128 room (day_size n last) s
  pub bytes : four_each (take r.row.count r.row.numbers) ≡ record_of n (take r.size s)
  pub few : r.row.count ≤ 32

-- the contract of `take_lines`: the records of the first lines that are good stand at the buffer's front. With 128 bytes there is room for any record
abbrev pub WritesDays : (n : ℕ) → Bool → List ℕ → List ℕ → List ℕ → Part → Type 0
WritesDays n last input old new r = WritesSome (day_size n last) (record_of n) (128 ≤ length old) input old new r.count r.used r.written
