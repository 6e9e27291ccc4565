-- The words that the program is called by: `members 0,1,2 units 40`.
use Rattle.std.specs.Prelude.{ℕ, List, take, ◌==◌, slice_index, Option, None, Some, Result, Ok, Err}
use mathlib.Core.List.{foldl}
use Rattle.lists.specs.Lists.{when◌then◌else◌}
use Rattle.sets.specs.Set.{with_member}
use Rattle.rows.specs.declared.Row.{Row}
use Rattle.rows.specs.declared.Refusal.{Refusal}
use Rattle.rows.specs.Reading.{row_of}

-- the set of some numbers: "a member that is named twice is in the set once"
unfoldable pub set_of : List ℕ → ℕ
set_of numbers = foldl with_member 0 numbers

-- the set of a line's numbers, and the first of them; none where it is refused or has no number
abbrev pub set_in : Result Row Refusal → Option ℕ
set_in (Ok row) = when row.count == 0 then None else Some (set_of (take row.count row.numbers))
set_in (Err refusal) = None

abbrev pub first_in : Result Row Refusal → Option ℕ
first_in (Ok row) = when row.count == 0 then None else Some (slice_index row.numbers 0)
first_in (Err refusal) = None

-- "members by commas, as in 0,1,2": one to 32 numbers, each at most 31
unfoldable pub members_in : List ℕ → Option ℕ
members_in word = set_in (row_of 1 32 31 word)

-- one number of 32 bits
unfoldable pub units_in : List ℕ → Option ℕ
units_in word = first_in (row_of 1 1 4294967295 word)
