-- The loop that reads lines of positions: what is kept after the lines that were taken, and what the run gives at its end.
use Rattle.std.specs.Prelude.{◌≡◌, ℕ, ◌+◌, ◌%◌, ◌^◌, ◌≤◌, Bool, true, false, not, ◌||◌, List, ◌++◌, length, ◌==◌, Option, MatchOption, Result, IfOk}
use Rattle.lists.specs.Lists.{when◌then◌else◌, any, joined, Bytes}
use Rattle.sets.specs.Set.{members}
use Rattle.feed.specs.declared.Failed.{Failed}
use Rattle.feed.specs.Feeds.{Keeps, Fed}
use Rattle.translation.specs.Writes.{texts, WritesAll}
use Rattle.text_lines.specs.Lines as Lines
use Rattle.text_lines.specs.Lines.{line_size, lines_of}
use Rattle.rows.specs.Days.{refused_day, record_of, day_size}
use Rattle.positions.specs.Days.{why_before, expected_units}
use Rattle.positions.specs.Keeping.{Kept, keeping, no_days, part_of}
use Rattle.from_lines.specs.declared.Days.{Days}
use Rattle.from_lines.specs.declared.Took.{Took}
use Rattle.from_lines.specs.declared.Rest.{Rest}

-- how many members a set has
abbrev pub count : ℕ → ℕ
count set = length (members set)

-- the records of lines, one behind the other
abbrev pub records : ℕ → List (List ℕ) → List ℕ
records n lines = texts (record_of n) lines

-- the lines at the front of a text that goes on, up to the first that is refused or not all there
abbrev pub good_lines : ℕ → List ℕ → List (List ℕ)
good_lines n s = Lines.good_lines (refused_day n) s

-- what is left behind them
abbrev pub rest : ℕ → List ℕ → List ℕ
rest n s = Lines.rest (refused_day n) s

-- whether the first line that is left is refused: it is all there, and was not taken
abbrev pub stops_at : ℕ → List ℕ → Bool
stops_at n s = not (line_size false (rest n s) == 0)

-- one number is another, as a number of 64 bits
abbrev pub Counts : ℕ → ℕ → Type 0
Counts k m = k % 2 ^ 64 ≡ m % 2 ^ 64

-- all of some bytes are records in range, and what is kept before them becomes this behind them
abbrev pub Leads : ℕ → Kept → List ℕ → Kept → Type 0
Leads n x bytes y = part_of n x bytes ≡ record { kept = y; used = length bytes; answer = 0 }

-- this is kept after a whole run of records
abbrev pub Holds : ℕ → List ℕ → Kept → Type 0
Holds n bytes x = Leads n no_days bytes x

-- this is kept where the records of some lines more are taken, whatever run stands before them
abbrev pub Adds : ℕ → Kept → List (List ℕ) → Kept → Type 0
Adds n x lines y = (run : List ℕ) → Holds n run x → Holds n (run ++ records n lines) y

-- what is kept of the days
abbrev pub kept_in : Days → Kept
kept_in days = keeping days.row days.ring days.sums

-- the contract of `take_days`
abbrev pub TakesDays : ℕ → Kept → List ℕ → Kept → Type 0
TakesDays n x bytes y = y ≡ (part_of n x bytes).kept

-- the contract of `take_all`: all lines are taken, up to the first that is refused or not all there, and counted
pub record TakesAll (n first : ℕ) (input : List ℕ) (x y : Kept) (r : Took) : Type 0 where
  pub took : WritesAll (day_size n false) input r.used false
  pub lines : Counts r.lines (first + length (good_lines n input))
  pub adds : Adds n x (good_lines n input) y
  pub refused : r.refused ≡ stops_at n input

-- A turn over some bytes at the front of the buffer: their lines are taken and counted, what is left of the bytes stands at the buffer's front, with the buffer's own
-- bytes behind it, and it is known whether that begins with a line that is refused.
pub record TakesTurn (n first : ℕ) (bytes : List ℕ) (x : Kept) (buf buf' : List ℕ) (y : Kept) (r : Rest) : Type 0 where
  pub keeps : Keeps (rest n) bytes buf buf' r.len
  pub lines : Counts r.lines (first + length (good_lines n bytes))
  pub adds : Adds n x (good_lines n bytes) y
  pub refused : r.refused ≡ stops_at n bytes

-- the lines of a text are counted, this is kept after their records, and it is known whether the next line is refused
pub record After (n lines : ℕ) (x : Kept) (refused : Bool) (s : List ℕ) : Type 0 where
  pub counts : Counts lines (length (good_lines n s))
  pub holds : Holds n (records n (good_lines n s)) x
  pub stops : refused ≡ stops_at n s

-- After all turns there are parts, those that were read; what is kept and counted is that of the lines at the front of the parts joined, up to the first that is
-- refused or not all there, and what is left behind them stands at the buffer's front.
abbrev pub FedTo : ℕ → List ℕ → ℕ → Kept → Bool → ℕ → Type 0
FedTo n buf lines x refused len = Fed (rest n) (After n lines x refused) buf len

-- where the input ended or a line is refused
pub record StopsAt (n : ℕ) (buf : List ℕ) (x : Kept) (rest : Rest) : Type 0 where
  pub fed : FedTo n buf rest.lines x rest.refused rest.len
  pub room : rest.refused ≡ false → rest.len ≤ 65536

-- The contract of `take_input`. Where the input ended, at most 65,536 bytes are kept, so that a buffer of 65,537 bytes has room for a further read, and the read
-- that brought nothing is the input's end.
abbrev pub TakesInput : ℕ → List ℕ → Kept → Result Rest Failed → Type 0
TakesInput n buf x r = IfOk r (StopsAt n buf x)

-- ---- what is given

-- whether a line of a text is refused
abbrev pub any_refused : ℕ → List ℕ → Bool
any_refused n text = any (refused_day n) (lines_of text)

-- whether shares are given, and what the lent shares hold then
abbrev pub Given : Type 0
Given = Bool × List ℕ

-- nothing, or each member's share of the units by a run of records
abbrev pub nothing_or : (nothing : Bool) → ℕ → ℕ → List ℕ → List ℕ → Given
nothing_or nothing set units bytes shares = when nothing then (false, shares) else (true, (expected_units set units bytes shares).1)

-- What a text of days gives: nothing where the set is empty, the units are out of range or a line is refused, else each member's share of the units by the records of
-- its lines.
unfoldable pub lines_give : ℕ → ℕ → List ℕ → List ℕ → Given
lines_give set units text shares =
    let n = count set in
    nothing_or (not (why_before n units == 0) || any_refused n text) set units (records n (lines_of text)) shares

-- the contract of `finish`: what the lines that are left give behind any run before them
abbrev pub Finishes : ℕ → ℕ → List ℕ → Kept → List ℕ → List ℕ → Bool → Type 0
Finishes set units left x shares shares' r =
    let n = count set in
    (run : List ℕ) → Holds n run x → ◌≡◌ {A = Given} (r, shares') (nothing_or (any_refused n left) set units (run ++ records n (lines_of left)) shares)

-- The contract of `run`. There are parts, those that were read. Where it is known what their text gives, the shares are given or not, and are, as `lines_give` says;
-- else they are untouched. No contract says which bytes a read brings, so that the parts are only known to exist; the contracts of `take_turn` and `finish` speak of
-- bytes that are lent.
pub record Gives (set units : ℕ) (shares shares' : List ℕ) (r : Option Bool) : Type 0 where
  pub parts : List (List ℕ)
  pub bytes : Bytes (joined parts)
  pub is : MatchOption r (shares' ≡ shares) (λ given. ◌≡◌ {A = Given} (given, shares') (lines_give set units (joined parts) shares))
