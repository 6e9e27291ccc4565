-- The loop that reads day records: one turn over the bytes that are in the buffer, what is kept after all turns (`Fed`, `feed/specs/Feeds`), and what is given.
use Rattle.std.specs.Prelude.{◌≡◌, ℕ, ◌*◌, ◌/◌, List, length, drop, ◌≢◌, Option, MatchOption, Result, IfOk}
use Rattle.lists.specs.Lists.{joined}
use Rattle.splitting.specs.Limits.{Answer}
use Rattle.feed.specs.declared.Failed.{Failed}
use Rattle.feed.specs.Feeds.{Keeps, Fed}
use Rattle.positions.specs.Days.{size, expected_units}
use Rattle.positions.specs.Keeping.{Kept, no_days, part_of, ended}
use Rattle.from_records.specs.declared.Turn.{Turn}
use Rattle.from_records.specs.declared.Stop.{Stop}
use Rattle.from_records.specs.declared.Stop.TheVariants.{Ended, Refused}

-- the bytes behind the whole records
unfoldable pub left_of : ℕ → List ℕ → List ℕ
left_of n bytes = drop (size n * (length bytes / size n)) bytes

-- A turn over some bytes at the front of the buffer: their whole records are taken, up to the first that is out of range. Where there is none, what is left of
-- the bytes stands at the buffer's front, with the buffer's own bytes behind it.
pub record TakesTurn (n : ℕ) (x : Kept) (bytes buf buf' : List ℕ) (y : Kept) (r : Turn) : Type 0 where
  pub kept : y ≡ (part_of n x bytes).kept
  pub answer : r.answer ≡ (part_of n x bytes).answer
  pub keeps : r.answer ≡ 0 → Keeps (left_of n) bytes buf buf' r.len

-- what is kept after a run of bytes, none of whose whole records is out of range
pub record Reached (n : ℕ) (x : Kept) (bytes : List ℕ) : Type 0 where
  pub kept : x ≡ (part_of n no_days bytes).kept
  pub good : (part_of n no_days bytes).answer ≡ 0

-- After all turns the sums are those of the parts that were read, joined, and what is kept at the buffer's front is what is left behind their whole records.
pub record SumsOf (n : ℕ) (sums bytes : List ℕ) : Type 0 where
  pub kept : sums ≡ (part_of n no_days bytes).kept.sums
  pub good : (part_of n no_days bytes).answer ≡ 0

-- a record of the parts that were read has declined the run
pub record Declined (n answer : ℕ) : Type 0 where
  pub parts : List (List ℕ)
  pub is : (part_of n no_days (joined parts)).answer ≡ answer

-- where the reading stops: the sums at the input's end, or a record that is declined
abbrev pub StopsAt : ℕ → List ℕ → Stop → Type 0
StopsAt n buf (Ended sums len days) = Fed (left_of n) (SumsOf n sums) buf len
StopsAt n buf (Refused days answer) = (answer ≢ 0) × Declined n answer

-- The contract of `take_input`: the reading stops at the input's end, at a record that is declined, or where a read fails.
abbrev pub TakesInput : ℕ → List ℕ → Result Stop Failed → Type 0
TakesInput n buf r = IfOk r (StopsAt n buf)

-- The contract of `finish`, by where the reading stopped.
abbrev pub Finishes : ℕ → ℕ → Stop → List ℕ → List ℕ → ℕ → Type 0
Finishes set units (Ended sums len days) old new r = ◌≡◌ {A = Answer} (r, new) (ended set units len sums old)
Finishes set units (Refused days answer) old new r = (r ≡ answer) × (new ≡ old)

-- There are parts, those that were read. Where there is an answer, it and the shares are what document 02 says of the parts joined; bytes behind a record that
-- is declined would not change it. Where there is none the shares are as they were. No contract says which bytes a read brings, so that the parts are only
-- known to exist; the contracts of `take_turn` and `finish` speak of bytes that are lent.
pub record Gives (set units : ℕ) (old new : List ℕ) (r : Option ℕ) : Type 0 where
  pub parts : List (List ℕ)
  pub is : MatchOption r (new ≡ old) (λ answer. ◌≡◌ {A = Answer} (answer, new) (expected_units set units (joined parts) old))
