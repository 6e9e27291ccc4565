-- What is kept as the run goes by: a ring of the last 66 days, a row of 32 places a day, and the sums over it. A part of a run may be cut anywhere.
use Rattle.std.specs.Prelude.{◌≡◌, ℕ, ◌+◌, ◌-◌, ◌*◌, ◌%◌, ◌^◌, not, List, [], ◌∷◌, ◌++◌, length, take, drop, replicate, ◌==◌, nat_lt, slice_index}
use mathlib.Core.List.{foldl}
use Rattle.std.proofs.lemmas.List.Edits.{sets}
use Rattle.lists.specs.Lists.{when◌then◌else◌, tab, Each}
use Rattle.lists.specs.Tests.{first_of}
use Rattle.sets.specs.Set.{members}
use Rattle.splitting.specs.Split.{split}
use Rattle.splitting.specs.Limits.{Answer, answered, refusal}
use Rattle.positions.specs.Days.{Day, DayOf, size, days_of, in_range, sums_of, why_before, declines, by_member}

-- the row that the next day takes, the positions by row and place, and the sums by place
pub record Kept : Type 0 where
  pub row : ℕ
  pub ring : List ℕ
  pub sums : List ℕ

-- what is kept, as its parts are lent
abbrev pub keeping : ℕ → List ℕ → List ℕ → Kept
keeping row ring sums = record { row = row; ring = ring; sums = sums }

-- no day yet
unfoldable pub no_days : Kept
no_days = record { row = 0; ring = replicate 2112 0; sums = replicate 32 0 }

-- behind the last row comes the first
unfoldable pub row_of : ℕ → ℕ
row_of row = when nat_lt row 66 then row else 0

-- a sum with the position that comes and without the one that leaves, in 64 bits
unfoldable pub rolled : ℕ → ℕ → ℕ → ℕ
rolled sum comes leaves = (sum + comes + (2 ^ 64 - leaves)) % 2 ^ 64

-- the sum of the member at place m once a day has come into a row
unfoldable pub rolled_at : List ℕ → List ℕ → ℕ → Day → ℕ → ℕ
rolled_at sums ring row day m = rolled (slice_index sums m) (slice_index day m) (slice_index ring (32 * row + m))

-- one day more of n members: its positions stand in its row, and each of the n sums has rolled
unfoldable pub day_kept : ℕ → Kept → Day → Kept
day_kept n x day =
    let row = row_of x.row in
    record {
      row = row + 1;
      ring = sets x.ring (32 * row) day;
      sums = sets x.sums 0 (tab n (rolled_at x.sums x.ring row day));
    }

-- what is kept after days
unfoldable pub kept_after : ℕ → List Day → Kept
kept_after n days = foldl (day_kept n) no_days days

-- The step that takes a day. "The sums equal those added afresh over the same days, at every day of the run": where what was kept is that of some days, the
-- sums are then those of these days and this one, added up afresh.
pub record TakesDay (n : ℕ) (day : Day) (old new : Kept) : Type 0 where
  pub kept : new ≡ day_kept n old day
  pub afresh : (days : List Day) → Each (DayOf n) (days ++ (day ∷ [])) → old ≡ kept_after n days → take n new.sums ≡ sums_of n (days ++ (day ∷ []))

-- ---- a part of a run

-- what is kept after a part, how many of its bytes were records that were taken, and why the next one is declined, or 0
pub record Taken : Type 0 where
  pub kept : Kept
  pub used : ℕ
  pub answer : ℕ

abbrev pub took : (row : ℕ) (ring sums : List ℕ) (used answer : ℕ) → Taken
took row ring sums used answer = record { kept = keeping row ring sums; used = used; answer = answer }

-- the days of a part behind `used` bytes of it: all of them, or those before the first that is out of range
unfoldable pub taken : ℕ → Kept → ℕ → List Day → Taken
taken n x used [] = record { kept = x; used = used; answer = 0 }
taken n x used (day ∷ days) =
    when in_range day then taken n (day_kept n x day) (used + size n) days else record { kept = x; used = used; answer = 5 }

-- a part of a run of n members: the whole records in it; an empty set has none
unfoldable pub part_of : ℕ → Kept → List ℕ → Taken
part_of n x bytes = when n == 0 then record { kept = x; used = 0; answer = 5 } else taken n x 0 (days_of n bytes)

-- why the end of a run is declined of which `left` bytes of a record are left; the sums of a run are never too large to be split
unfoldable pub why_end : ℕ → ℕ → ℕ → List ℕ → ℕ
why_end n units left sums = first_of (declines (why_before n units) ∷ (1, not (left == 0)) ∷ declines (refusal units (take n sums) n) ∷ [])

-- the end of a run: the units split by the sums
unfoldable pub ended : ℕ → ℕ → ℕ → List ℕ → List ℕ → Answer
ended set units left sums shares =
    let n = length (members set) in
    answered (why_end n units left sums) (sets shares 0 (by_member set (split units (take n sums)))) shares

-- ---- a run in parts

-- what is kept after parts, the bytes that no record was made of yet, and why the run is declined, or 0
pub record Fed : Type 0 where
  pub kept : Kept
  pub left : List ℕ
  pub answer : ℕ

-- one part more, behind the bytes that are left; a declined run takes no further part
unfoldable pub fed : ℕ → Fed → List ℕ → Fed
fed n f part =
    let bytes = f.left ++ part in
    let t = part_of n f.kept bytes in
    when f.answer == 0 then record { kept = t.kept; left = drop t.used bytes; answer = t.answer } else f

-- a run in parts, from its begin to its end
unfoldable pub in_parts : ℕ → ℕ → List (List ℕ) → List ℕ → Answer
in_parts set units parts shares =
    let n = length (members set) in
    let f = foldl (fed n) (record { kept = no_days; left = []; answer = why_before n units }) parts in
    when f.answer == 0 then ended set units (length f.left) f.kept.sums shares else (f.answer, shares)
