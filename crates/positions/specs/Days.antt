-- Document 02, C-11: "A new part reads a long run of day records, each with one 4-byte position of 0 to 10,000,000 for every member of the set, in
-- member order, and keeps sums over the last 66 days as the run goes by. When the run ends, a pool's units are split by those sums, in member order.
-- With fewer than 66 days the sums cover the days there are."
use Rattle.std.specs.Prelude.{◌≡◌, ℕ, ◌+◌, ◌-◌, ◌*◌, ◌/◌, Bool, true, not, List, [], ◌∷◌, map, length, drop, ◌==◌, nat_le, nat_lt, slice_index}
use Rattle.std.proofs.lemmas.List.Edits.{sets}
use Rattle.lists.specs.Lists.{between, sum, count_to, tab, all}
use Rattle.lists.specs.Tests.{Test, first_of}
use Rattle.sets.specs.Set.{member, members, of_members}
use Rattle.splitting.specs.Split.{split}
use Rattle.splitting.specs.Limits.{Answer, answered}
use Rattle.machine.specs.Wire.{number}

-- "the last 66 days"
abbrev pub days_kept : ℕ
days_kept = 66

-- "a position of 0 to 10,000,000"
abbrev pub most_position : ℕ
most_position = 10_000_000

-- ---- the records of a run

-- a day: the positions of the members, in member order
abbrev pub Day : Type 0
Day = List ℕ

-- the bytes of a record of n members: "one 4-byte position for every member"
abbrev pub size : ℕ → ℕ
size n = 4 * n

-- the record that begins at a place of the run
unfoldable pub day_at : ℕ → List ℕ → ℕ → Day
day_at n bytes at = tab n (λ m. number (at + 4 * m) 4 bytes)

-- the whole records of a run, in their order
unfoldable pub days_of : ℕ → List ℕ → List Day
days_of n bytes = tab (length bytes / size n) (λ d. day_at n bytes (size n * d))

unfoldable pub in_range : Day → Bool
in_range day = all (λ p. nat_le p most_position) day

-- "one 4-byte position of 0 to 10,000,000 for every member of the set"
abbrev pub DayOf : ℕ → Day → Type 0
DayOf n day = (length day ≡ n) × (in_range day ≡ true)

-- ---- the sums

-- "the last 66 days", or the days there are
unfoldable pub last_days : List Day → List Day
last_days days = drop (length days - days_kept) days

-- the positions of the member at place m over days, added up afresh
unfoldable pub sum_at : ℕ → List Day → ℕ
sum_at m days = sum (map (λ day. slice_index day m) days)

-- the sums of n members over the last 66 days, added up afresh
unfoldable pub sums_of : ℕ → List Day → List ℕ
sums_of n days = tab n (λ m. sum_at m (last_days days))

-- ---- why a run is declined

-- "An empty set, or pool units out of range, is declined by 5 before the run."
unfoldable pub why_before : ℕ → ℕ → ℕ
why_before n units = first_of ((5, (n == 0)) ∷ (5, not (between 1 1_000 units)) ∷ [])

-- how many records a run has; the last of them may be cut short
unfoldable pub records_in : ℕ → List ℕ → ℕ
records_in n bytes = (length bytes + (size n - 1)) / size n

-- "A record cut short is declined by 1, before its positions are looked at, and a position out of range by 5"
unfoldable pub why_record : ℕ → List ℕ → ℕ → ℕ
why_record n bytes d = first_of ((1, nat_lt (length bytes) (size n * d + size n)) ∷ (5, not (in_range (day_at n bytes (size n * d)))) ∷ [])

-- a number that declines where it is not 0
abbrev pub declines : ℕ → Test
declines why = (why, not (why == 0))

-- "the run ends there without a result": the first bad record decides
unfoldable pub why_run : ℕ → ℕ → List ℕ → ℕ
why_run n units bytes = first_of (declines (why_before n units) ∷ tab (records_in n bytes) (λ d. declines (why_record n bytes d)))

-- ---- the expected units

-- numbers in member order at the places of their members, 0 at the other places: a member's place in the order is how many members are below it
unfoldable pub by_member : ℕ → List ℕ → List ℕ
by_member set xs = of_members set (λ m. slice_index xs (count_to m (member set)))

-- the answer to a run, and what the lent shares hold then, 32 places by member number: where it is declined, they are as they were
unfoldable pub expected_units : ℕ → ℕ → List ℕ → List ℕ → Answer
expected_units set units bytes shares =
    let n = length (members set) in
    answered (why_run n units bytes) (sets shares 0 (by_member set (split units (sums_of n (days_of n bytes))))) shares
