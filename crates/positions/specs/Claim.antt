-- What is claimed of every run of days. It is proved in proofs/Claims.antt.
use Rattle.std.specs.Prelude.{◌≡◌, ℕ, ◌<◌, ◌≤◌, true, List, [], length, take, nat_lt, slice_index}
use mathlib.Core.List.{foldl}
use Rattle.std.proofs.lemmas.List.Edits.{sets}
use Rattle.lists.specs.Lists.{when◌then◌else◌, sum, all, joined}
use Rattle.sets.specs.Set.{members}
use Rattle.splitting.specs.Split.{split}
use Rattle.positions.specs.Days.{in_range, days_of, sums_of, by_member, expected_units}
use Rattle.positions.specs.Keeping.{no_days, kept_after, fed, in_parts}

-- "The sums equal those added afresh over the same days, at every day of the run."
abbrev pub EveryDay : Type 0
EveryDay =
    (set : ℕ) (bytes : List ℕ) (day : ℕ)
    → let n = length (members set) in
    let days = take day (days_of n bytes) in
    all in_range days ≡ true → take n (kept_after n days).sums ≡ sums_of n days

-- a run in parts that are cut anywhere is answered as the whole run is
abbrev pub CutAnywhere : Type 0
CutAnywhere = (set units : ℕ) (parts : List (List ℕ)) (shares : List ℕ) → in_parts set units parts shares ≡ expected_units set units (joined parts) shares

-- after every part of a run that is not declined the sums kept are those added up afresh over the whole records of the parts so far
abbrev pub EveryPart : Type 0
EveryPart =
    (set : ℕ) (parts : List (List ℕ))
    → let n = length (members set) in
    let f = foldl (fed n) (record { kept = no_days; left = []; answer = 0 }) parts in
    0 < n → f.answer ≡ 0 → take n f.kept.sums ≡ sums_of n (days_of n (joined parts))

-- the shares of the members add up to the pool's units, or to 0 where every sum is 0
abbrev pub AddsUp : Type 0
AddsUp =
    (set units : ℕ) (sums : List ℕ) → length sums ≡ length (members set)
    → sum (by_member set (split units sums)) ≡ (when nat_lt 0 (sum sums) then units else 0)

-- document 02, C-15: of two members the one with the larger sum is never expected to take fewer units
abbrev pub NoLess : Type 0
NoLess =
    (set units : ℕ) (sums : List ℕ) (larger smaller : ℕ) → slice_index (by_member set sums) smaller < slice_index (by_member set sums) larger
    → slice_index (by_member set (split units sums)) smaller ≤ slice_index (by_member set (split units sums)) larger

-- the lent shares have 32 places, and all of them are written
abbrev pub WritesAll : Type 0
WritesAll = (set : ℕ) (xs shares : List ℕ) → length shares ≡ 32 → sets shares 0 (by_member set xs) ≡ by_member set xs

pub record Claim : Type 0 where
  pub every-day : EveryDay
  pub every-part : EveryPart
  pub cut-anywhere : CutAnywhere
  pub adds-up : AddsUp
  pub no_less : NoLess
  pub writes-all : WritesAll
