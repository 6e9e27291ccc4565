-- Expected units from daily positions, worked by hand from document 02 and computed from the definitions. Assumes nothing.
use Rattle.std.proofs.Common.{◌≡◌, ℕ, List, [], ◌∷◌, ◌++◌, take, drop, replicate, refl}
use Rattle.positions.specs.Computing.{computing}
use Rattle.positions.specs.Days.{sums_of, expected_units}
use Rattle.positions.specs.Keeping.{in_parts}

-- the lent shares before a run: a number that no run gives
abbrev before : List ℕ
before = replicate 32 77

-- the shares of members 0 and 2; nobody else has one
abbrev of02 : ℕ → ℕ → List ℕ
of02 a c = a ∷ 0 ∷ c ∷ replicate 29 0

-- two days of members 0 and 2: positions 1, 3 and 2, 2
abbrev two_days : List ℕ
two_days = 0 ∷ 0 ∷ 0 ∷ 1 ∷ 0 ∷ 0 ∷ 0 ∷ 3 ∷ 0 ∷ 0 ∷ 0 ∷ 2 ∷ 0 ∷ 0 ∷ 0 ∷ 2 ∷ []

-- 10 units by the sums 3 and 5, 3.75 and 6.25; averages rounded first, 1 and 2, would give 3 and 7
pub split-by-sums : expected_units 5 10 two_days before ≡ (0, of02 4 6)
unfolding computing
split-by-sums = refl

-- two days of members 0 and 2: positions 0, 1 and 1, 2
abbrev tied_days : List ℕ
tied_days = 0 ∷ 0 ∷ 0 ∷ 0 ∷ 0 ∷ 0 ∷ 0 ∷ 1 ∷ 0 ∷ 0 ∷ 0 ∷ 1 ∷ 0 ∷ 0 ∷ 0 ∷ 2 ∷ []

-- C-15: "such a tie goes to the larger weight": 10 units by the sums 1 and 3, 2.5 and 7.5. Floors 2 and 7, remainders 2 and 2 by 4, and the odd unit goes to
-- member 2
pub tie-to-larger : expected_units 5 10 tied_days before ≡ (0, of02 2 8)
unfolding computing
tie-to-larger = refl

-- the first run in parts that are cut within a position
pub in-parts : in_parts 5 10 (take 3 two_days ∷ [] ∷ drop 3 two_days ∷ []) before ≡ (0, of02 4 6)
unfolding computing
in-parts = refl

-- no day: accepted, and every share is 0
pub no-day : expected_units 5 10 [] before ≡ (0, replicate 32 0)
unfolding computing
no-day = refl

-- sums all 0: likewise
pub no-position : expected_units 5 10 (replicate 16 0) before ≡ (0, replicate 32 0)
unfolding computing
no-position = refl

-- a record cut short by one byte, and one that has only its first
pub cut_short : expected_units 5 10 (take 15 two_days) before ≡ (1, before)
unfolding computing
cut_short = refl

pub one-byte-more : expected_units 5 10 (two_days ++ (0 ∷ [])) before ≡ (1, before)
unfolding computing
one-byte-more = refl

-- the largest position, 10,000,000, and one above it
abbrev most : ℕ → List ℕ
most last = 0 ∷ 152 ∷ 150 ∷ last ∷ []

pub largest-position : expected_units 5 10 (most 128 ++ (0 ∷ 0 ∷ 0 ∷ 0 ∷ [])) before ≡ (0, of02 10 0)
unfolding computing
largest-position = refl

pub above-the-limit : expected_units 5 10 (most 129 ++ (0 ∷ 0 ∷ 0 ∷ 0 ∷ [])) before ≡ (5, before)
unfolding computing
above-the-limit = refl

-- the same position before a record that is cut short decides
pub out-of-range-first : expected_units 5 10 (most 129 ++ (0 ∷ 0 ∷ 0 ∷ 3 ∷ 0 ∷ [])) before ≡ (5, before)
unfolding computing
out-of-range-first = refl

-- also where it has left the last 66 days since
pub left-the-window : expected_units 1 10 (most 129 ++ replicate 268 0) before ≡ (5, before)
unfolding computing
left-the-window = refl

-- in the record that is cut short it is not looked at
pub cut-not-looked-at : expected_units 5 10 (two_days ++ most 129 ++ (0 ∷ 0 ∷ 0 ∷ [])) before ≡ (1, before)
unfolding computing
cut-not-looked-at = refl

-- an empty set, or units out of range, before any record is looked at
pub before-the-run : (expected_units 0 10 (7 ∷ []) before ≡ (5, before)) × (expected_units 5 0 (7 ∷ []) before ≡ (5, before)) × (expected_units 5 1_001 (7 ∷ []) before ≡ (5, before))
unfolding computing
before-the-run = (refl, refl, refl)

-- the ends of the range of units
pub range-ends : (expected_units 5 1 two_days before ≡ (0, of02 0 1)) × (expected_units 5 1_000 two_days before ≡ (0, of02 375 625))
unfolding computing
range-ends = (refl, refl)

-- ---- 66 days and more, of one member: day k has the position k

abbrev day : ℕ → List ℕ
day k = k ∷ []

abbrev run : List (List ℕ)
run = day 1_000 ∷ day 200 ∷ replicate 64 (day 1) ++ (day 30 ∷ day 4 ∷ [])

-- 66 days: all of them; the next day the first leaves, and then the second
pub days-66 : sums_of 1 (take 66 run) ≡ 1_264 ∷ []
unfolding computing
days-66 = refl

pub days-67 : sums_of 1 (take 67 run) ≡ 294 ∷ []
unfolding computing
days-67 = refl

pub days-68 : sums_of 1 run ≡ 98 ∷ []
unfolding computing
days-68 = refl
