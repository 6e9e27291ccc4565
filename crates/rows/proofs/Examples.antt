-- Lines and what they are read as, with from 2 to 3 numbers, each at most 10,000,000, computed. Assumes nothing.
use Rattle.std.specs.Prelude.{Result, Ok, Err}
use mathlib.Core.Path.{◌≡◌, refl}
use mathlib.Core.Bool.{true, false}
use mathlib.Core.List.{List, [], ◌∷◌}
use Prim.Native.Nat.{ℕ}
use lib.ListN.{take}
use Rattle.input.specs.Pieces.{pieces}
use Rattle.machine.proofs.Examples.{Example, ◌says◌, AllHold}
use Rattle.rows.specs.declared.Row.{Row}
use Rattle.rows.specs.declared.Refusal.{Refusal}
use Rattle.rows.specs.declared.Reason.{Reason}
use Rattle.rows.specs.declared.Reason.TheVariants.{ExpectedNumber, ExpectedComma, TooLarge, TooMany, EndsEarly, CarriageReturn, LineTooLong}
use Rattle.rows.specs.Reading.{row_of, row_text}
use Rattle.rows.specs.Days.{record_of, day_size}
use Rattle.rows.specs.Computing.{computing}

-- the reasons, numbered from 1
abbrev number_of : Reason → ℕ
number_of ExpectedNumber = 1
number_of ExpectedComma = 2
number_of TooLarge = 3
number_of TooMany = 4
number_of EndsEarly = 5
number_of CarriageReturn = 6
number_of LineTooLong = 7

-- 0, 0 and the numbers of a line; the reason and the place of one that is refused
abbrev seen : Result Row Refusal → List ℕ
seen (Ok row) = 0 ∷ 0 ∷ take row.count row.numbers
seen (Err refusal) = number_of refusal.reason ∷ refusal.at ∷ []

abbrev read : List ℕ → List ℕ
read line = seen (row_of 2 3 10000000 line)

abbrev pub lines : List Example
lines =
    -- blanks may stand before and behind each number: ` 1 ,\t2 , 3\t`
    (read (32 ∷ 49 ∷ 32 ∷ 44 ∷ 9 ∷ 50 ∷ 32 ∷ 44 ∷ 32 ∷ 51 ∷ 9 ∷ []) says 0 ∷ 0 ∷ 1 ∷ 2 ∷ 3 ∷ [])
    -- leading zeros are fine: `0007,000`
    ∷ (read (48 ∷ 48 ∷ 48 ∷ 55 ∷ 44 ∷ 48 ∷ 48 ∷ 48 ∷ []) says 0 ∷ 0 ∷ 7 ∷ 0 ∷ [])
    -- a carriage return as the last byte: `1,2\r`, `\r`
    ∷ (read (49 ∷ 44 ∷ 50 ∷ 13 ∷ []) says 0 ∷ 0 ∷ 1 ∷ 2 ∷ [])
    ∷ (read (13 ∷ []) says 0 ∷ 0 ∷ [])
    -- only blanks, and a comment: ` \t`, `  # 1,2`, `#\r`
    ∷ (read (32 ∷ 9 ∷ []) says 0 ∷ 0 ∷ [])
    ∷ (read (32 ∷ 32 ∷ 35 ∷ 32 ∷ 49 ∷ 44 ∷ 50 ∷ []) says 0 ∷ 0 ∷ [])
    ∷ (read (35 ∷ 13 ∷ []) says 0 ∷ 0 ∷ [])
    -- the limit: `10000000,1`
    ∷ (read (49 ∷ 48 ∷ 48 ∷ 48 ∷ 48 ∷ 48 ∷ 48 ∷ 48 ∷ 44 ∷ 49 ∷ []) says 0 ∷ 0 ∷ 10000000 ∷ 1 ∷ [])
    -- ExpectedNumber: `1,,2`, `,1`, `1,x`, `-1,2`
    ∷ (read (49 ∷ 44 ∷ 44 ∷ 50 ∷ []) says 1 ∷ 2 ∷ [])
    ∷ (read (44 ∷ 49 ∷ []) says 1 ∷ 0 ∷ [])
    ∷ (read (49 ∷ 44 ∷ 120 ∷ []) says 1 ∷ 2 ∷ [])
    ∷ (read (45 ∷ 49 ∷ 44 ∷ 50 ∷ []) says 1 ∷ 0 ∷ [])
    -- ExpectedComma: `1;2`, `1 2`, `1,2 # two`
    ∷ (read (49 ∷ 59 ∷ 50 ∷ []) says 2 ∷ 1 ∷ [])
    ∷ (read (49 ∷ 32 ∷ 50 ∷ []) says 2 ∷ 2 ∷ [])
    ∷ (read (49 ∷ 44 ∷ 50 ∷ 32 ∷ 35 ∷ 32 ∷ 116 ∷ 119 ∷ 111 ∷ []) says 2 ∷ 4 ∷ [])
    -- TooLarge, one above the limit, and a number of thirty digits: `1,10000001`, ` 123456789012345678901234567890`
    ∷ (read (49 ∷ 44 ∷ 49 ∷ 48 ∷ 48 ∷ 48 ∷ 48 ∷ 48 ∷ 48 ∷ 49 ∷ []) says 3 ∷ 2 ∷ [])
    ∷ (read (32 ∷ 49 ∷ 50 ∷ 51 ∷ 52 ∷ 53 ∷ 54 ∷ 55 ∷ 56 ∷ 57 ∷ 48 ∷ 49 ∷ 50 ∷ 51 ∷ 52 ∷ 53 ∷ 54 ∷ 55 ∷ 56 ∷ 57 ∷ 48 ∷ 49 ∷ 50 ∷ 51 ∷ 52 ∷ 53 ∷ 54 ∷ 55 ∷ 56 ∷ 57 ∷ 48 ∷ []) says 3 ∷ 1 ∷ [])
    -- TooMany: `1,2,3,4`, `1,2,3,`
    ∷ (read (49 ∷ 44 ∷ 50 ∷ 44 ∷ 51 ∷ 44 ∷ 52 ∷ []) says 4 ∷ 5 ∷ [])
    ∷ (read (49 ∷ 44 ∷ 50 ∷ 44 ∷ 51 ∷ 44 ∷ []) says 4 ∷ 5 ∷ [])
    -- EndsEarly: `1,2,`, `1,\r`, `1`
    ∷ (read (49 ∷ 44 ∷ 50 ∷ 44 ∷ []) says 5 ∷ 4 ∷ [])
    ∷ (read (49 ∷ 44 ∷ 13 ∷ []) says 5 ∷ 2 ∷ [])
    ∷ (read (49 ∷ []) says 5 ∷ 1 ∷ [])
    -- CarriageReturn: `1,2\r `, `# \r1`, `\r\r`
    ∷ (read (49 ∷ 44 ∷ 50 ∷ 13 ∷ 32 ∷ []) says 6 ∷ 3 ∷ [])
    ∷ (read (35 ∷ 32 ∷ 13 ∷ 49 ∷ []) says 6 ∷ 2 ∷ [])
    ∷ (read (13 ∷ 13 ∷ []) says 6 ∷ 0 ∷ [])
    ∷ []

pub lines-hold : AllHold lines
unfolding computing
lines-hold = (refl, (refl, (refl, (refl, (refl, (refl, (refl, (refl, (refl, (refl, (refl, (refl, (refl, (refl, (refl, (refl, (refl, (refl, (refl, (refl, (refl, (refl, (refl, (refl, (refl, tt)))))))))))))))))))))))))

-- the text of three numbers
pub text-of-three : row_text (40 ∷ 0 ∷ 7 ∷ []) ≡ 52 ∷ 48 ∷ 44 ∷ 48 ∷ 44 ∷ 55 ∷ []
unfolding computing
text-of-three = refl

-- one number, as the units are given, and no more than one
pub units-read : seen (row_of 1 1 1000000 (52 ∷ 48 ∷ [])) ≡ 0 ∷ 0 ∷ 40 ∷ []
unfolding computing
units-read = refl

pub units-refused : seen (row_of 1 1 1000000 (52 ∷ 48 ∷ 44 ∷ 49 ∷ [])) ≡ 4 ∷ 2 ∷ []
unfolding computing
units-refused = refl

-- ---- records

-- a line of two positions, its end with it; a comment; a line that is refused
pub records : (record_of 2 (49 ∷ 44 ∷ 51 ∷ 48 ∷ 48 ∷ 13 ∷ 10 ∷ []) ≡ 0 ∷ 0 ∷ 0 ∷ 1 ∷ 0 ∷ 0 ∷ 1 ∷ 44 ∷ []) × (record_of 2 (35 ∷ 32 ∷ 49 ∷ 44 ∷ 50 ∷ 10 ∷ []) ≡ []) × (record_of 2 (49 ∷ 44 ∷ 50 ∷ 44 ∷ 51 ∷ 10 ∷ []) ≡ [])
unfolding computing
records = (refl, refl, refl)

-- of a text whose second line is refused only the first line is taken, and of one that ends in the first line that line if it is the last
pub taken : (pieces (day_size 1 false) 9 (55 ∷ 10 ∷ 56 ∷ 44 ∷ 10 ∷ 57 ∷ 10 ∷ []) ≡ (55 ∷ 10 ∷ []) ∷ []) × (pieces (day_size 1 false) 9 (55 ∷ []) ≡ []) × (pieces (day_size 1 true) 9 (55 ∷ []) ≡ (55 ∷ []) ∷ [])
unfolding computing
taken = (refl, refl, refl)
