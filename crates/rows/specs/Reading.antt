-- A line of whole numbers between commas. Spaces and tabs may stand before and behind each number, and a carriage return as the last byte. A line that has only
-- blanks, or whose first byte that is no blank is '#', is nothing. A line is read from the left, byte by byte, and refused where it can't be of that form.
use Rattle.std.specs.Prelude.{Bool, ◌&&◌, ◌||◌, List, [], ◌∷◌, ◌++◌, ℕ, suc, ◌+◌, ◌-◌, ◌*◌, min, eqb, leb, ltb, length, Result, Ok, Err}
use Rattle.lists.specs.Lists.{when◌then◌else◌, between}
use Rattle.machine.specs.Printed.{decimal}
use Rattle.rows.specs.declared.Scan.{Scan}
use Rattle.rows.specs.declared.Row.{Row}
use Rattle.rows.specs.declared.Refusal.{Refusal}
use Rattle.rows.specs.declared.Reason.TheVariants.{ExpectedNumber, ExpectedComma, TooLarge, TooMany, EndsEarly, CarriageReturn}
use Rattle.rows.specs.declared.Phase.{Phase}
use Rattle.rows.specs.declared.Phase.TheVariants.{BehindComma, Comment, Ended, Refused}
use Rattle.rows.specs.Scans.{at_start, awaits_number, within_number, behind_number, in_comment, has_ended, past_numbers, begin, with_phase, in_number, stored, refused}

-- "a byte that is no digit where a number is to come", or "a byte that is no comma behind a number"
unfoldable pub strange : Scan → (place : ℕ) → Scan
strange s at = refused s at (when awaits_number s.phase then ExpectedNumber else ExpectedComma)

-- a number ends, if there is one
unfoldable pub settle : Scan → Scan
settle s = when within_number s.phase then stored s else s

-- a number as far as it is read. "the number is too large" is said at its first digit
unfoldable pub grow : (limit : ℕ) → Scan → (place value : ℕ) → Scan
grow limit s at v = when leb v limit then in_number s at v else refused s at TooLarge

-- "most at most 32"
unfoldable pub has_room : (most : ℕ) → Scan → Bool
has_room most s = ltb s.count (min most 32)

-- a number begins; where not even one may stand, there are too many at the place 0
unfoldable pub first_digit : (most limit : ℕ) → Scan → (digit place : ℕ) → Scan
first_digit most limit s d at = when has_room most s then grow limit s at d else refused s s.start TooMany

unfoldable pub on_digit : (most limit : ℕ) → Scan → (digit place : ℕ) → Scan
on_digit most limit s d at =
    when awaits_number s.phase then first_digit most limit s d at
    else when within_number s.phase then grow limit s s.start (s.value * 10 + d)
    else strange s at

-- a comma, behind a number that has ended. Too many are told at the comma before the first number that is too many
unfoldable pub on_comma : (most : ℕ) → Scan → (place : ℕ) → Scan
on_comma most s at =
    when behind_number s.phase then (when has_room most s then with_phase s BehindComma at else refused s at TooMany)
    else strange s at

-- the line's end, or a carriage return; refused where "the line ends where a number is to come, behind a comma, or with fewer than least numbers"
unfoldable pub ended : (least : ℕ) → Scan → (place : ℕ) → Scan
ended least s at = when at_start s.phase || (behind_number s.phase && leb least s.count) then with_phase s Ended at else refused s at EndsEarly

-- '#' begins a comment where nothing stands before it
unfoldable pub on_mark : Scan → (byte place : ℕ) → Scan
on_mark s b at = when eqb b 35 && at_start s.phase then with_phase s Comment at else strange s at

-- a digit; a space or a tab; a comma; a carriage return; another byte
unfoldable pub byte_read : (least most limit : ℕ) → Scan → (byte place : ℕ) → Scan
byte_read least most limit s b at =
    when between 48 57 b then on_digit most limit s (b - 48) at
    else when eqb b 32 || eqb b 9 then settle s
    else when eqb b 44 then on_comma most (settle s) at
    else when eqb b 13 then ended least (settle s) at
    else on_mark s b at

-- a byte in a comment or behind a carriage return; refused is "a carriage return that is not at the line's end", "also in a comment"
unfoldable pub behind : Scan → (byte place : ℕ) → Scan
behind s b at =
    when has_ended s.phase then refused s s.start CarriageReturn
    else when in_comment s.phase && eqb b 13 then with_phase s Ended at
    else s

unfoldable pub step : (least most limit : ℕ) → Scan → (byte place : ℕ) → Scan
step least most limit s b at = when past_numbers s.phase then behind s b at else byte_read least most limit s b at

-- the bytes of a line, from a place on
unfoldable pub scan : (least most limit : ℕ) → Scan → ℕ → List ℕ → Scan
scan least most limit s at [] = s
scan least most limit s at (b ∷ line) = scan least most limit (step least most limit s b at) (suc at) line

-- the line's end, unless a comment, a carriage return or a refusal stands before it
unfoldable pub finish : (least : ℕ) → Scan → (place : ℕ) → Scan
finish least s at = when past_numbers s.phase then s else ended least (settle s) at

-- what is refused has no numbers
abbrev pub outcome_in : Phase → Scan → Result Row Refusal
outcome_in (Refused reason) s = Err (record { at = s.start; reason = reason })
outcome_in _ s = Ok (record { count = s.count; numbers = s.numbers })

unfoldable pub outcome : Scan → Result Row Refusal
outcome s = outcome_in s.phase s

-- what a line is: from `least` to `most` numbers, each at most `limit`; nothing, as a row without a number; or refused at a place counted from 0
unfoldable pub row_of : (least most limit : ℕ) → List ℕ → Result Row Refusal
row_of least most limit line = outcome (finish least (scan least most limit begin 0 line) (length line))

-- ---- numbers as a line

-- each number behind a comma
unfoldable pub more_text : List ℕ → List ℕ
more_text [] = []
more_text (n ∷ ns) = 44 ∷ decimal 20 n ++ more_text ns

-- "a comma between two"
unfoldable pub row_text : List ℕ → List ℕ
row_text [] = []
row_text (n ∷ ns) = decimal 20 n ++ more_text ns
