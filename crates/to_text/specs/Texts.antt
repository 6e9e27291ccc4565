-- Fields as text: a call as its line in the notation, and what is no call as a comment, with its bytes in hexadecimal.
use Rattle.std.specs.Prelude.{◌&&◌, List, [], ◌∷◌, ◌++◌, map, ℕ, suc, ◌+◌, ◌/◌, ◌%◌, ltb, eqb}
use Rattle.std.proofs.Math.Option.{Option, none, some}
use Rattle.lists.specs.Lists.{when◌then◌else◌, joined}
use Rattle.machine.specs.Wire.{Call, decode}
use Rattle.spelling.specs.Text.{line_of}

-- 0 to 9, a to f
unfoldable pub hex_digit : ℕ → ℕ
hex_digit d = when ltb d 10 then 48 + d else 87 + d

-- a byte behind a space
unfoldable pub hex_text : ℕ → List ℕ
hex_text b = 32 ∷ hex_digit (b / 16) ∷ hex_digit (b % 16) ∷ []

-- a further line, "\n#", before every 32nd byte but the first
unfoldable pub break_text : ℕ → List ℕ
break_text i = when ltb 0 i && eqb (i % 32) 0 then 10 ∷ 35 ∷ [] else []

-- the bytes from byte i on
unfoldable pub hex_from : ℕ → List ℕ → List ℕ
hex_from i [] = []
hex_from i (b ∷ bytes) = (break_text i ++ hex_text b) ++ hex_from (suc i) bytes

-- "# not a call:", the bytes, and the line's end
abbrev pub begin : List ℕ
begin = 35 ∷ 32 ∷ 110 ∷ 111 ∷ 116 ∷ 32 ∷ 97 ∷ 32 ∷ 99 ∷ 97 ∷ 108 ∷ 108 ∷ 58 ∷ []

unfoldable pub comment : List ℕ → List ℕ
comment bytes = begin ++ hex_from 0 bytes ++ (10 ∷ [])

-- the line of a call, or a comment where there is none
abbrev pub line_or : List ℕ → Option Call → List ℕ
line_or other none = other
line_or other (some call) = line_of call

-- the text of a field
unfoldable pub field_text : List ℕ → List ℕ
field_text field = line_or (comment field) (decode field)

-- the text of fields
abbrev pub fields_text : List (List ℕ) → List ℕ
fields_text fields = joined (map field_text fields)
