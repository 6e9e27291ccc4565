-- What a lent buffer holds after a text is put into it.
use Rattle.std.specs.Prelude.{List, [], ◌∷◌, ℕ, ◌+◌, leb, length, take}
use Rattle.std.proofs.lemmas.List.Edits.{sets}
use Rattle.lists.specs.Lists.{when◌then◌else◌}
use Rattle.machine.specs.Printed.{Line, text}

-- the place behind the text, and what the buffer holds then
abbrev pub Placed : Type 0
Placed = ℕ × List ℕ

-- a text put into a buffer from a place on, and the place behind it; where it does not fit, the place and the buffer stay as they are
unfoldable pub placed : List ℕ → List ℕ → ℕ → Placed
placed t out at = when leb (at + length t) (length out) then (at + length t, sets out at t) else (at, out)

-- a line of a letter and the first of eight numbers
abbrev pub line_of : ℕ → ℕ → List ℕ → Line
line_of letter count numbers = record { letter = letter; numbers = take count numbers }

-- the text of one line
unfoldable pub line_text : Line → List ℕ
line_text l = text (l ∷ [])
