-- A text as its lines, and those at its front up to the first that is refused; which lines are refused is told by a test.
use Rattle.std.specs.Prelude.{Bool, true, false, List, [], ◌∷◌, ℕ, suc, ◌+◌, eqb, ltb, length, take, drop}
use Rattle.lists.specs.Lists.{when◌then◌else◌}
use Rattle.input.specs.Strings.{bytes_of}
use Rattle.input.specs.Pieces.{pieces, all_pieces, left_of}

-- the bytes before the first line end, and all where there is none
unfoldable pub length_to : List ℕ → ℕ
length_to [] = 0
length_to (b ∷ s) = when eqb b 10 then 0 else suc (length_to s)

-- The bytes of the first line with its end, and 0 where it is not all there. Where the text ends here, a last line needs no end. A line of more than 65,536
-- bytes is cut behind the first that is too many.
unfoldable pub line_size : Bool → List ℕ → ℕ
line_size last s =
    when ltb 65536 (length_to s) then 65537
    else when ltb (length_to s) (length s) then length_to s + 1
    else when last then length s
    else 0

-- the lines of a text
abbrev pub lines_of : List ℕ → List (List ℕ)
lines_of text = all_pieces (line_size true) text

-- where a line of a text begins, by its number from 0 on; at the text's end where there is none
unfoldable pub start_of : ℕ → List ℕ → ℕ
start_of k text = bytes_of (pieces (line_size true) k text)

-- a line of a text by its number, without its end
unfoldable pub line_at : ℕ → List ℕ → List ℕ
line_at k text = take (length_to (drop (start_of k text) text)) (drop (start_of k text) text)

-- the bytes of the first line, and 0 where it is refused or not all there
unfoldable pub good_size : (refused : List ℕ → Bool) → Bool → List ℕ → ℕ
good_size refused last s = when refused (take (line_size last s) s) then 0 else line_size last s

-- the lines at the front of a text that goes on, up to the first that is refused or not all there
abbrev pub good_lines : (refused : List ℕ → Bool) → List ℕ → List (List ℕ)
good_lines refused s = all_pieces (good_size refused false) s

-- what is left behind them
abbrev pub rest : (refused : List ℕ → Bool) → List ℕ → List ℕ
rest refused s = left_of (good_size refused false) s

-- the bytes of the first line, by a size, and 0 where there is less room than enough for what is written of it
unfoldable pub size_within : (enough room : ℕ) → (List ℕ → ℕ) → List ℕ → ℕ
size_within enough room size s = when ltb room enough then 0 else size s
