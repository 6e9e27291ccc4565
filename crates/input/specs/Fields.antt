-- The fields of an input (document 01, "The case and its calls"): "tag (1 byte), length (2), value", one behind the other, of which the last may be "cut off by
-- the input's end".
use Rattle.std.specs.Prelude.{◌≡◌, Bool, false, ◌&&◌, List, ℕ, ◌+◌, min, leb, ltb, length}
use Rattle.lists.specs.Lists.{when◌then◌else◌}
use Rattle.machine.specs.Wire.{number}
use Rattle.input.specs.Strings.{in_front, ends_from}
use Rattle.input.specs.Pieces.{pieces, all_pieces, left_of}

-- the bytes that the first field of an input takes: a tag, a length of 2 bytes and a value; all that is left where it is cut off
unfoldable pub field_size : List ℕ → ℕ
field_size s = when ltb (length s) 3 then length s else 3 + number 1 2 s

-- whether the first field of an input is all there
abbrev pub whole_first : List ℕ → Bool
whole_first s = leb 3 (length s) && leb (field_size s) (length s)

-- the bytes of the first field, and 0 where it is not all there. Where the input ends here, one that is cut off has all that is left
unfoldable pub front_size : Bool → List ℕ → ℕ
front_size last s = when whole_first s then field_size s else (when last then length s else 0)

-- the fields at an input's front, at most n. Where the input ends here, they are its fields (`fields-front`)
abbrev pub front_fields : Bool → ℕ → List ℕ → List (List ℕ)
front_fields last n s = pieces (front_size last) n s

-- the whole fields at an input's front, at most n
abbrev pub whole_fields : ℕ → List ℕ → List (List ℕ)
whole_fields n s = front_fields false n s

-- all of them, and what is left behind them
abbrev pub whole : List ℕ → List (List ℕ)
whole s = all_pieces (front_size false) s

abbrev pub rest : List ℕ → List ℕ
rest s = left_of (front_size false) s

-- of `cut`: where the fields end, as many as there is room for, and how many they are
pub record Cuts (last : Bool) (input : List ℕ) (room : ℕ) (old new : List ℕ) (k : ℕ) : Type 0 where
  pub ends : new ≡ in_front (ends_from 0 (front_fields last (min room (length old)) input)) old
  pub count : k ≡ length (front_fields last (min room (length old)) input)
