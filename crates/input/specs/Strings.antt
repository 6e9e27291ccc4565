-- Several byte strings in one run of bytes, and numbers written in front of what was there.
use Rattle.std.specs.Prelude.{List, [], ◌∷◌, ℕ, ◌+◌, ◌-◌, min, ltb, length, take, drop}
use Rattle.lists.specs.Lists.{when◌then◌else◌}

-- where the string that begins at a place ends, among n bytes: an end below its begin or above n is held to them
unfoldable pub cut_at : ℕ → ℕ → ℕ → ℕ
cut_at at n end = when ltb end at then at else min end n

-- the strings from a place on: each begins where the last one ends
unfoldable pub strings_from : ℕ → List ℕ → List ℕ → List (List ℕ)
strings_from at bytes [] = []
strings_from at bytes (end ∷ ends) =
    let to = cut_at at (length bytes) end in
    take (to - at) (drop at bytes) ∷ strings_from to bytes ends

-- the strings that end at these ends
abbrev pub strings_in : List ℕ → List ℕ → List (List ℕ)
strings_in bytes ends = strings_from 0 bytes ends

-- numbers written in front of what was there, as far as there is room
unfoldable pub in_front : List ℕ → List ℕ → List ℕ
in_front [] old = old
in_front (x ∷ xs) [] = []
in_front (x ∷ xs) (y ∷ old) = x ∷ in_front xs old

-- where strings end that stand one behind the other from a place on
unfoldable pub ends_from : ℕ → List (List ℕ) → List ℕ
ends_from at [] = []
ends_from at (f ∷ fs) = (at + length f) ∷ ends_from (at + length f) fs

-- the bytes of strings
unfoldable pub bytes_of : List (List ℕ) → ℕ
bytes_of [] = 0
bytes_of (f ∷ fs) = length f + bytes_of fs
