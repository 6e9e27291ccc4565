-- Bytes cut into pieces from the front, fields or lines: a function says how many bytes the first piece has, and 0 where it is not all there.
use Rattle.std.specs.Prelude.{true, false, List, [], ◌∷◌, ℕ, zero, suc, eqb, length, take, drop}
use Rattle.input.specs.Strings.{bytes_of}

-- the pieces at the front of some bytes, at most n
unfoldable pub pieces : (List ℕ → ℕ) → ℕ → List ℕ → List (List ℕ)
pieces size zero s = []
pieces size (suc n) s =
    let k = size s in
    elim (eqb k 0) [
      | true ↦ []
      | false ↦ take k s ∷ pieces size n (drop k s)
    ]

-- all of them: a piece has a byte or more
abbrev pub all_pieces : (List ℕ → ℕ) → List ℕ → List (List ℕ)
all_pieces size s = pieces size (length s) s

-- what is left behind them
abbrev pub left_of : (List ℕ → ℕ) → List ℕ → List ℕ
left_of size s = drop (bytes_of (all_pieces size s)) s
