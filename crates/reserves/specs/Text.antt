-- Document 02, C-17, of the text that the program `ledger` prints: of two inputs whose fields are the same but for reserves, with the same bids valid, all lines are
-- the same, but for the rank and the charge on contribution in m lines. It is proved in proofs/Claims.antt.
use Rattle.std.specs.Prelude.{◌≡◌, Bool, false, ◌&&◌, ◌||◌, List, [], ◌∷◌, ℕ, suc, eqb, length}
use Rattle.lists.specs.Lists.{when◌then◌else◌, between}
use Rattle.machine.specs.Printed.{fields_in, printed}
use Rattle.reserves.specs.Reserves.{SameButReserves}

-- "m: member, rank, charge on contribution, on payments": of an m line the words 2 and 3 are left out; the letter is word 0
unfoldable pub left_out : Bool → ℕ → Bool
left_out is_m w = is_m && between 2 3 w

-- a text without these, from a place on that stands in word w of a line, an m line or another. A space (32) begins the next word, a line's end (10) the next line, and
-- the letter (m is 109) says what line it is
unfoldable pub text_from : Bool → ℕ → List ℕ → List ℕ
text_from is_m w [] = []
text_from is_m w (b ∷ s) =
    when eqb b 10 then b ∷ text_from false 0 s
    else when eqb b 32 then b ∷ text_from is_m (suc w) s
    else when left_out is_m w then text_from is_m w s
    else b ∷ text_from (is_m || (eqb w 0 && eqb b 109)) w s

-- what a text shows outside the house
abbrev pub text_outside : List ℕ → List ℕ
text_outside s = text_from false 0 s

-- the fields of an input
abbrev pub fields_of : List ℕ → List (List ℕ)
fields_of input = fields_in (length input) input

abbrev pub TextStaysAlike : Type 0
TextStaysAlike = (input other : List ℕ) → SameButReserves (fields_of input) (fields_of other) → text_outside (printed input) ≡ text_outside (printed other)
