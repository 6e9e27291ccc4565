-- The text of a call: one line, with its name, and each number behind its key.
use Rattle.std.specs.Prelude.{List, [], ◌∷◌, ◌++◌, ℕ, zero, suc, ◌+◌, ◌-◌, ◌/◌, ◌%◌, ◌^◌, eqb, leb, ltb, length}
use Rattle.std.proofs.Math.Option.{Option}
use Rattle.std.proofs.lemmas.List.Edits.{sets}
use Rattle.lists.specs.Lists.{when◌then◌else◌}
use Rattle.auction.specs.Price.{zero_price}
use Rattle.sets.specs.Set.{members}
use Rattle.machine.specs.Wire as Wire
use Rattle.machine.specs.Printed.{decimal}
use Rattle.forms.specs.Forms.{Form, tag_of, numbers_of, form_of, kind_of}
use Rattle.forms.specs.Put.{Written, put_into}
use Rattle.spelling.specs.Words.{key_of, name_of, separator}

-- cents, with a point and two digits behind it
unfoldable pub money_text : ℕ → List ℕ
money_text n = decimal 20 (n / 100) ++ (46 ∷ (48 + n / 10 % 10) ∷ (48 + n % 10) ∷ [])

-- a price, held as `Price` says: any number of 32 bits in two's complement has a text
unfoldable pub price_text : ℕ → List ℕ
price_text p =
    when ltb p zero_price then 45 ∷ money_text (zero_price - p)
    else when ltb p (2 ^ 31 + zero_price) then money_text (p - zero_price)
    else 45 ∷ money_text (2 ^ 32 + zero_price - p)

-- further members, each behind a comma
unfoldable pub more_text : List ℕ → List ℕ
more_text [] = []
more_text (m ∷ ms) = 44 ∷ decimal 20 m ++ more_text ms

-- members by commas, and a dash where there is none
unfoldable pub members_text : List ℕ → List ℕ
members_text [] = 45 ∷ []
members_text (m ∷ ms) = decimal 20 m ++ more_text ms

-- a number by its kind
unfoldable pub number_text : ℕ → ℕ → List ℕ
number_text kind n =
    when ltb kind 3 then decimal 20 n
    else when eqb kind 3 then members_text (members n)
    else when eqb kind 4 then money_text n
    else price_text n

-- number i of a call, behind its key or a comma
abbrev pub item_text : ℕ → ℕ → ℕ → List ℕ
item_text tag i n = separator (key_of tag i) ++ number_text (kind_of tag i) n

-- the numbers from number i on, and the line's end
unfoldable pub items_text : ℕ → ℕ → List ℕ → List ℕ
items_text tag i [] = 10 ∷ []
items_text tag i (n ∷ ns) = item_text tag i n ++ items_text tag (suc i) ns

abbrev pub line_text : ℕ → List ℕ → List ℕ
line_text tag ns = name_of tag ++ items_text tag 0 ns

-- the line of a call by its tag and its numbers; no call has no text
unfoldable pub line_form : Form → List ℕ
line_form (zero, ns) = []
line_form (suc t, ns) = line_text (suc t) ns

unfoldable pub line_of : Wire.Call → List ℕ
line_of c = line_form (tag_of c, numbers_of c)

-- the line put into a buffer from a place on, where there is room for 8,192 bytes, which no line passes
abbrev pub line_into : Option Wire.Call → List ℕ → ℕ → Written
line_into call out at = put_into 8192 (line_form (form_of call)) out at

-- what stands before number i of a call, at the front of a buffer, and its length; nothing is put where no call has such a number, or into a buffer of less
-- than 16 bytes
unfoldable pub key_into : (tag i : ℕ) → List ℕ → Written
key_into tag i out =
    let t = separator (key_of tag i) in
    when ltb (length out) 16 then (0, out)
    else when leb 16 tag then (0, out)
    else when leb 8 i then (0, out)
    else (length t, sets out 0 t)

-- cents put into a buffer from a place on, where there is room for 23 bytes, which no amount of 64 bits passes
abbrev pub money_into : ℕ → List ℕ → ℕ → Written
money_into n out at = put_into 23 (money_text n) out at
