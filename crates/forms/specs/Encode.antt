-- Document 01, "The case and its calls": "A call is a tagged field: tag (1 byte), length (2), value. Numbers are big-endian; prices are signed two's
-- complement." The bytes of a call.
use Rattle.std.specs.Prelude.{◌≡◌, ℕ, zero, suc, ◌+◌, ◌-◌, ◌/◌, ◌%◌, ◌^◌, ◌<◌, ◌≤◌, List, [], ◌∷◌, ◌++◌, length, ◌==◌, nat_lt}
use Rattle.std.proofs.Math.Option.{Option}
use Rattle.lists.specs.Lists.{when◌then◌else◌}
use Rattle.auction.specs.Price.{zero_price}
use Rattle.machine.specs.Wire as Wire
use Rattle.forms.specs.Forms.{Form, tag_of, numbers_of, form_of, kind_of}
use Rattle.forms.specs.Put.{Written, put_into}

-- a number in k bytes, big-endian
unfoldable pub bytes_of : ℕ → ℕ → List ℕ
bytes_of zero n = []
bytes_of (suc k) n = bytes_of k (n / 256) ++ ((n % 256) ∷ [])

-- how many bytes a number takes, by its kind
unfoldable pub width_of : ℕ → ℕ
width_of kind = when nat_lt kind 2 then 1 else when kind == 2 then 2 else 4

-- the number that is written: a price, held as `Price` says, in two's complement
unfoldable pub raw_of : ℕ → ℕ → ℕ
raw_of kind n = when kind == 5 then (n + (2 ^ 32 - zero_price)) % 2 ^ 32 else n

unfoldable pub field_bytes : ℕ → ℕ → List ℕ
field_bytes kind n = bytes_of (width_of kind) (raw_of kind n)

-- the value: the numbers from number i on
unfoldable pub value_from : ℕ → ℕ → List ℕ → List ℕ
value_from tag i [] = []
value_from tag i (n ∷ ns) = field_bytes (kind_of tag i) n ++ value_from tag (suc i) ns

-- "tag (1 byte), length (2), value"; no value has more than 255 bytes
abbrev pub tagged : ℕ → List ℕ → List ℕ
tagged tag v = tag ∷ 0 ∷ length v ∷ v

-- the bytes of a call by its tag and its numbers; no call has no bytes
unfoldable pub encode_form : Form → List ℕ
encode_form (zero, ns) = []
encode_form (suc t, ns) = tagged (suc t) (value_from (suc t) 0 ns)

unfoldable pub encode : Wire.Call → List ℕ
encode c = encode_form (tag_of c, numbers_of c)

-- the bytes put into a buffer from a place on, where there is room for 64, which no field passes
abbrev pub encoded_into : Option Wire.Call → List ℕ → ℕ → Written
encoded_into call out at = put_into 64 (encode_form (form_of call)) out at

-- every number of a list is below a limit
unfoldable pub AllBelow : ℕ → List ℕ → Type 0
AllBelow limit [] = Unit {0}
AllBelow limit (n ∷ ns) = (n < limit) × AllBelow limit ns

-- the numbers of a call fit the bytes that they have
unfoldable pub InWidth : Wire.Call → Type 0
InWidth (Wire.HEAD h) =
    (h.pools < 2 ^ 8) × (h.least_bid < 2 ^ 16) × (h.set < 2 ^ 32) × (h.hedge_loss < 2 ^ 32)
    × (h.other_loss < 2 ^ 32) × (h.margin < 2 ^ 32) × (h.fund < 2 ^ 32) × (h.house < 2 ^ 32)
InWidth (Wire.POOL pool units mark) = (pool < 2 ^ 8) × (units < 2 ^ 16) × (mark < 2 ^ 8)
InWidth (Wire.MEMBER m contribution expected) = (m < 2 ^ 8) × (contribution < 2 ^ 32) × (length expected ≡ 4) × AllBelow (2 ^ 16) expected
InWidth (Wire.ROUND reserves) = (1 ≤ length reserves) × (length reserves ≤ 4) × AllBelow (2 ^ 32) reserves
InWidth (Wire.BID pool m units price) = (pool < 2 ^ 8) × (m < 2 ^ 8) × (units < 2 ^ 16) × (price < 2 ^ 32)
InWidth Wire.CLOSE = Unit {0}
InWidth (Wire.ALLOCATE pool price) = (pool < 2 ^ 8) × (price < 2 ^ 32)
InWidth (Wire.TEAR pool price) = (pool < 2 ^ 8) × (price < 2 ^ 32)
InWidth Wire.CALL = Unit {0}
InWidth (Wire.PAY m amount) = (m < 2 ^ 8) × (amount < 2 ^ 32)
InWidth (Wire.MOVE m) = m < 2 ^ 8
InWidth (Wire.MISS m price) = (m < 2 ^ 8) × (price < 2 ^ 32)
InWidth Wire.FINISH = Unit {0}
InWidth (Wire.SALE pool m price) = (pool < 2 ^ 8) × (m < 2 ^ 8) × (price < 2 ^ 32)
InWidth (Wire.WITHDRAW m n) = (m < 2 ^ 8) × (n < 2 ^ 16)
