-- Document 01, "The case and its calls": "A call is a tagged field: tag (1 byte), length (2), value. Numbers are big-endian; prices are
-- signed two's complement."
use Rattle.std.specs.Prelude.{Bool, ◌&&◌, List, [], ◌∷◌, ℕ, ◌+◌, ◌-◌, ◌*◌, ◌/◌, ◌%◌, ◌^◌, ltb, eqb, ℤ, pos, negsuc, length, get_or, take, drop}
use Rattle.std.proofs.Math.Option.{Option, none, some}
use Rattle.lists.specs.Lists.{when◌then◌else◌, between, tab}
use Rattle.auction.specs.Price.{zero_price}

-- the value of HEAD. `set` is "the members of a case .. a set of 32 bits: bit i is member i"
pub record Head : Type 0 where
  pub pools : ℕ
  pub least_bid : ℕ
  pub set : ℕ
  pub hedge_loss : ℕ
  pub other_loss : ℕ
  pub margin : ℕ
  pub fund : ℕ
  pub house : ℕ

-- the thirteen calls, SALE and WITHDRAW, each with the numbers of its value. Prices and reserves are held as cents + 1,000,000
pub data Call : Type 0 where
  HEAD : Head → Call
  POOL : (pool units mark : ℕ) → Call
  MEMBER : (member contribution : ℕ) (expected : List ℕ) → Call
  ROUND : (reserves : List ℕ) → Call
  BID : (pool member units price : ℕ) → Call
  CLOSE : Call
  ALLOCATE : (pool price : ℕ) → Call
  TEAR : (pool price : ℕ) → Call
  CALL : Call
  PAY : (member amount : ℕ) → Call
  MOVE : (member : ℕ) → Call
  MISS : (member price : ℕ) → Call
  FINISH : Call
  SALE : (pool member price : ℕ) → Call
  WITHDRAW : (member bid : ℕ) → Call

-- the big-endian number of bytes, behind the digits already read
unfoldable pub big_endian : ℕ → List ℕ → ℕ
big_endian n [] = n
big_endian n (b ∷ s) = big_endian (n * 256 + b) s

-- the number in k bytes of a value from a place on
unfoldable pub number : ℕ → ℕ → List ℕ → ℕ
number at k v = big_endian 0 (take k (drop at v))

-- what a number of 32 bits means in "signed two's complement"
unfoldable pub signed : ℕ → ℤ
signed n = when ltb n (2 ^ 31) then pos n else negsuc (2 ^ 32 - 1 - n)

-- the price in 4 bytes, held as cents + 1,000,000 (`Price`): a price that is in range means the cents that its bytes do (`price-in-cents`), and one that is
-- out of range is above 2,000,000 (`price-in-range`)
unfoldable pub price : ℕ → List ℕ → ℕ
price at v = (number at 4 v + zero_price) % 2 ^ 32

-- the right length of a value, by its tag; "ROUND: 4 × pools; with no case 4, 8, 12 or 16" (that it is HEAD's number of pools is a test of ROUND)
unfoldable pub right_length : ℕ → ℕ → Bool
right_length tag n =
    when eqb tag 4 then between 4 16 n && eqb (n % 4) 0
    else eqb n (get_or (27 ∷ 4 ∷ 13 ∷ 0 ∷ 8 ∷ 0 ∷ 5 ∷ 5 ∷ 0 ∷ 5 ∷ 1 ∷ 5 ∷ 0 ∷ 6 ∷ 3 ∷ []) (tag - 1) 0)

-- the column "value (bytes)"; document 02, C-12: "SALE (tag 14: pool 1, member 1, price 4)"; C-14: "WITHDRAW (tag 15: member 1, bid
-- number 2)"
unfoldable pub call_of : ℕ → List ℕ → Call
call_of tag v =
    when eqb tag 1 then
    HEAD (record {
      pools = number 0 1 v;
      least_bid = number 1 2 v;
      set = number 3 4 v;
      hedge_loss = number 7 4 v;
      other_loss = number 11 4 v;
      margin = number 15 4 v;
      fund = number 19 4 v;
      house = number 23 4 v;
    })
    else when eqb tag 2 then POOL (number 0 1 v) (number 1 2 v) (number 3 1 v)
    else when eqb tag 3 then MEMBER (number 0 1 v) (number 1 4 v) (tab 4 (λ p. number (5 + 2 * p) 2 v))
    else when eqb tag 4 then ROUND (tab (length v / 4) (λ p. price (4 * p) v))
    else when eqb tag 5 then BID (number 0 1 v) (number 1 1 v) (number 2 2 v) (price 4 v)
    else when eqb tag 6 then CLOSE
    else when eqb tag 7 then ALLOCATE (number 0 1 v) (price 1 v)
    else when eqb tag 8 then TEAR (number 0 1 v) (price 1 v)
    else when eqb tag 9 then CALL
    else when eqb tag 10 then PAY (number 0 1 v) (number 1 4 v)
    else when eqb tag 11 then MOVE (number 0 1 v)
    else when eqb tag 12 then MISS (number 0 1 v) (price 1 v)
    else when eqb tag 13 then FINISH
    else when eqb tag 14 then SALE (number 0 1 v) (number 1 1 v) (price 2 v)
    else WITHDRAW (number 0 1 v) (number 1 2 v)

-- the call that the bytes are; none is "1. Unknown tag, bytes that aren't exactly one field, or a wrong length"
unfoldable pub decode : List ℕ → Option Call
decode [] = none
decode (tag ∷ []) = none
decode (tag ∷ high ∷ []) = none
decode (tag ∷ high ∷ low ∷ v) =
    when between 1 15 tag && eqb (high * 256 + low) (length v) && right_length tag (length v) then some (call_of tag v) else none
