-- A call as its tag and its numbers, and what kind of number each is: the form in which a call is written and read, as bytes or as text.
use Rattle.std.specs.Prelude.{ℕ, ◌+◌, ◌*◌, ◌&&◌, List, [], ◌∷◌, nat_lt, slice_index}
use Rattle.std.proofs.Math.Option.{Option, none, some}
use Rattle.lists.specs.Lists.{when◌then◌else◌, between}
use Rattle.machine.specs.Wire as Wire
use Rattle.wire.specs.declared.Call.{Call}
use Rattle.wire.specs.declared.Call.TheVariants.{Head as HeadCall, Pool, Member, Round, Bid, Close, Allocate, Tear, Call as CallCall, Pay, Move, Miss, Finish, Sale, Withdraw, Unknown}
use Rattle.forms.specs.declared.Tagged.{Tagged}

-- "tag (1 byte)"
unfoldable pub tag_of : Wire.Call → ℕ
tag_of (Wire.HEAD h) = 1
tag_of (Wire.POOL pool units mark) = 2
tag_of (Wire.MEMBER m contribution expected) = 3
tag_of (Wire.ROUND reserves) = 4
tag_of (Wire.BID pool m units price) = 5
tag_of Wire.CLOSE = 6
tag_of (Wire.ALLOCATE pool price) = 7
tag_of (Wire.TEAR pool price) = 8
tag_of Wire.CALL = 9
tag_of (Wire.PAY m amount) = 10
tag_of (Wire.MOVE m) = 11
tag_of (Wire.MISS m price) = 12
tag_of Wire.FINISH = 13
tag_of (Wire.SALE pool m price) = 14
tag_of (Wire.WITHDRAW m n) = 15

-- the numbers of a call, in the order of its value
unfoldable pub numbers_of : Wire.Call → List ℕ
numbers_of (Wire.HEAD h) =
    h.pools ∷ h.least_bid ∷ h.set ∷ h.hedge_loss ∷ h.other_loss ∷ h.margin ∷ h.fund ∷ h.house ∷ []
numbers_of (Wire.POOL pool units mark) = pool ∷ units ∷ mark ∷ []
numbers_of (Wire.MEMBER m contribution expected) = m ∷ contribution ∷ expected
numbers_of (Wire.ROUND reserves) = reserves
numbers_of (Wire.BID pool m units price) = pool ∷ m ∷ units ∷ price ∷ []
numbers_of Wire.CLOSE = []
numbers_of (Wire.ALLOCATE pool price) = pool ∷ price ∷ []
numbers_of (Wire.TEAR pool price) = pool ∷ price ∷ []
numbers_of Wire.CALL = []
numbers_of (Wire.PAY m amount) = m ∷ amount ∷ []
numbers_of (Wire.MOVE m) = m ∷ []
numbers_of (Wire.MISS m price) = m ∷ price ∷ []
numbers_of Wire.FINISH = []
numbers_of (Wire.SALE pool m price) = pool ∷ m ∷ price ∷ []
numbers_of (Wire.WITHDRAW m n) = m ∷ n ∷ []

-- a tag and numbers; tag 0 is no call
abbrev pub Form : Type 0
Form = ℕ × List ℕ

unfoldable pub form_of : Option Wire.Call → Form
form_of none = (0, [])
form_of (some c) = (tag_of c, numbers_of c)

-- the kinds of the numbers: 1 a number of one byte, 2 of two bytes, 3 a set of members, 4 an amount of money, 5 a price; 0 none. A row for each tag
abbrev pub kinds : List ℕ
kinds =
    0 ∷ 0 ∷ 0 ∷ 0 ∷ 0 ∷ 0 ∷ 0 ∷ 0
    ∷ 1 ∷ 2 ∷ 3 ∷ 4 ∷ 4 ∷ 4 ∷ 4 ∷ 4
    ∷ 1 ∷ 2 ∷ 1 ∷ 0 ∷ 0 ∷ 0 ∷ 0 ∷ 0
    ∷ 1 ∷ 4 ∷ 2 ∷ 2 ∷ 2 ∷ 2 ∷ 0 ∷ 0
    ∷ 5 ∷ 5 ∷ 5 ∷ 5 ∷ 0 ∷ 0 ∷ 0 ∷ 0
    ∷ 1 ∷ 1 ∷ 2 ∷ 5 ∷ 0 ∷ 0 ∷ 0 ∷ 0
    ∷ 0 ∷ 0 ∷ 0 ∷ 0 ∷ 0 ∷ 0 ∷ 0 ∷ 0
    ∷ 1 ∷ 5 ∷ 0 ∷ 0 ∷ 0 ∷ 0 ∷ 0 ∷ 0
    ∷ 1 ∷ 5 ∷ 0 ∷ 0 ∷ 0 ∷ 0 ∷ 0 ∷ 0
    ∷ 0 ∷ 0 ∷ 0 ∷ 0 ∷ 0 ∷ 0 ∷ 0 ∷ 0
    ∷ 1 ∷ 4 ∷ 0 ∷ 0 ∷ 0 ∷ 0 ∷ 0 ∷ 0
    ∷ 1 ∷ 0 ∷ 0 ∷ 0 ∷ 0 ∷ 0 ∷ 0 ∷ 0
    ∷ 1 ∷ 5 ∷ 0 ∷ 0 ∷ 0 ∷ 0 ∷ 0 ∷ 0
    ∷ 0 ∷ 0 ∷ 0 ∷ 0 ∷ 0 ∷ 0 ∷ 0 ∷ 0
    ∷ 1 ∷ 1 ∷ 5 ∷ 0 ∷ 0 ∷ 0 ∷ 0 ∷ 0
    ∷ 1 ∷ 2 ∷ 0 ∷ 0 ∷ 0 ∷ 0 ∷ 0 ∷ 0
    ∷ []

-- the kind of a call's number i, by its tag; 0 where the call has no such number
unfoldable pub kind_of : ℕ → ℕ → ℕ
kind_of tag i = when nat_lt tag 16 && nat_lt i 8 then slice_index kinds (tag * 8 + i) else 0

-- a call of the program: a tag and eight numbers, of which the first `count` are the call's
abbrev pub flat_of : (tag count a b c d e f g h : ℕ) → Tagged
flat_of tag count a b c d e f g h = record { tag = tag; count = count; numbers = a ∷ b ∷ c ∷ d ∷ e ∷ f ∷ g ∷ h ∷ [] }

-- a ROUND has one to four reserves
unfoldable pub flat_round : ℕ → ℕ → ℕ → ℕ → ℕ → Tagged
flat_round n a b c d = when between 1 4 n then flat_of 4 n a b c d 0 0 0 0 else flat_of 0 0 0 0 0 0 0 0 0 0

-- the tag and the numbers of a call of the program
unfoldable pub flattened : Call → Tagged
flattened (HeadCall h) = flat_of 1 8 h.pools h.least h.set h.hedge h.other h.margin h.fund h.house
flattened (Pool pool units mark) = flat_of 2 3 pool units mark 0 0 0 0 0
flattened (Member m contribution a b c d) = flat_of 3 6 m contribution a b c d 0 0
flattened (Round n a b c d) = flat_round n a b c d
flattened (Bid pool m units price) = flat_of 5 4 pool m units price 0 0 0 0
flattened Close = flat_of 6 0 0 0 0 0 0 0 0 0
flattened (Allocate pool price) = flat_of 7 2 pool price 0 0 0 0 0 0
flattened (Tear pool price) = flat_of 8 2 pool price 0 0 0 0 0 0
flattened CallCall = flat_of 9 0 0 0 0 0 0 0 0 0
flattened (Pay m amount) = flat_of 10 2 m amount 0 0 0 0 0 0
flattened (Move m) = flat_of 11 1 m 0 0 0 0 0 0 0
flattened (Miss m price) = flat_of 12 2 m price 0 0 0 0 0 0
flattened Finish = flat_of 13 0 0 0 0 0 0 0 0 0
flattened (Sale pool m price) = flat_of 14 3 pool m price 0 0 0 0 0
flattened (Withdraw m n) = flat_of 15 2 m n 0 0 0 0 0 0
flattened Unknown = flat_of 0 0 0 0 0 0 0 0 0 0
