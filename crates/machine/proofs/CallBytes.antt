-- The bytes of a call, made from its numbers: "A call is a tagged field: tag (1 byte), length (2), value. Numbers are big-endian; prices are
-- signed two's complement." Worked lists are written by these. Assumes nothing.
use mathlib.Core.List.{List, [], ◌∷◌, ◌++◌}
use Prim.Native.Nat.{ℕ, ◌-◌, ◌*◌, ◌/◌, ◌%◌, ◌^◌}
use lib.ListN.{length}

abbrev two : ℕ → List ℕ
two n = n / 256 ∷ n % 256 ∷ []

abbrev four : ℕ → List ℕ
four n = n / 2 ^ 24 ∷ n / 2 ^ 16 % 256 ∷ n / 2 ^ 8 % 256 ∷ n % 256 ∷ []

abbrev fours : List ℕ → List ℕ
fours [] = []
fours (n ∷ ns) = four n ++ fours ns

-- a price of n cents below 0
infix 30 −◌
abbrev pub −◌ : ℕ → ℕ
− n = 2 ^ 32 - n

-- ---- the thirteen calls, in the order of the column "value (bytes)", SALE and WITHDRAW

-- the member set is a number: bit i is member i
abbrev pub head : (pools least set hedge other margin fund house : ℕ) → List ℕ
head pools least set hedge other margin fund house =
    1 ∷ 0 ∷ 27 ∷ pools ∷ two least ++ four set ++ four hedge ++ four other ++ four margin ++ four fund ++ four house

abbrev pub pool : (number units mark : ℕ) → List ℕ
pool number units mark = 2 ∷ 0 ∷ 4 ∷ number ∷ two units ++ (mark ∷ [])

-- expected units in pools 0 to 3
abbrev pub member : (number contribution a b c d : ℕ) → List ℕ
member number contribution a b c d = 3 ∷ 0 ∷ 13 ∷ number ∷ four contribution ++ two a ++ two b ++ two c ++ two d

abbrev pub round : (reserves : List ℕ) → List ℕ
round reserves = 4 ∷ 0 ∷ 4 * length reserves ∷ fours reserves

abbrev pub bid : (pool member units price : ℕ) → List ℕ
bid pool member units price = 5 ∷ 0 ∷ 8 ∷ pool ∷ member ∷ two units ++ four price

abbrev pub close : List ℕ
close = 6 ∷ 0 ∷ 0 ∷ []

abbrev pub allocate : (pool price : ℕ) → List ℕ
allocate pool price = 7 ∷ 0 ∷ 5 ∷ pool ∷ four price

abbrev pub tear : (pool price : ℕ) → List ℕ
tear pool price = 8 ∷ 0 ∷ 5 ∷ pool ∷ four price

abbrev pub call : List ℕ
call = 9 ∷ 0 ∷ 0 ∷ []

abbrev pub pay : (member amount : ℕ) → List ℕ
pay member amount = 10 ∷ 0 ∷ 5 ∷ member ∷ four amount

abbrev pub move : (member : ℕ) → List ℕ
move member = 11 ∷ 0 ∷ 1 ∷ member ∷ []

abbrev pub miss : (member price : ℕ) → List ℕ
miss member price = 12 ∷ 0 ∷ 5 ∷ member ∷ four price

abbrev pub finish : List ℕ
finish = 13 ∷ 0 ∷ 0 ∷ []

-- document 02, C-12: "SALE (tag 14: pool 1, member 1, price 4)"
abbrev pub sale : (pool member price : ℕ) → List ℕ
sale pool member price = 14 ∷ 0 ∷ 6 ∷ pool ∷ member ∷ four price

-- document 02, C-14: "WITHDRAW (tag 15: member 1, bid number 2)"
abbrev pub withdraw : (member bid : ℕ) → List ℕ
withdraw member bid = 15 ∷ 0 ∷ 3 ∷ member ∷ two bid
