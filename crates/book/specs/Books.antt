-- The program's book: what is read of it, and how each call changes it. Its parts are those of `accounts` and the units, counted.
use Rattle.std.specs.Prelude.{Bool, List, [], ◌∷◌, map, ℕ, ◌+◌, ◌-◌, ◌*◌, min, ltb, get_or, replicate}
use Rattle.lists.specs.Lists.{sum, any, places}
use Rattle.lists.specs.Adding.{most16, most32, held_to}
use Rattle.sets.specs.Set.{members}
use Rattle.splitting.specs.Limits.{split_into}
use Rattle.auction.specs.Price.{zero_price}
use Rattle.wire.specs.declared.Head.{Head}
use Rattle.units.specs.declared.Units.{Units}
use Rattle.units.specs.Steps.{no_units, put_up_units, sell_units, allocate_units, tear_units, miss_units, sale_units}
use Rattle.units.specs.Groups.{move_units}
use Rattle.units.specs.Shown.{open_of, sold_of, passed_of, zero_prices, prices_of}
use Rattle.accounts.specs.declared.pools.Pools.{Pools}
use Rattle.accounts.specs.declared.members.Members.{Members}
use Rattle.accounts.specs.declared.rounds.Rounds.{Rounds}
use Rattle.accounts.specs.declared.bids.Bids.{Bids}
use Rattle.accounts.specs.Pools.{no_pools, put_pool}
use Rattle.accounts.specs.Members.{no_members, owes_of, shortfalls_of, put_member, with_shares, with_calls, with_payment, with_move, with_won}
use Rattle.accounts.specs.Rounds.{no_rounds, put_round, reserve_of}
use Rattle.accounts.specs.Bids.{no_bids, put_bid, withdraw_bid, wins_of, with_wins, won_table}
use Rattle.book.specs.declared.Book.{Book}

-- ---- a book with one part changed

abbrev pub with_pools : Book → Pools → Book
with_pools b v = record { head = b.head; pools = v; members = b.members; rounds = b.rounds; bids = b.bids; units = b.units }

abbrev pub with_members : Book → Members → Book
with_members b v = record { head = b.head; pools = b.pools; members = v; rounds = b.rounds; bids = b.bids; units = b.units }

abbrev pub with_rounds : Book → Rounds → Book
with_rounds b v = record { head = b.head; pools = b.pools; members = b.members; rounds = v; bids = b.bids; units = b.units }

abbrev pub with_bids : Book → Bids → Book
with_bids b v = record { head = b.head; pools = b.pools; members = b.members; rounds = b.rounds; bids = v; units = b.units }

abbrev pub with_units : Book → Units → Book
with_units b v = record { head = b.head; pools = b.pools; members = b.members; rounds = b.rounds; bids = b.bids; units = v }

-- ---- what is read of it

-- the open units of a pool
abbrev pub open_in : Book → ℕ → ℕ
open_in b pool = open_of b.units pool

-- in which pools a unit is open
abbrev pub opened_in : Book → List Bool
opened_in b = ltb 0 (open_in b 0) ∷ ltb 0 (open_in b 1) ∷ ltb 0 (open_in b 2) ∷ ltb 0 (open_in b 3) ∷ []

-- whether any unit is open
unfoldable pub any_open_in : Book → Bool
any_open_in b = any (λ p. ltb 0 (open_in b p)) (places 4)

-- which pools were sold by agreement
abbrev pub sold_pools : Book → List Bool
sold_pools b = sold_of b.units 0 ∷ sold_of b.units 1 ∷ sold_of b.units 2 ∷ sold_of b.units 3 ∷ []

-- the units allocated or moved to a member
abbrev pub passed_in : Book → ℕ → ℕ
passed_in b m = passed_of b.units m

-- the sum of the prices of all units not open, held above 0 by `zero_prices`
abbrev pub prices_in : Book → ℕ
prices_in b = prices_of b.units

-- document 02, C-12: "hedge loss + other loss − the prices of all units so sold, this pool's included, passes margin and defaulter's fund together". In
-- setup no other units have left (`setup-prices`)
unfoldable pub too_dear_in : Book → ℕ → ℕ → Bool
too_dear_in b pool price =
    ltb
    (b.head.margin + b.head.fund + prices_in b + open_in b pool * price)
    (b.head.hedge + b.head.other + zero_prices + open_in b pool * zero_price)

-- "hedge loss + other loss − the prices of all units not open, at least 0"
unfoldable pub requirement_in : Book → ℕ
requirement_in b = b.head.hedge + b.head.other + zero_prices - prices_in b

-- what the members of the set have at their places, added up
abbrev pub over_members : Book → List ℕ → ℕ
over_members b xs = sum (map (λ m. get_or xs m 0) (members b.head.set))

-- "all contributions"
unfoldable pub contributions_in : Book → ℕ
contributions_in b = over_members b b.members.contribution

-- "margin, defaulter's fund, house money and all contributions added"
unfoldable pub prefunded_in : Book → ℕ
prefunded_in b = b.head.margin + b.head.fund + b.head.house + contributions_in b

-- the members' shortfalls in a pool
abbrev pub shortfalls_in : Book → ℕ → List ℕ
shortfalls_in b pool = shortfalls_of b.head.set b.members.expected b.members.won b.members.allocated pool

-- "total shortfall" of a pool
unfoldable pub short_in : Book → ℕ → ℕ
short_in b pool = sum (shortfalls_in b pool)

-- "The smaller of open units and total shortfall is split by shortfall, in member order"
unfoldable pub allocation_in : Book → ℕ → List ℕ
allocation_in b pool = held_to most16 (split_into (min (open_in b pool) (short_in b pool)) (shortfalls_in b pool) (replicate 32 0)).1

-- "the smaller of (requirement − prefunded) and all contributions is split by contribution, in member order"
unfoldable pub calls_in : Book → List ℕ
calls_in b = held_to most32 (split_into (min (requirement_in b - prefunded_in b) (contributions_in b)) b.members.contribution (replicate 32 0)).1

-- ---- how each call changes it; FINISH leaves it as it is

-- HEAD
unfoldable pub new_book : Head → Book
new_book h = record { head = h; pools = no_pools; members = no_members; rounds = no_rounds; bids = no_bids; units = no_units }

-- POOL
unfoldable pub pool_book : Book → ℕ → ℕ → ℕ → Book
pool_book b pool units mark = with_units (with_pools b (put_pool b.pools units mark)) (put_up_units b.units pool units)

-- MEMBER
unfoldable pub member_book : Book → ℕ → ℕ → ℕ → ℕ → ℕ → ℕ → Book
member_book b m contribution p q r s = with_members b (put_member b.members m contribution p q r s)

-- ROUND
unfoldable pub round_book : Book → ℕ → ℕ → ℕ → ℕ → Book
round_book b p q r s =
    with_rounds b
    (put_round b.rounds (p ∷ q ∷ r ∷ s ∷ []) (ltb 0 (open_in b 0) ∷ ltb 0 (open_in b 1) ∷ ltb 0 (open_in b 2) ∷ ltb 0 (open_in b 3) ∷ []))

-- BID of a round
unfoldable pub bid_book : Book → ℕ → ℕ → ℕ → ℕ → ℕ → Book
bid_book b round pool m units price = with_bids b (put_bid b.bids round pool m units price)

-- CLOSE of a round: the bids win what the auction of their pool allots, and get it from its open units
abbrev pub wins_in : Book → ℕ → ℕ → List ℕ
wins_in b round pool = wins_of b.bids round pool (open_in b pool) (reserve_of b.rounds round pool)

abbrev pub bids_closed : Book → ℕ → Bids
bids_closed b round = with_wins b.bids round (wins_in b round 0 ∷ wins_in b round 1 ∷ wins_in b round 2 ∷ wins_in b round 3 ∷ [])

abbrev pub units_sold : Units → ℕ → Bids → Units
units_sold u round x = sell_units u x.kept round x.round x.pool x.price x.won

unfoldable pub close_book : Book → ℕ → Book
close_book b round =
    let x = bids_closed b round in
    with_units (with_members (with_bids b x) (with_won b.members (won_table x))) (units_sold b.units round x)

-- ALLOCATE
unfoldable pub allocate_book : Book → ℕ → ℕ → Book
allocate_book b pool price =
    let shares = allocation_in b pool in
    with_units
    (with_members b (with_shares b.members b.head.set pool shares))
    (allocate_units b.units b.head.set pool price shares)

-- TEAR
unfoldable pub tear_book : Book → ℕ → ℕ → Book
tear_book b pool price = with_units b (tear_units b.units pool price)

-- CALL
unfoldable pub call_book : Book → Book
call_book b = with_members b (with_calls b.members (calls_in b))

-- PAY
unfoldable pub pay_book : Book → ℕ → ℕ → Book
pay_book b m amount = with_members b (with_payment b.members m amount)

-- MOVE
unfoldable pub move_book : Book → ℕ → Book
move_book b m =
    with_units
    (with_members b (with_move b.members m))
    (move_units b.units b.bids.price b.bids.pool m (owes_of b.members m))

-- MISS
unfoldable pub miss_book : Book → ℕ → ℕ → Book
miss_book b m price = with_units b (miss_units b.units m price)

-- SALE
unfoldable pub sale_book : Book → ℕ → ℕ → ℕ → Book
sale_book b pool m price = with_units b (sale_units b.units pool m price)

-- WITHDRAW
unfoldable pub withdraw_book : Book → ℕ → Book
withdraw_book b n = with_bids b (withdraw_bid b.bids n)
