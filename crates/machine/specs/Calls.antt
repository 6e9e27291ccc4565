-- Document 01, "The case and its calls": the case after each accepted call.
use Rattle.std.specs.Prelude.{Bool, ◌&&◌, List, [], ◌∷◌, ◌++◌, map, ℕ, suc, ◌+◌, ◌-◌, min, ltb, eqb, get_or, set, replicate, true, false}
use Rattle.lists.specs.Lists.{when◌then◌else◌, sum, keep, among, map_from, tab}
use Rattle.splitting.specs.Split.{split_among}
use Rattle.auction.specs.Auction.{allot}
use Rattle.machine.specs.Wire.{Call, HEAD, POOL, MEMBER, ROUND, BID, CLOSE, ALLOCATE, TEAR, CALL, PAY, MOVE, MISS, FINISH, SALE, WITHDRAW}
use Rattle.machine.specs.Roll.{Sold, Allocated, Agreed, Entry, Bid, no_bid, with_won, withdrawn, open_in, open_units, any_open, put_up, give_lowest, changed_if, torn_if, passed_to}
use Rattle.machine.specs.State.{Bidding, After, CallsOut, Finished, Member, Round, Case, new_case, no_round, in_set, member_list, member_at, round_of}
use Rattle.machine.specs.State.{with_stage, with_pools, with_members, with_rounds, with_bids, with_roll, with_allocated, with_called, with_paid, with_moved}
use Rattle.machine.specs.Requirement.{requirement, prefunded, contribution_of, contributions, owes}
use Rattle.machine.specs.Move.{move_all}

-- ---- POOL, MEMBER, ROUND, BID

-- "POOL, accepted, makes N open"
unfoldable pub after_pool : Case → ℕ → ℕ → ℕ → Case
after_pool c pool units mark =
    with_roll (with_pools c (c.pools ++ (record { units = units; mark = mark } ∷ []))) (put_up pool units c.roll)

-- a member as its MEMBER gives it
abbrev pub new_member : ℕ → List ℕ → Member
new_member contribution expected =
    record { given = true; contribution = contribution; expected = expected; allocated = replicate 4 0; called = 0; paid = 0; moved = false }

unfoldable pub after_member : Case → ℕ → ℕ → List ℕ → Case
after_member c m contribution expected = with_members c (set c.members m (new_member contribution expected))

-- a round with its reserves, and "the pools with open units at each ROUND"
unfoldable pub new_round : ℕ → List Entry → List ℕ → Round
new_round pools roll reserves = record { reserves = reserves; opened = tab pools (λ pool. ltb 0 (open_units roll pool)) }

-- ROUND "makes B", of the next round
unfoldable pub after_round : Case → List ℕ → Case
after_round c reserves =
    with_stage (with_rounds c (c.rounds ++ (new_round c.head.pools c.roll reserves ∷ []))) (Bidding (suc (round_of c.stage)))

-- a bid of a round, which has won nothing yet
abbrev pub new_bid : ℕ → ℕ → ℕ → ℕ → ℕ → Bid
new_bid round pool m units price = record { round = round; pool = pool; member = m; units = units; price = price; won = 0; stands = true }

-- "bids, numbered from 0 as accepted"
unfoldable pub after_bid : Case → ℕ → ℕ → ℕ → ℕ → Case
after_bid c pool m units price = with_bids c (c.bids ++ (new_bid (round_of c.stage) pool m units price ∷ []))

-- ---- CLOSE

-- the reserve of a pool in a round
unfoldable pub reserve : List Round → ℕ → ℕ → ℕ
reserve rounds round pool = get_or (get_or rounds (round - 1) no_round).reserves pool 0

-- a bid of this round that stands. Document 02, C-14: "CLOSE allots as though a withdrawn bid had not been sent"
unfoldable pub in_round : ℕ → Bid → Bool
in_round round b = b.stands && eqb b.round round

-- "a bid of this round .. and only that pool's bids counted"
unfoldable pub in_auction : ℕ → ℕ → Bid → Bool
in_auction round pool b = in_round round b && eqb b.pool pool

-- the units won in a pool, at the place of each bid
unfoldable pub won_in : Case → ℕ → ℕ → List ℕ
won_in c round pool =
    among (in_auction round pool)
    (λ bs. allot (open_units c.roll pool) (reserve c.rounds round pool) (map (λ b. b.units) bs) (map (λ b. b.price) bs))
    c.bids

-- bid i, with the units that it won if it stands and is of this round; `wins` has a list of units won for each pool
unfoldable pub won_given : ℕ → List (List ℕ) → ℕ → Bid → Bid
won_given round wins i b = when in_round round b then with_won b (get_or (get_or wins b.pool []) i 0) else b

-- the bids, those that stand in this round with the units that they won
unfoldable pub bids_after : Case → ℕ → List Bid
bids_after c round = let wins = tab c.head.pools (won_in c round) in map_from 0 (won_given round wins) c.bids

-- "CLOSE gives each bid in order the lowest open entries": the bids of this round that stand, from number i on
unfoldable pub sell : ℕ → ℕ → List Bid → List Entry → List Entry
sell round i [] roll = roll
sell round i (b ∷ bs) roll =
    sell round (suc i) bs (when in_round round b then give_lowest b.pool (Sold i) b.won roll else roll)

-- CLOSE "makes A"
unfoldable pub after_close : Case → Case
after_close c =
    let round = round_of c.stage in
    let bids = bids_after c round in
    with_stage (with_roll (with_bids c bids) (sell round 0 bids c.roll)) (After round)

-- ---- ALLOCATE and TEAR

-- the units that a member won in a pool
unfoldable pub won_by_member : List Bid → ℕ → ℕ → ℕ
won_by_member bids m pool = sum (map (λ b. b.won) (keep (λ b. eqb b.member m && eqb b.pool pool) bids))

-- "a member's shortfall is expected units less units won less units ever allocated to it by this call, all in that pool, at least 0"
unfoldable pub shortfall : Case → ℕ → ℕ → ℕ
shortfall c pool m =
    let x = member_at c.members m in
    get_or x.expected pool 0 - won_by_member c.bids m pool - get_or x.allocated pool 0

-- "total shortfall"
unfoldable pub total_shortfall : Case → ℕ → ℕ
total_shortfall c pool = sum (map (shortfall c pool) (member_list c.head))

-- "The smaller of open units and total shortfall is split by shortfall, in member order"
unfoldable pub allocation : Case → ℕ → List ℕ
allocation c pool = split_among 32 (in_set c.head) (min (open_units c.roll pool) (total_shortfall c pool)) (shortfall c pool)

-- "ALLOCATE each member likewise": the lowest open entries, in member order
unfoldable pub give_shares : ℕ → ℕ → List ℕ → List ℕ → List Entry → List Entry
give_shares pool price shares [] roll = roll
give_shares pool price shares (m ∷ ms) roll =
    give_shares pool price shares ms (give_lowest pool (Allocated m price) (get_or shares m 0) roll)

-- a member with n units more allocated to it in a pool
unfoldable pub also_allocated : ℕ → ℕ → Member → Member
also_allocated pool n x = with_allocated x (set x.allocated pool (get_or x.allocated pool 0 + n))

unfoldable pub after_allocate : Case → ℕ → ℕ → Case
after_allocate c pool price =
    let shares = allocation c pool in
    with_roll
    (with_members c (map_from 0 (λ m x. also_allocated pool (get_or shares m 0) x) c.members))
    (give_shares pool price shares (member_list c.head) c.roll)

-- "TEAR: every open unit of the pool goes at the given price."
unfoldable pub after_tear : Case → ℕ → ℕ → Case
after_tear c pool price = with_roll c (map (torn_if (open_in pool) price) c.roll)

-- ---- CALL, PAY, MOVE, MISS

-- "CALL: the smaller of (requirement − prefunded) and all contributions is split by contribution, in member order."
unfoldable pub calls : Case → List ℕ
calls c = split_among 32 (in_set c.head) (min (requirement c - prefunded c) (contributions c)) (contribution_of c)

-- CALL "makes C"
unfoldable pub after_call : Case → Case
after_call c =
    let shares = calls c in
    with_stage (with_members c (map_from 0 (λ m x. with_called x (get_or shares m 0)) c.members)) CallsOut

-- "PAY adds to what a member paid."
unfoldable pub after_pay : Case → ℕ → ℕ → Case
after_pay c m amount =
    let x = member_at c.members m in
    with_members c (set c.members m (with_paid x (x.paid + amount)))

-- MOVE: units pass as `Move` says, by what the member owes
unfoldable pub after_move : Case → ℕ → Case
after_move c m =
    with_roll
    (with_members c (set c.members m (with_moved (member_at c.members m))))
    (move_all c.bids m (owes c.members m) c.roll)

-- "MISS: all units allocated or moved to the member become torn at the given price."
unfoldable pub after_miss : Case → ℕ → ℕ → Case
after_miss c m price = with_roll c (map (torn_if (λ e. passed_to m e.state) price) c.roll)

-- ---- SALE

-- document 02, C-12: SALE "sells the whole pool to one member"
unfoldable pub sold : ℕ → ℕ → ℕ → List Entry → List Entry
sold pool m price roll = map (changed_if (open_in pool) (Agreed m price)) roll

-- C-12: "If no unit is open afterwards the stage becomes A1"
unfoldable pub after_sale : Case → ℕ → ℕ → ℕ → Case
after_sale c pool m price =
    let roll = sold pool m price c.roll in
    with_stage (with_roll c roll) (when any_open roll then c.stage else After 1)

-- ---- WITHDRAW

-- document 02, C-14: the bid no longer stands; it "keeps its number and still counts towards 256"
unfoldable pub after_withdraw : Case → ℕ → Case
after_withdraw c n = with_bids c (set c.bids n (withdrawn (get_or c.bids n no_bid)))

-- ---- the case after an accepted call

unfoldable pub accepted : Case → Call → Case
accepted c (HEAD h) = new_case h
accepted c (POOL pool units mark) = after_pool c pool units mark
accepted c (MEMBER m contribution expected) = after_member c m contribution expected
accepted c (ROUND reserves) = after_round c reserves
accepted c (BID pool m units price) = after_bid c pool m units price
accepted c CLOSE = after_close c
accepted c (ALLOCATE pool price) = after_allocate c pool price
accepted c (TEAR pool price) = after_tear c pool price
accepted c CALL = after_call c
accepted c (PAY m amount) = after_pay c m amount
accepted c (MOVE m) = after_move c m
accepted c (MISS m price) = after_miss c m price
accepted c FINISH = with_stage c Finished
accepted c (SALE pool m price) = after_sale c pool m price
accepted c (WITHDRAW m n) = after_withdraw c n
