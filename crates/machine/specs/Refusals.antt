-- Document 01, "Why a call is declined" and "Ranges". A call is declined by the first test of its list that holds; each list stands in the
-- order of the numbers. Number 1, for bytes that are no call, is `Wire.decode`.
use Rattle.std.specs.Prelude.{Bool, ◌&&◌, ◌||◌, not, List, [], ◌∷◌, ℕ, ◌+◌, ◌*◌, leb, ltb, eqb, length, get_or, take, drop}
use Rattle.lists.specs.Lists.{sum, between, any, all}
use Rattle.lists.specs.Tests.{Test, first_of}
use Rattle.auction.specs.Price.{zero_price, price_ok}
use Rattle.machine.specs.Wire.{Head, Call, HEAD, POOL, MEMBER, ROUND, BID, CLOSE, ALLOCATE, TEAR, CALL, PAY, MOVE, MISS, FINISH, SALE, WITHDRAW}
use Rattle.machine.specs.Roll.{Entry, no_bid, open_units, any_open, passed_to, agreed_prices}
use Rattle.machine.specs.State.{Pool, Case, State, the_case, no_case, is_s, is_b, is_a, is_a1, is_c, no_pool, in_set, member_list, member_at, round_of}
use Rattle.machine.specs.Requirement.{requirement, prefunded, owes}
use Rattle.machine.specs.Calls.{in_round, total_shortfall, sold}

-- ---- "5. A number is out of range."

-- "pools 1 to 4; least bid .. 1 to 1,000; member set not empty; .. hedge and other loss to 2×10^9; margin and house money to 4×10^9; a fund
-- or contribution to 5×10^8"
unfoldable pub head_ok : Head → Bool
head_ok h =
    all (λ b. b)
    (between 1 4 h.pools
    ∷ between 1 1000 h.least_bid
    ∷ ltb 0 h.set
    ∷ leb h.hedge_loss 2_000_000_000
    ∷ leb h.other_loss 2_000_000_000
    ∷ leb h.margin 4_000_000_000
    ∷ leb h.fund 500_000_000
    ∷ leb h.house 4_000_000_000
    ∷ [])

-- "pool units .. 1 to 1,000; .. mark 0 or 1"
unfoldable pub pool_ok : ℕ → ℕ → Bool
pool_ok units mark = between 1 1000 units && leb mark 1

-- "a fund or contribution to 5×10^8; expected units to 1,000, and 0 for a pool the case lacks"
unfoldable pub member_ok : ℕ → ℕ → List ℕ → Bool
member_ok pools contribution expected =
    leb contribution 500_000_000 && all (λ n. leb n 1000) (take pools expected) && all (λ n. eqb n 0) (drop pools expected)

-- "bid units 1 to 1,000; .. prices .. −10^6 to 10^6"
unfoldable pub bid_ok : ℕ → ℕ → Bool
bid_ok units price = between 1 1000 units && price_ok price

-- "a payment 1 to 10^9"
unfoldable pub payment_ok : ℕ → Bool
payment_ok amount = between 1 1_000_000_000 amount

-- ---- the other tests

-- "3. The pool isn't in the case (its number isn't below HEAD's pools)"
unfoldable pub not_in_case : Head → ℕ → Bool
not_in_case h pool = leb h.pools pool

-- "4. The member isn't in the set"
unfoldable pub not_in_set : Head → ℕ → Bool
not_in_set h m = not (in_set h m)

-- "8. .. no open unit in the pool"
unfoldable pub none_open : List Entry → ℕ → Bool
none_open roll pool = eqb (open_units roll pool) 0

-- "9. ALLOCATE names a pool with mark 1."
unfoldable pub marked : List Pool → ℕ → Bool
marked pools pool = eqb (get_or pools pool no_pool).mark 1

-- "10. .. a pool or member not given"
unfoldable pub not_given : Case → Bool
not_given c =
    ltb (length c.pools) c.head.pools || any (λ m. not (member_at c.members m).given) (member_list c.head)

-- "15. FINISH finds a member who owes."
unfoldable pub someone_owes : Case → Bool
someone_owes c = any (λ m. ltb 0 (owes c.members m)) (member_list c.head)

-- "16. MISS finds no unit allocated or moved to the member."
unfoldable pub none_passed : List Entry → ℕ → Bool
none_passed roll m = not (any (λ e. passed_to m e.state) roll)

-- document 02, C-12: "17, last of all, where hedge loss + other loss − the prices of all units so sold, this pool's included, passes margin and
-- defaulter's fund together". Each price is held 1,000,000 too high; both sides are added up, so nothing is cut off
unfoldable pub sale_too_dear : Case → ℕ → ℕ → ℕ → Bool
sale_too_dear c pool m price =
    let ps = agreed_prices c.bids (sold pool m price c.roll) in
    ltb (c.head.margin + c.head.fund + sum ps) (c.head.hedge_loss + c.head.other_loss + zero_price * length ps)

-- document 02, C-14: "18, after the member check, where no standing bid of that member in the open round has the number"
unfoldable pub none_stands : Case → ℕ → ℕ → Bool
none_stands c m n = let b = get_or c.bids n no_bid in not (in_round (round_of c.stage) b && eqb b.member m)

-- ---- the lists

-- the tests on a call
unfoldable pub tests : State → Case → Call → List Test
tests s c (HEAD h) =
    (2, not (no_case s))
    ∷ (5, not (head_ok h))
    ∷ []
tests s c (POOL pool units mark) =
    (2, not (is_s s))
    ∷ (3, not_in_case c.head pool || not (eqb pool (length c.pools)))
    ∷ (5, not (pool_ok units mark))
    ∷ []
tests s c (MEMBER m contribution expected) =
    (2, not (is_s s))
    ∷ (4, not_in_set c.head m || (member_at c.members m).given)
    ∷ (5, not (member_ok c.head.pools contribution expected))
    ∷ []
tests s c (ROUND reserves) =
    (1, not (no_case s) && not (eqb (length reserves) c.head.pools))
    ∷ (2, not (is_s s || is_a1 s))
    ∷ (5, not (all price_ok reserves))
    ∷ (8, is_a s && not (any_open c.roll))
    ∷ (10, not_given c)
    ∷ []
tests s c (BID pool m units price) =
    (2, not (is_b s))
    ∷ (3, not_in_case c.head pool)
    ∷ (4, not_in_set c.head m)
    ∷ (5, not (bid_ok units price))
    ∷ (6, ltb units c.head.least_bid)
    ∷ (7, leb 256 (length c.bids))
    ∷ (8, none_open c.roll pool)
    ∷ []
tests s c CLOSE = (2, not (is_b s)) ∷ []
tests s c (ALLOCATE pool price) =
    (2, not (is_a s))
    ∷ (3, not_in_case c.head pool)
    ∷ (5, not (price_ok price))
    ∷ (8, none_open c.roll pool)
    ∷ (9, marked c.pools pool)
    ∷ (10, eqb (total_shortfall c pool) 0)
    ∷ []
tests s c (TEAR pool price) =
    (2, not (is_a s))
    ∷ (3, not_in_case c.head pool)
    ∷ (5, not (price_ok price))
    ∷ (8, none_open c.roll pool)
    ∷ []
tests s c CALL =
    (2, not (is_a s))
    ∷ (11, any_open c.roll)
    ∷ (12, leb (requirement c) (prefunded c))
    ∷ []
tests s c (PAY m amount) =
    (2, not (is_c s))
    ∷ (4, not_in_set c.head m)
    ∷ (5, not (payment_ok amount))
    ∷ (14, ltb (owes c.members m) amount)
    ∷ []
tests s c (MOVE m) =
    (2, not (is_c s))
    ∷ (4, not_in_set c.head m)
    ∷ (14, eqb (owes c.members m) 0)
    ∷ []
tests s c (MISS m price) =
    (2, not (is_a s || is_c s))
    ∷ (4, not_in_set c.head m)
    ∷ (5, not (price_ok price))
    ∷ (16, none_passed c.roll m)
    ∷ []
tests s c FINISH =
    (2, not (is_a s || is_c s))
    ∷ (11, any_open c.roll)
    ∷ (13, is_a s && ltb (prefunded c) (requirement c))
    ∷ (15, someone_owes c)
    ∷ []
tests s c (SALE pool m price) =
    (2, not (is_s s))
    ∷ (3, not_in_case c.head pool)
    ∷ (4, not_in_set c.head m)
    ∷ (5, not (price_ok price))
    ∷ (8, none_open c.roll pool)
    ∷ (10, not_given c)
    ∷ (17, sale_too_dear c pool m price)
    ∷ []
tests s c (WITHDRAW m n) =
    (2, not (is_b s))
    ∷ (4, not_in_set c.head m)
    ∷ (18, none_stands c m n)
    ∷ []

-- the answer to a call: the first number that applies; "0 is accepted"
unfoldable pub refusal : State → Call → ℕ
refusal s call = first_of (tests s (the_case s) call)
