-- Worked answers at the ends of every range of document 01, each side of each end: "5. A number is out of range." Each group of calls is asked after
-- one list of calls, each call by itself, so that one number of it decides. Assumes nothing.
use mathlib.Core.Path.{refl}
use mathlib.Core.List.{List, [], ◌∷◌, ◌++◌}
use Prim.Native.Nat.{ℕ, ◌+◌, ◌-◌, ◌^◌}
use lib.ListN.{replicate}
use Rattle.machine.specs.Computing.{computing}
use Rattle.machine.proofs.Examples.{answers_after, Example, ◌says◌, AllHold}
use Rattle.machine.proofs.CallBytes.{−◌, head, pool, member, round, bid, close, allocate, tear, call, pay, move, miss}

-- ---- HEAD, with no case yet

abbrev pub head_ends : List Example
head_ends =
    -- "pools 1 to 4"
    (answers_after [] (head 0 1 1 0 0 0 0 0 ∷ head 1 1 1 0 0 0 0 0 ∷ head 4 1 1 0 0 0 0 0 ∷ head 5 1 1 0 0 0 0 0 ∷ []) says 5 ∷ 0 ∷ 0 ∷ 5 ∷ [])
    -- "least bid .. 1 to 1,000"
    ∷ (answers_after [] (head 1 0 1 0 0 0 0 0 ∷ head 1 1 1 0 0 0 0 0 ∷ head 1 1000 1 0 0 0 0 0 ∷ head 1 1001 1 0 0 0 0 0 ∷ []) says 5 ∷ 0 ∷ 0 ∷ 5 ∷ [])
    -- "member set not empty": none, member 0 alone, member 31 alone, all 32
    ∷ (answers_after [] (head 1 1 0 0 0 0 0 0 ∷ head 1 1 1 0 0 0 0 0 ∷ head 1 1 (2 ^ 31) 0 0 0 0 0 ∷ head 1 1 (2 ^ 32 - 1) 0 0 0 0 0 ∷ []) says 5 ∷ 0 ∷ 0 ∷ 0 ∷ [])
    -- "hedge and other loss to 2×10^9", each
    ∷ (answers_after [] (head 1 1 1 2_000_000_000 0 0 0 0 ∷ head 1 1 1 2_000_000_001 0 0 0 0 ∷ []) says 0 ∷ 5 ∷ [])
    ∷ (answers_after [] (head 1 1 1 0 2_000_000_000 0 0 0 ∷ head 1 1 1 0 2_000_000_001 0 0 0 ∷ []) says 0 ∷ 5 ∷ [])
    -- "margin and house money to 4×10^9"
    ∷ (answers_after [] (head 1 1 1 0 0 4_000_000_000 0 0 ∷ head 1 1 1 0 0 4_000_000_001 0 0 ∷ []) says 0 ∷ 5 ∷ [])
    ∷ (answers_after [] (head 1 1 1 0 0 0 0 4_000_000_000 ∷ head 1 1 1 0 0 0 0 4_000_000_001 ∷ []) says 0 ∷ 5 ∷ [])
    -- "a fund or contribution to 5×10^8": the defaulter's fund is a fund
    ∷ (answers_after [] (head 1 1 1 0 0 0 500_000_000 0 ∷ head 1 1 1 0 0 0 500_000_001 0 ∷ []) says 0 ∷ 5 ∷ [])
    -- no range is for two numbers together: both losses, and all at their highest
    ∷ (answers_after [] (head 1 1 1 2_000_000_000 1 0 0 0 ∷ head 4 1000 (2 ^ 32 - 1) 2_000_000_000 2_000_000_000 4_000_000_000 500_000_000 4_000_000_000 ∷ []) says 0 ∷ 0 ∷ [])
    ∷ []

pub head-ends-hold : AllHold head_ends
unfolding computing
head-ends-hold = (refl, (refl, (refl, (refl, (refl, (refl, (refl, (refl, (refl, tt)))))))))

-- ---- POOL and MEMBER, in S

-- two pools, members 0 and 31
abbrev begun : List (List ℕ)
begun = head 2 1 (2 ^ 31 + 1) 0 0 0 0 0 ∷ []

abbrev pub setup_ends : List Example
setup_ends =
    -- "pool units .. 1 to 1,000"
    (answers_after begun (pool 0 0 0 ∷ pool 0 1 0 ∷ pool 0 1000 0 ∷ pool 0 1001 0 ∷ []) says 5 ∷ 0 ∷ 0 ∷ 5 ∷ [])
    -- "mark 0 or 1"
    ∷ (answers_after begun (pool 0 1 0 ∷ pool 0 1 1 ∷ pool 0 1 2 ∷ []) says 0 ∷ 0 ∷ 5 ∷ [])
    -- "3. .. its number isn't below HEAD's pools, or POOL isn't the next in turn from 0"
    ∷ (answers_after begun (pool 0 1 0 ∷ pool 1 1 0 ∷ []) says 0 ∷ 3 ∷ [])
    ∷ (answers_after (begun ++ (pool 0 1 0 ∷ [])) (pool 0 1 0 ∷ pool 1 1 0 ∷ pool 2 1 0 ∷ []) says 3 ∷ 0 ∷ 3 ∷ [])
    ∷ (answers_after (begun ++ (pool 0 1 0 ∷ pool 1 1 0 ∷ [])) (pool 1 1 0 ∷ pool 2 1 0 ∷ []) says 3 ∷ 3 ∷ [])
    -- "4. The member isn't in the set": "bit i is member i", and the set has 32 bits
    ∷ (answers_after begun (member 0 0 0 0 0 0 ∷ member 1 0 0 0 0 0 ∷ member 30 0 0 0 0 0 ∷ member 31 0 0 0 0 0 ∷ member 32 0 0 0 0 0 ∷ member 255 0 0 0 0 0 ∷ []) says 0 ∷ 4 ∷ 4 ∷ 0 ∷ 4 ∷ 4 ∷ [])
    -- "a fund or contribution to 5×10^8"
    ∷ (answers_after begun (member 0 500_000_000 0 0 0 0 ∷ member 0 500_000_001 0 0 0 0 ∷ []) says 0 ∷ 5 ∷ [])
    -- "expected units to 1,000, and 0 for a pool the case lacks": pools 0 and 1 are in the case, 2 and 3 are not
    ∷ (answers_after begun (member 0 0 1000 0 0 0 ∷ member 0 0 1001 0 0 0 ∷ member 0 0 0 1000 0 0 ∷ member 0 0 0 1001 0 0 ∷ []) says 0 ∷ 5 ∷ 0 ∷ 5 ∷ [])
    ∷ (answers_after begun (member 0 0 0 0 1 0 ∷ member 0 0 0 0 0 1 ∷ member 0 0 1000 1000 0 0 ∷ []) says 5 ∷ 5 ∷ 0 ∷ [])
    -- the same with four pools
    ∷ (answers_after (head 4 1 1 0 0 0 0 0 ∷ []) (member 0 0 0 0 1000 1000 ∷ member 0 0 0 0 1001 0 ∷ member 0 0 0 0 0 1001 ∷ []) says 0 ∷ 5 ∷ 5 ∷ [])
    ∷ []

pub setup-ends-hold : AllHold setup_ends
unfolding computing
setup-ends-hold = (refl, (refl, (refl, (refl, (refl, (refl, (refl, (refl, (refl, (refl, tt))))))))))

-- ---- prices and reserves: "prices and reserves −10^6 to 10^6", of two's complement

-- a call at each side of both ends, and at the ends of 32 bits
abbrev at_ends : (ℕ → List ℕ) → List (List ℕ)
at_ends at = at (− 1_000_001) ∷ at (− 1_000_000) ∷ at 1_000_000 ∷ at 1_000_001 ∷ at (2 ^ 31 - 1) ∷ at (− (2 ^ 31)) ∷ []

abbrev in_range : List ℕ
in_range = 5 ∷ 0 ∷ 0 ∷ 5 ∷ 5 ∷ 5 ∷ []

-- two pools of 5 units, members 0 and 31 with a contribution of 8, which expect one unit of pool 0 each
abbrev ready : List (List ℕ)
ready = head 2 3 (2 ^ 31 + 1) 20 0 0 0 0 ∷ pool 0 5 0 ∷ pool 1 5 0 ∷ member 0 8 1 0 0 0 ∷ member 31 8 1 0 0 0 ∷ []

abbrev bidding : List (List ℕ)
bidding = ready ++ (round (0 ∷ 0 ∷ []) ∷ [])

abbrev closed : List (List ℕ)
closed = bidding ++ (close ∷ [])

-- one unit of pool 0 allocated to each member
abbrev allocated : List (List ℕ)
allocated = closed ++ (allocate 0 0 ∷ [])

-- requirement 20, prefunded 16: calls of 2 and 2
abbrev called : List (List ℕ)
called = allocated ++ (tear 0 0 ∷ tear 1 0 ∷ call ∷ [])

abbrev pub price_ends : List Example
price_ends =
    -- ROUND, the reserve of either pool
    (answers_after ready (at_ends (λ price. round (price ∷ 0 ∷ []))) says in_range)
    ∷ (answers_after ready (at_ends (λ price. round (0 ∷ price ∷ []))) says in_range)
    -- BID, ALLOCATE, TEAR, MISS in A and in C
    ∷ (answers_after bidding (at_ends (bid 0 0 3)) says in_range)
    ∷ (answers_after closed (at_ends (allocate 0)) says in_range)
    ∷ (answers_after closed (at_ends (tear 1)) says in_range)
    ∷ (answers_after allocated (at_ends (miss 31)) says in_range)
    ∷ (answers_after called (at_ends (miss 0)) says in_range)
    ∷ []

pub price-ends-hold : AllHold price_ends
unfolding computing
price-ends-hold = (refl, (refl, (refl, (refl, (refl, (refl, (refl, tt)))))))

-- ---- BID, ALLOCATE, TEAR, PAY, MOVE, MISS

-- a least bid of 1,000
abbrev highest_least : List (List ℕ)
highest_least = head 1 1000 1 0 0 0 0 0 ∷ pool 0 1 0 ∷ member 0 0 0 0 0 0 ∷ round (0 ∷ []) ∷ []

-- the calls that name a pool, and those that name a member
abbrev pools : (ℕ → List ℕ) → List (List ℕ)
pools of = of 0 ∷ of 1 ∷ of 2 ∷ of 255 ∷ []

abbrev members : (ℕ → List ℕ) → List (List ℕ)
members of = of 0 ∷ of 1 ∷ of 31 ∷ of 32 ∷ of 255 ∷ []

abbrev pub number_ends : List Example
number_ends =
    -- "bid units 1 to 1,000", then "6. BID is below the least bid", which is 3; a bid may pass the open units
    (answers_after bidding (bid 0 0 0 0 ∷ bid 0 0 1 0 ∷ bid 0 0 2 0 ∷ bid 0 0 3 0 ∷ bid 0 0 1000 0 ∷ bid 0 0 1001 0 ∷ []) says 5 ∷ 6 ∷ 6 ∷ 0 ∷ 0 ∷ 5 ∷ [])
    -- the highest least bid
    ∷ (answers_after highest_least (bid 0 0 999 0 ∷ bid 0 0 1000 0 ∷ []) says 6 ∷ 0 ∷ [])
    -- "3. The pool isn't in the case (its number isn't below HEAD's pools)"; in pool 1 ALLOCATE finds no shortfall
    ∷ (answers_after bidding (pools (λ n. bid n 0 3 0)) says 0 ∷ 0 ∷ 3 ∷ 3 ∷ [])
    ∷ (answers_after closed (pools (λ n. allocate n 0)) says 0 ∷ 10 ∷ 3 ∷ 3 ∷ [])
    ∷ (answers_after closed (pools (λ n. tear n 0)) says 0 ∷ 0 ∷ 3 ∷ 3 ∷ [])
    -- "4. The member isn't in the set": 32 isn't a number out of range
    ∷ (answers_after bidding (members (λ n. bid 0 n 3 0)) says 0 ∷ 4 ∷ 0 ∷ 4 ∷ 4 ∷ [])
    ∷ (answers_after allocated (members (λ n. miss n 0)) says 0 ∷ 4 ∷ 0 ∷ 4 ∷ 4 ∷ [])
    ∷ (answers_after called (members (λ n. pay n 1)) says 0 ∷ 4 ∷ 0 ∷ 4 ∷ 4 ∷ [])
    ∷ (answers_after called (members move) says 0 ∷ 4 ∷ 0 ∷ 4 ∷ 4 ∷ [])
    -- "a payment 1 to 10^9", then "14. PAY exceeds what the member owes", which is 2
    ∷ (answers_after called (pay 0 0 ∷ pay 0 1 ∷ pay 0 2 ∷ pay 0 3 ∷ pay 0 1_000_000_000 ∷ pay 0 1_000_000_001 ∷ []) says 5 ∷ 0 ∷ 0 ∷ 14 ∷ 14 ∷ 5 ∷ [])
    ∷ []

pub number-ends-hold : AllHold number_ends
unfolding computing
number-ends-hold = (refl, (refl, (refl, (refl, (refl, (refl, (refl, (refl, (refl, (refl, tt))))))))))

-- ---- "7. BID finds 256 bids kept."

-- "K9 bid 255 is kept, the next declined by 7."
abbrev pub bid_ends : List Example
bid_ends =
    (answers_after (bidding ++ replicate 255 (bid 0 0 3 0)) (bid 1 31 3 0 ∷ []) says 0 ∷ [])
    ∷ (answers_after (bidding ++ replicate 256 (bid 0 0 3 0)) (bid 1 31 3 0 ∷ []) says 7 ∷ [])
    ∷ []

pub bid-ends-hold : AllHold bid_ends
unfolding computing
bid-ends-hold = (refl, (refl, tt))
