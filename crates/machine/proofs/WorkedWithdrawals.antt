-- Worked lists of calls for document 02, C-14: bids taken back before the cut-off. Above each list stands the sentence that decides it, beside each call what
-- follows from it; every figure is worked out by hand. Assumes nothing.
use mathlib.Core.Path.{◌≡◌, refl}
use mathlib.Core.List.{List, [], ◌∷◌, ◌++◌}
use Prim.Native.Nat.{ℕ, ◌-◌}
use lib.IntN.{ℤ, neg_ℤ, pos}
use lib.ListN.{replicate}
use Rattle.auction.specs.Price.{zero_price}
use Rattle.machine.specs.Run.{sum_of_prices}
use Rattle.machine.specs.Computing.{computing}
use Rattle.machine.proofs.Examples.{case_after, answers_after, Example, ◌says◌, AllHold}
use Rattle.machine.proofs.CallBytes.{−◌, head, pool, member, round, bid, close, allocate, tear, call, pay, move, finish, sale, withdraw}
use Rattle.machine.proofs.Worked.{Worked, AllShow, held, p, l, m}

-- ---- "CLOSE allots as though a withdrawn bid had not been sent"

-- 4 units, members 0 and 1, who expect 2 each
abbrev four : List (List ℕ)
four = head 1 1 3 0 0 0 0 0 ∷ pool 0 4 0 ∷ member 0 100 2 0 0 0 ∷ member 1 100 2 0 0 0 ∷ []

-- The best bid of all is withdrawn.
abbrev pub best_withdrawn : Worked
best_withdrawn =
    record {
      calls =
          four ++
          -- no round is open: declined by 2
          (withdraw 0 0
          ∷ round ((− 50) ∷ [])
          -- bids 0, 1 and 2
          ∷ bid 0 0 4 (− 10)
          ∷ bid 0 1 3 (− 20)
          ∷ bid 0 1 2 (− 30)
          -- member 2 is not in the set, and bid 0 is not member 1's: declined by 4 and 18
          ∷ withdraw 2 0
          ∷ withdraw 1 0
          ∷ withdraw 0 0
          -- it stands no longer, and there is no bid 3: declined by 18
          ∷ withdraw 0 0
          ∷ withdraw 1 3
          -- bid 1 wins 3, and bid 2 the 1 that is left
          ∷ close
          -- declined by 2
          ∷ withdraw 1 1
          ∷ finish
          ∷ []);
      -- loss 3 × 20 + 30 = 90, all from contributions. Member 0 won nothing and is short of 2: the junior, who bears all
      shows =
          (0 ∷ 0 ∷ 0 ∷ 0 ∷ 2 ∷ 0 ∷ 0 ∷ 0 ∷ 0 ∷ 4 ∷ 18 ∷ 0 ∷ 18 ∷ 18 ∷ 0 ∷ 2 ∷ 0 ∷ [])
          ∷ (p ∷ 0 ∷ 0 ∷ 4 ∷ 0 ∷ 0 ∷ 0 ∷ [])
          ∷ (l ∷ 90 ∷ 0 ∷ 0 ∷ 0 ∷ 90 ∷ 0 ∷ 0 ∷ 0 ∷ [])
          ∷ (m ∷ 0 ∷ 2 ∷ 90 ∷ 0 ∷ [])
          ∷ (m ∷ 1 ∷ 1 ∷ 0 ∷ 0 ∷ [])
          ∷ [];
    }

-- The same, where that bid was not sent: the same lines.
abbrev pub never_sent : Worked
never_sent =
    record {
      calls = four ++ (round ((− 50) ∷ []) ∷ bid 0 1 3 (− 20) ∷ bid 0 1 2 (− 30) ∷ close ∷ finish ∷ []);
      shows =
          (0 ∷ 0 ∷ 0 ∷ 0 ∷ 0 ∷ 0 ∷ 0 ∷ 0 ∷ 0 ∷ [])
          ∷ (p ∷ 0 ∷ 0 ∷ 4 ∷ 0 ∷ 0 ∷ 0 ∷ [])
          ∷ (l ∷ 90 ∷ 0 ∷ 0 ∷ 0 ∷ 90 ∷ 0 ∷ 0 ∷ 0 ∷ [])
          ∷ (m ∷ 0 ∷ 2 ∷ 90 ∷ 0 ∷ [])
          ∷ (m ∷ 1 ∷ 1 ∷ 0 ∷ 0 ∷ [])
          ∷ [];
    }

-- The balance is split among the bids at one price, without the one withdrawn.
abbrev pub balance : Worked
balance =
    record {
      calls =
          -- 5 units, members 0, 1 and 2, margin 100
          head 1 1 7 0 0 100 0 0
          ∷ pool 0 5 0
          ∷ member 0 0 0 0 0 0
          ∷ member 1 0 0 0 0 0
          ∷ member 2 0 0 0 0 0
          ∷ round ((− 30) ∷ [])
          ∷ bid 0 0 4 (− 5)
          ∷ bid 0 1 4 (− 5)
          ∷ bid 0 2 4 (− 5)
          ∷ withdraw 1 1
          -- 5 by 4, 4: 2 each, equal weights: the odd unit to the earlier, so 3 and 2 (by 4, 4, 4 it were 2, 2 and 1)
          ∷ close
          ∷ finish
          ∷ [];
      -- loss 5 × 5. ΔP 25 for members 0 and 2, excess 3 and 2; member 1 has neither
      shows =
          (0 ∷ 0 ∷ 0 ∷ 0 ∷ 0 ∷ 0 ∷ 0 ∷ 0 ∷ 0 ∷ 0 ∷ 0 ∷ 0 ∷ [])
          ∷ (p ∷ 0 ∷ 0 ∷ 5 ∷ 0 ∷ 0 ∷ 0 ∷ [])
          ∷ (l ∷ 25 ∷ 25 ∷ 0 ∷ 0 ∷ 0 ∷ 0 ∷ 0 ∷ 0 ∷ [])
          ∷ (m ∷ 0 ∷ 1 ∷ 0 ∷ 0 ∷ [])
          ∷ (m ∷ 1 ∷ 3 ∷ 0 ∷ 0 ∷ [])
          ∷ (m ∷ 2 ∷ 2 ∷ 0 ∷ 0 ∷ [])
          ∷ [];
    }

-- 5 units, members 0 and 1, margin 100; bids 0 and 1, alike
abbrev alike : List (List ℕ)
alike =
    head 1 1 3 0 0 100 0 0
    ∷ pool 0 5 0
    ∷ member 0 0 0 0 0 0
    ∷ member 1 0 0 0 0 0
    ∷ round ((− 30) ∷ [])
    ∷ bid 0 0 4 (− 5)
    ∷ bid 0 1 4 (− 5)
    ∷ []

-- The odd unit goes to bid 0.
abbrev pub odd_unit : Worked
odd_unit =
    record {
      calls = alike ++ (close ∷ finish ∷ []);
      -- 3 and 2 won
      shows =
          (0 ∷ 0 ∷ 0 ∷ 0 ∷ 0 ∷ 0 ∷ 0 ∷ 0 ∷ 0 ∷ [])
          ∷ (p ∷ 0 ∷ 0 ∷ 5 ∷ 0 ∷ 0 ∷ 0 ∷ [])
          ∷ (l ∷ 25 ∷ 25 ∷ 0 ∷ 0 ∷ 0 ∷ 0 ∷ 0 ∷ 0 ∷ [])
          ∷ (m ∷ 0 ∷ 1 ∷ 0 ∷ 0 ∷ [])
          ∷ (m ∷ 1 ∷ 2 ∷ 0 ∷ 0 ∷ [])
          ∷ [];
    }

-- Bid 0 is withdrawn and sent again: it is bid 2, and the odd unit goes to bid 1.
abbrev pub sent_again : Worked
sent_again =
    record {
      calls = alike ++ (withdraw 0 0 ∷ bid 0 0 4 (− 5) ∷ close ∷ finish ∷ []);
      -- 2 and 3 won
      shows =
          (0 ∷ 0 ∷ 0 ∷ 0 ∷ 0 ∷ 0 ∷ 0 ∷ 0 ∷ 0 ∷ 0 ∷ 0 ∷ [])
          ∷ (p ∷ 0 ∷ 0 ∷ 5 ∷ 0 ∷ 0 ∷ 0 ∷ [])
          ∷ (l ∷ 25 ∷ 25 ∷ 0 ∷ 0 ∷ 0 ∷ 0 ∷ 0 ∷ 0 ∷ [])
          ∷ (m ∷ 0 ∷ 2 ∷ 0 ∷ 0 ∷ [])
          ∷ (m ∷ 1 ∷ 1 ∷ 0 ∷ 0 ∷ [])
          ∷ [];
    }

-- The only bid is withdrawn: CLOSE sells nothing, and its member is short of all that it expects.
abbrev pub only_bid : Worked
only_bid =
    record {
      calls =
          -- 3 units, members 0 and 1, margin 100
          head 1 1 3 0 0 100 0 0
          ∷ pool 0 3 0
          ∷ member 0 0 3 0 0 0
          ∷ member 1 0 0 0 0 0
          ∷ round ((− 30) ∷ [])
          ∷ bid 0 0 3 (− 10)
          ∷ withdraw 0 0
          ∷ close
          -- declined by 11: 3 units are open
          ∷ call
          -- the shortfall is 3: all to member 0
          ∷ allocate 0 (− 12)
          ∷ finish
          ∷ [];
      -- loss 3 × 12. Member 0 won none of the 3 that it expects, member 1 expects none
      shows =
          (0 ∷ 0 ∷ 0 ∷ 0 ∷ 0 ∷ 0 ∷ 0 ∷ 0 ∷ 11 ∷ 0 ∷ 0 ∷ [])
          ∷ (p ∷ 0 ∷ 0 ∷ 0 ∷ 3 ∷ 0 ∷ 0 ∷ [])
          ∷ (l ∷ 36 ∷ 36 ∷ 0 ∷ 0 ∷ 0 ∷ 0 ∷ 0 ∷ 0 ∷ [])
          ∷ (m ∷ 0 ∷ 2 ∷ 0 ∷ 0 ∷ [])
          ∷ (m ∷ 1 ∷ 1 ∷ 0 ∷ 0 ∷ [])
          ∷ [];
    }

-- A bid of one pool is withdrawn: the other pool's bid, of the same member at the same price, stands.
abbrev pub one_pool : Worked
one_pool =
    record {
      calls =
          -- two pools of 3 units, members 0 and 1
          head 2 1 3 0 0 100 0 0
          ∷ pool 0 3 0
          ∷ pool 1 3 0
          ∷ member 0 0 0 0 0 0
          ∷ member 1 0 0 0 0 0
          ∷ round ((− 30) ∷ (− 30) ∷ [])
          ∷ bid 0 0 3 (− 5)
          ∷ bid 1 0 3 (− 5)
          ∷ bid 1 1 2 (− 6)
          ∷ withdraw 0 1
          -- 3 won in pool 0, 2 in pool 1
          ∷ close
          ∷ [];
      shows =
          (0 ∷ 0 ∷ 0 ∷ 0 ∷ 0 ∷ 0 ∷ 0 ∷ 0 ∷ 0 ∷ 0 ∷ 0 ∷ [])
          ∷ (p ∷ 0 ∷ 0 ∷ 3 ∷ 0 ∷ 0 ∷ 0 ∷ [])
          ∷ (p ∷ 1 ∷ 1 ∷ 2 ∷ 0 ∷ 0 ∷ 0 ∷ [])
          ∷ [];
    }

-- ---- "the bid keeps its number"

-- A bid that is declined has no number; one that is withdrawn keeps its own, and no other's moves.
abbrev pub same_numbers : Worked
same_numbers =
    record {
      calls =
          -- 6 units, least bid 2, members 0 and 1
          head 1 2 3 0 0 100 0 0
          ∷ pool 0 6 0
          ∷ member 0 0 0 0 0 0
          ∷ member 1 0 0 0 0 0
          ∷ round ((− 30) ∷ [])
          -- declined by 6
          ∷ bid 0 0 1 0
          -- bids 0, 1 and 2
          ∷ bid 0 0 2 (− 1)
          ∷ bid 0 1 2 (− 2)
          ∷ bid 0 0 2 (− 3)
          ∷ withdraw 0 0
          -- bid 1 is member 1's, and bid 0 was member 0's: declined by 18
          ∷ withdraw 0 1
          ∷ withdraw 1 0
          ∷ withdraw 1 1
          -- bid 3
          ∷ bid 0 1 2 (− 4)
          -- bid 2 is member 0's: declined by 18
          ∷ withdraw 1 2
          -- bids 2 and 3 win 2 each
          ∷ close
          ∷ [];
      shows =
          (0 ∷ 0 ∷ 0 ∷ 0 ∷ 0 ∷ 6 ∷ 0 ∷ 0 ∷ 0 ∷ 0 ∷ 18 ∷ 18 ∷ 0 ∷ 0 ∷ 18 ∷ 0 ∷ [])
          ∷ (p ∷ 0 ∷ 2 ∷ 4 ∷ 0 ∷ 0 ∷ 0 ∷ [])
          ∷ [];
    }

-- The sold units are those of bid 1, by its own number, when MOVE reads their price.
abbrev pub moved : Worked
moved =
    record {
      calls =
          -- 2 units, members 0 and 1
          head 1 1 3 0 0 0 0 0
          ∷ pool 0 2 0
          ∷ member 0 10 0 0 0 0
          ∷ member 1 10 0 0 0 0
          ∷ round ((− 30) ∷ [])
          ∷ bid 0 0 2 (− 1)
          ∷ bid 0 1 2 (− 20)
          ∷ withdraw 0 0
          -- 2 at −20
          ∷ close
          -- requirement 40, prefunded 20: 10 each
          ∷ call
          -- one unit, which saves 20
          ∷ move 0
          ∷ pay 1 10
          ∷ finish
          ∷ [];
      -- loss 20, all from contributions, which are 20
      shows =
          (0 ∷ 0 ∷ 0 ∷ 0 ∷ 0 ∷ 0 ∷ 0 ∷ 0 ∷ 0 ∷ 0 ∷ 0 ∷ 0 ∷ 0 ∷ [])
          ∷ (p ∷ 0 ∷ 0 ∷ 1 ∷ 0 ∷ 1 ∷ 0 ∷ [])
          ∷ (l ∷ 20 ∷ 0 ∷ 0 ∷ 0 ∷ 20 ∷ 0 ∷ 0 ∷ 0 ∷ [])
          ∷ (m ∷ 0 ∷ 2 ∷ 10 ∷ 0 ∷ [])
          ∷ (m ∷ 1 ∷ 1 ∷ 10 ∷ 0 ∷ [])
          ∷ [];
    }

-- ---- ".. no standing bid of that member in the open round"

-- A bid of round 1 is not withdrawn in round 2, whether it won or not.
abbrev pub old_round : Worked
old_round =
    record {
      calls =
          -- 4 units, members 0 and 1, margin 100
          head 1 1 3 0 0 100 0 0
          ∷ pool 0 4 0
          ∷ member 0 0 0 0 0 0
          ∷ member 1 0 0 0 0 0
          ∷ round ((− 30) ∷ [])
          ∷ bid 0 0 2 (− 5)
          -- below the reserve
          ∷ bid 0 0 3 (− 31)
          -- 2 won
          ∷ close
          ∷ round ((− 40) ∷ [])
          -- declined by 18
          ∷ withdraw 0 0
          ∷ withdraw 0 1
          ∷ bid 0 0 2 (− 6)
          ∷ withdraw 0 2
          ∷ bid 0 1 2 (− 35)
          -- 2 won
          ∷ close
          ∷ finish
          ∷ [];
      -- loss 2 × 5 + 2 × 35 = 80. Worst reserve −40: ΔP 35 and 5, excess 2 each
      shows =
          (0 ∷ 0 ∷ 0 ∷ 0 ∷ 0 ∷ 0 ∷ 0 ∷ 0 ∷ 0 ∷ 18 ∷ 18 ∷ 0 ∷ 0 ∷ 0 ∷ 0 ∷ 0 ∷ [])
          ∷ (p ∷ 0 ∷ 0 ∷ 4 ∷ 0 ∷ 0 ∷ 0 ∷ [])
          ∷ (l ∷ 80 ∷ 80 ∷ 0 ∷ 0 ∷ 0 ∷ 0 ∷ 0 ∷ 0 ∷ [])
          ∷ (m ∷ 0 ∷ 1 ∷ 0 ∷ 0 ∷ [])
          ∷ (m ∷ 1 ∷ 2 ∷ 0 ∷ 0 ∷ [])
          ∷ [];
    }

-- A bid withdrawn in round 1 does not stand in round 2.
abbrev pub not_in_round_two : Worked
not_in_round_two =
    record {
      calls =
          -- 2 units, member 0
          head 1 1 1 0 0 100 0 0
          ∷ pool 0 2 0
          ∷ member 0 0 0 0 0 0
          ∷ round (0 ∷ [])
          ∷ bid 0 0 2 0
          ∷ withdraw 0 0
          ∷ close
          ∷ round (0 ∷ [])
          -- declined by 18
          ∷ withdraw 0 0
          ∷ close
          -- declined by 11
          ∷ finish
          ∷ [];
      shows = (0 ∷ 0 ∷ 0 ∷ 0 ∷ 0 ∷ 0 ∷ 0 ∷ 0 ∷ 18 ∷ 0 ∷ 11 ∷ []) ∷ (p ∷ 0 ∷ 2 ∷ 0 ∷ 0 ∷ 0 ∷ 0 ∷ []) ∷ [];
    }

-- ---- the theorem

abbrev pub withdrawals : List Worked
withdrawals =
    best_withdrawn
    ∷ never_sent
    ∷ balance
    ∷ odd_unit
    ∷ sent_again
    ∷ only_bid
    ∷ one_pool
    ∷ same_numbers
    ∷ moved
    ∷ old_round
    ∷ not_in_round_two
    ∷ []

pub withdrawals-hold : AllShow withdrawals
unfolding computing
withdrawals-hold = (refl, (refl, (refl, (refl, (refl, (refl, (refl, (refl, (refl, (refl, (refl, tt)))))))))))

-- what members hold, and at which price
pub holdings-hold :
    AllHold
    -- member 0 holds nothing, member 1 has 3 at −20 and 1 at −30
    ((held best_withdrawn 0 0 (zero_price - 10) ∷ held best_withdrawn 1 0 (zero_price - 20) ∷ held best_withdrawn 1 0 (zero_price - 30) ∷ [] says 0 ∷ 3 ∷ 1 ∷ [])
    ∷ (held balance 0 0 (zero_price - 5) ∷ held balance 1 0 (zero_price - 5) ∷ held balance 2 0 (zero_price - 5) ∷ [] says 3 ∷ 0 ∷ 2 ∷ [])
    -- the odd unit
    ∷ (held odd_unit 0 0 (zero_price - 5) ∷ held odd_unit 1 0 (zero_price - 5) ∷ [] says 3 ∷ 2 ∷ [])
    ∷ (held sent_again 0 0 (zero_price - 5) ∷ held sent_again 1 0 (zero_price - 5) ∷ [] says 2 ∷ 3 ∷ [])
    ∷ (held one_pool 0 0 (zero_price - 5) ∷ held one_pool 0 1 (zero_price - 5) ∷ held one_pool 1 1 (zero_price - 6) ∷ [] says 3 ∷ 0 ∷ 2 ∷ [])
    -- bids 2 and 3, and neither 0 nor 1
    ∷ (held same_numbers 0 0 (zero_price - 3) ∷ held same_numbers 1 0 (zero_price - 4) ∷ held same_numbers 0 0 (zero_price - 1) ∷ held same_numbers 1 0 (zero_price - 2) ∷ []
    says 2 ∷ 2 ∷ 0 ∷ 0 ∷ [])
    -- one unit moved to member 0, one left to member 1
    ∷ (held moved 0 0 zero_price ∷ held moved 1 0 (zero_price - 20) ∷ held moved 0 0 (zero_price - 1) ∷ [] says 1 ∷ 1 ∷ 0 ∷ [])
    ∷ [])
unfolding computing
holdings-hold = (refl, (refl, (refl, (refl, (refl, (refl, (refl, tt)))))))

-- "the sum of prices of the units not open", in cents
abbrev prices_after : Worked → ℤ
prices_after x = sum_of_prices (case_after x.calls)

pub prices-hold :
    prices_after best_withdrawn ∷ prices_after one_pool ∷ prices_after same_numbers ∷ prices_after moved ∷ prices_after old_round ∷ prices_after not_in_round_two ∷ []
    -- −60 − 30, −15 − 12, −6 − 8, −20 with one unit moved, −10 − 70, none
    ≡ neg_ℤ (pos 90) ∷ neg_ℤ (pos 27) ∷ neg_ℤ (pos 14) ∷ neg_ℤ (pos 20) ∷ neg_ℤ (pos 80) ∷ pos 0 ∷ []
unfolding computing
prices-hold = refl

-- ---- the first number that applies

-- 2 units, members 0 and 1, margin 9
abbrev given : List (List ℕ)
given = head 1 1 3 0 0 9 0 0 ∷ pool 0 2 0 ∷ member 0 0 0 0 0 0 ∷ member 1 0 0 0 0 0 ∷ []

-- A1 without a round
abbrev sold_out : List (List ℕ)
sold_out = given ++ (sale 0 0 0 ∷ [])

-- bid 0 is member 0's, bid 1, which is not valid, member 1's
abbrev bidding : List (List ℕ)
bidding = given ++ (round ((− 5) ∷ []) ∷ bid 0 0 1 0 ∷ bid 0 1 1 (− 6) ∷ [])

-- one unit is sold
abbrev after : List (List ℕ)
after = bidding ++ (close ∷ [])

abbrev second_round : List (List ℕ)
second_round = after ++ (round ((− 5) ∷ []) ∷ [])

abbrev after_second : List (List ℕ)
after_second = second_round ++ (close ∷ [])

-- requirement 20, prefunded 9; no member has contributed, so that nobody owes
abbrev calls_out : List (List ℕ)
calls_out = after_second ++ (tear 0 (− 20) ∷ call ∷ [])

abbrev finished : List (List ℕ)
finished = calls_out ++ (finish ∷ [])

abbrev one_withdrawn : List (List ℕ)
one_withdrawn = bidding ++ (withdraw 0 0 ∷ [])

-- with nothing wrong in B, and wrong in member and number
abbrev both : List (List ℕ)
both = withdraw 0 0 ∷ withdraw 5 9 ∷ []

abbrev pub orders : List Example
orders =
    -- "WITHDRAW (tag 15: member 1, bid number 2)": a byte too few, one too many and a tail behind the field are declined by 1, with no case and in B
    (answers_after []
    ((15 ∷ 0 ∷ 3 ∷ 0 ∷ 0 ∷ 0 ∷ []) ∷ (15 ∷ 0 ∷ 2 ∷ 0 ∷ 0 ∷ []) ∷ (15 ∷ 0 ∷ 4 ∷ 0 ∷ 0 ∷ 0 ∷ 0 ∷ []) ∷ (15 ∷ 0 ∷ 3 ∷ 0 ∷ 0 ∷ 0 ∷ 0 ∷ []) ∷ [])
    says 2 ∷ 1 ∷ 1 ∷ 1 ∷ [])
    ∷ (answers_after bidding
    ((15 ∷ 0 ∷ 3 ∷ 0 ∷ 0 ∷ 0 ∷ []) ∷ (15 ∷ 0 ∷ 2 ∷ 0 ∷ 0 ∷ []) ∷ (15 ∷ 0 ∷ 4 ∷ 0 ∷ 0 ∷ 0 ∷ 0 ∷ []) ∷ (15 ∷ 0 ∷ 3 ∷ 0 ∷ 0 ∷ 0 ∷ 0 ∷ []) ∷ [])
    says 0 ∷ 1 ∷ 1 ∷ 1 ∷ [])
    -- "allowed while a round is open": no case, S, A1 without a round, A1, A2, C, F
    ∷ (answers_after [] both says 2 ∷ 2 ∷ [])
    ∷ (answers_after given both says 2 ∷ 2 ∷ [])
    ∷ (answers_after sold_out both says 2 ∷ 2 ∷ [])
    ∷ (answers_after after both says 2 ∷ 2 ∷ [])
    ∷ (answers_after after_second both says 2 ∷ 2 ∷ [])
    ∷ (answers_after calls_out both says 2 ∷ 2 ∷ [])
    ∷ (answers_after finished both says 2 ∷ 2 ∷ [])
    -- B1, and B2, where bid 0 is of an old round
    ∷ (answers_after bidding both says 0 ∷ 4 ∷ [])
    ∷ (answers_after second_round both says 18 ∷ 4 ∷ [])
    -- "18, after the member check": a member outside the set, a byte that is no bit of it, whether the bid stands or was never sent
    ∷ (answers_after bidding (withdraw 2 0 ∷ withdraw 31 2 ∷ withdraw 32 0 ∷ withdraw 255 65_535 ∷ []) says 4 ∷ 4 ∷ 4 ∷ 4 ∷ [])
    -- each member's own bid and the other's; numbers not given, the first of them 2, and some that are 0 or 1 in the last byte
    ∷ (answers_after bidding (withdraw 0 0 ∷ withdraw 0 1 ∷ withdraw 1 0 ∷ withdraw 1 1 ∷ []) says 0 ∷ 18 ∷ 18 ∷ 0 ∷ [])
    ∷ (answers_after bidding (withdraw 0 2 ∷ withdraw 0 255 ∷ withdraw 0 256 ∷ withdraw 1 257 ∷ withdraw 0 65_280 ∷ withdraw 0 65_535 ∷ [])
    says 18 ∷ 18 ∷ 18 ∷ 18 ∷ 18 ∷ 18 ∷ [])
    -- bid 0 is withdrawn: again, by the other member, by one outside the set; bid 1 stands
    ∷ (answers_after one_withdrawn (withdraw 0 0 ∷ withdraw 1 0 ∷ withdraw 2 0 ∷ withdraw 1 1 ∷ []) says 18 ∷ 18 ∷ 4 ∷ 0 ∷ [])
    -- sent again it is bid 2
    ∷ (answers_after (one_withdrawn ++ (bid 0 0 1 0 ∷ [])) (withdraw 0 0 ∷ withdraw 0 1 ∷ withdraw 0 2 ∷ withdraw 0 3 ∷ []) says 18 ∷ 18 ∷ 0 ∷ 18 ∷ [])
    ∷ []

pub orders-hold : AllHold orders
unfolding computing
orders-hold =
    (refl, (refl, (refl, (refl, (refl, (refl, (refl, (refl, (refl, (refl, (refl, (refl, (refl, (refl, (refl, (refl, tt))))))))))))))))

-- "and still counts towards 256": with bids 0 to 255 sent and two of them withdrawn a BID is declined by 7; bid 254 stands, and there is no bid 256
abbrev pub full : List Example
full =
    (answers_after (bidding ++ replicate 254 (bid 0 0 1 0) ++ (withdraw 0 0 ∷ withdraw 0 255 ∷ []))
    (bid 0 0 1 0 ∷ withdraw 0 254 ∷ withdraw 0 255 ∷ withdraw 0 256 ∷ [])
    says 7 ∷ 0 ∷ 18 ∷ 18 ∷ [])
    ∷ []

pub full-holds : AllHold full
unfolding computing
full-holds = (refl, tt)
