-- Worked lists of calls for document 02, C-15: "From now on such a tie goes to the larger weight, and only then to the earlier in the list. This holds for
-- allotments, allocations, calls and charges alike." Above each list stands what is split in it, beside each call what follows from it; every figure is
-- worked out by hand, and each list has another result where a tie goes to the earlier. Assumes nothing.
use mathlib.Core.Path.{refl}
use mathlib.Core.List.{List, [], ◌∷◌}
use Prim.Native.Nat.{◌-◌}
use Rattle.auction.specs.Price.{zero_price}
use Rattle.machine.specs.Computing.{computing}
use Rattle.machine.proofs.Examples.{◌says◌, AllHold}
use Rattle.machine.proofs.CallBytes.{−◌, head, pool, member, round, bid, close, allocate, tear, call, pay, move, miss, finish, withdraw}
use Rattle.machine.proofs.Worked.{Worked, AllShow, held, p, l, m}

-- ---- CLOSE

-- The balance at the cut-off price: in pool 0 the later bid is the larger, in pool 1 the bids are equal.
abbrev pub later_and_larger : Worked
later_and_larger =
    record {
      calls =
          -- pools of 5 and 3 units, members 0, 1 and 2, margin 100
          head 2 1 7 0 0 100 0 0
          ∷ pool 0 5 0
          ∷ pool 1 3 0
          ∷ member 0 0 0 0 0 0
          ∷ member 1 0 0 0 0 0
          ∷ member 2 0 0 0 0 0
          ∷ round ((− 30) ∷ (− 30) ∷ [])
          ∷ bid 0 2 3 (− 1)
          ∷ bid 0 0 1 (− 5)
          ∷ bid 0 1 3 (− 5)
          ∷ bid 1 0 2 (− 5)
          ∷ bid 1 1 2 (− 5)
          -- pool 0: 3 won at −1, and 2 split by 1, 3. Floors 2 / 4 = 0 and 6 / 4 = 1, remainders 2 and 2: the odd unit to the bid of 3, so 0 and 2.
          -- Pool 1: 3 split by 2, 2. Floors 6 / 4 = 1 and 1, remainders 2 and 2, equal weights: the odd unit to the earlier, so 2 and 1
          ∷ close
          ∷ finish
          ∷ [];
      -- loss 3 × 1 + 5 × 5 = 28. None is expected, so ΔP × excess is D: 2 × 25 = 50, 3 × 25 = 75 and 3 × 29 = 87
      shows =
          (0 ∷ 0 ∷ 0 ∷ 0 ∷ 0 ∷ 0 ∷ 0 ∷ 0 ∷ 0 ∷ 0 ∷ 0 ∷ 0 ∷ 0 ∷ 0 ∷ [])
          ∷ (p ∷ 0 ∷ 0 ∷ 5 ∷ 0 ∷ 0 ∷ 0 ∷ [])
          ∷ (p ∷ 1 ∷ 0 ∷ 3 ∷ 0 ∷ 0 ∷ 0 ∷ [])
          ∷ (l ∷ 28 ∷ 28 ∷ 0 ∷ 0 ∷ 0 ∷ 0 ∷ 0 ∷ 0 ∷ [])
          ∷ (m ∷ 0 ∷ 3 ∷ 0 ∷ 0 ∷ [])
          ∷ (m ∷ 1 ∷ 2 ∷ 0 ∷ 0 ∷ [])
          ∷ (m ∷ 2 ∷ 1 ∷ 0 ∷ 0 ∷ [])
          ∷ [];
    }

-- Of three odd units the remainder decides the first, the weight the second and the place the third.
abbrev pub all_three_decide : Worked
all_three_decide =
    record {
      calls =
          -- 9 units, members 0 to 4, margin 100
          head 1 1 31 0 0 100 0 0
          ∷ pool 0 9 0
          ∷ member 0 0 0 0 0 0
          ∷ member 1 0 0 0 0 0
          ∷ member 2 0 0 0 0 0
          ∷ member 3 0 0 0 0 0
          ∷ member 4 0 0 0 0 0
          ∷ round ((− 30) ∷ [])
          ∷ bid 0 0 1 (− 5)
          ∷ bid 0 1 1 (− 5)
          ∷ bid 0 2 4 (− 5)
          ∷ bid 0 3 6 (− 5)
          ∷ bid 0 4 3 (− 5)
          -- 9 split by 1, 1, 4, 6, 3, which are 15. Products 9, 9, 36, 54, 27: floors 0, 0, 2, 3, 1, which are 6, and remainders 9, 9, 6, 9, 12. Of the 3 that
          -- are left one goes to the largest remainder, the bid of 3; one to the largest weight of the three with 9, the bid of 6; one to the earlier of
          -- the two bids of 1. So 1, 0, 2, 4, 2
          ∷ close
          ∷ finish
          ∷ [];
      -- loss 9 × 5 = 45. ΔP is 25 for who won, excess 1, 0, 2, 4, 2: rank 1 is member 3, 2 members 2 and 4, 4 member 0, 5 member 1
      shows =
          (0 ∷ 0 ∷ 0 ∷ 0 ∷ 0 ∷ 0 ∷ 0 ∷ 0 ∷ 0 ∷ 0 ∷ 0 ∷ 0 ∷ 0 ∷ 0 ∷ 0 ∷ [])
          ∷ (p ∷ 0 ∷ 0 ∷ 9 ∷ 0 ∷ 0 ∷ 0 ∷ [])
          ∷ (l ∷ 45 ∷ 45 ∷ 0 ∷ 0 ∷ 0 ∷ 0 ∷ 0 ∷ 0 ∷ [])
          ∷ (m ∷ 0 ∷ 4 ∷ 0 ∷ 0 ∷ [])
          ∷ (m ∷ 1 ∷ 5 ∷ 0 ∷ 0 ∷ [])
          ∷ (m ∷ 2 ∷ 2 ∷ 0 ∷ 0 ∷ [])
          ∷ (m ∷ 3 ∷ 1 ∷ 0 ∷ 0 ∷ [])
          ∷ (m ∷ 4 ∷ 2 ∷ 0 ∷ 0 ∷ [])
          ∷ [];
    }

-- A bid that is withdrawn and sent again is the last of the list (C-14), and it has the odd unit all the same, for it is the larger.
abbrev pub larger_sent_again : Worked
larger_sent_again =
    record {
      calls =
          -- 2 units, members 0 and 1, margin 100
          head 1 1 3 0 0 100 0 0
          ∷ pool 0 2 0
          ∷ member 0 0 0 0 0 0
          ∷ member 1 0 0 0 0 0
          ∷ round ((− 30) ∷ [])
          ∷ bid 0 0 3 (− 5)
          ∷ bid 0 1 1 (− 5)
          ∷ withdraw 0 0
          ∷ bid 0 0 3 (− 5)
          -- 2 split by 1, 3: floors 0 and 1, remainders 2 and 2 by 4, so 0 to bid 1 and 2 to bid 2
          ∷ close
          ∷ finish
          ∷ [];
      -- loss 2 × 5 = 10. ΔP × excess is 25 × 2 for member 0 and 0 for member 1
      shows =
          (0 ∷ 0 ∷ 0 ∷ 0 ∷ 0 ∷ 0 ∷ 0 ∷ 0 ∷ 0 ∷ 0 ∷ 0 ∷ [])
          ∷ (p ∷ 0 ∷ 0 ∷ 2 ∷ 0 ∷ 0 ∷ 0 ∷ [])
          ∷ (l ∷ 10 ∷ 10 ∷ 0 ∷ 0 ∷ 0 ∷ 0 ∷ 0 ∷ 0 ∷ [])
          ∷ (m ∷ 0 ∷ 1 ∷ 0 ∷ 0 ∷ [])
          ∷ (m ∷ 1 ∷ 2 ∷ 0 ∷ 0 ∷ [])
          ∷ [];
    }

-- ---- ALLOCATE

-- In pool 0 member 1 is short of more than member 0, in pool 1 of as many.
abbrev pub larger_shortfall : Worked
larger_shortfall =
    record {
      calls =
          -- pools of 2 and 3 units, members 0 and 1, who expect 1 and 3 in pool 0 and 2 each in pool 1, margin 100
          head 2 1 3 0 0 100 0 0
          ∷ pool 0 2 0
          ∷ pool 1 3 0
          ∷ member 0 0 1 2 0 0
          ∷ member 1 0 3 2 0 0
          ∷ round (0 ∷ 0 ∷ [])
          ∷ close
          -- 2 split by 1, 3: floors 2 / 4 = 0 and 6 / 4 = 1, remainders 2 and 2: the odd unit to member 1, so 0 and 2
          ∷ allocate 0 (− 5)
          -- no unit is allocated to member 0: declined by 16
          ∷ miss 0 (− 9)
          -- 3 split by 2, 2: floors 6 / 4 = 1 and 1, remainders 2 and 2, equal weights: the odd unit to the earlier, so 2 and 1
          ∷ allocate 1 (− 6)
          ∷ finish
          ∷ [];
      -- loss 2 × 5 + 3 × 6 = 28. Nothing was won: deficits 3 and 5, and the lower is senior
      shows =
          (0 ∷ 0 ∷ 0 ∷ 0 ∷ 0 ∷ 0 ∷ 0 ∷ 0 ∷ 16 ∷ 0 ∷ 0 ∷ [])
          ∷ (p ∷ 0 ∷ 0 ∷ 0 ∷ 2 ∷ 0 ∷ 0 ∷ [])
          ∷ (p ∷ 1 ∷ 0 ∷ 0 ∷ 3 ∷ 0 ∷ 0 ∷ [])
          ∷ (l ∷ 28 ∷ 28 ∷ 0 ∷ 0 ∷ 0 ∷ 0 ∷ 0 ∷ 0 ∷ [])
          ∷ (m ∷ 0 ∷ 1 ∷ 0 ∷ 0 ∷ [])
          ∷ (m ∷ 1 ∷ 2 ∷ 0 ∷ 0 ∷ [])
          ∷ [];
    }

-- ---- CALL

-- The call is split by contribution.
abbrev pub tie_of_unequal : Worked
tie_of_unequal =
    record {
      calls =
          -- members 0 and 1
          head 1 1 3 0 0 0 0 0
          ∷ pool 0 2 0
          ∷ member 0 1 0 0 0 0
          ∷ member 1 3 0 0 0 0
          ∷ round ((− 3) ∷ [])
          ∷ close
          ∷ tear 0 (− 3)
          -- requirement 2 × 3 = 6, prefunded 4: 2 split by 1, 3. Floors 2 / 4 = 0 and 6 / 4 = 1, remainders 2 and 2: the odd cent to member 1, so 0 and 2
          ∷ call
          -- member 0 is called for nothing: declined by 14
          ∷ pay 0 1
          ∷ pay 1 2
          ∷ finish
          ∷ [];
      -- loss 6: the contributions, 4, and the payment, 2. Both won none of none, and rank equal
      shows =
          (0 ∷ 0 ∷ 0 ∷ 0 ∷ 0 ∷ 0 ∷ 0 ∷ 0 ∷ 14 ∷ 0 ∷ 0 ∷ [])
          ∷ (p ∷ 0 ∷ 0 ∷ 0 ∷ 0 ∷ 0 ∷ 2 ∷ [])
          ∷ (l ∷ 6 ∷ 0 ∷ 0 ∷ 0 ∷ 4 ∷ 0 ∷ 2 ∷ 0 ∷ [])
          ∷ (m ∷ 0 ∷ 1 ∷ 1 ∷ 0 ∷ [])
          ∷ (m ∷ 1 ∷ 1 ∷ 3 ∷ 2 ∷ [])
          ∷ [];
    }

-- ---- FINISH

-- "an equal rank split by contribution in member order"
abbrev pub equal_rank : Worked
equal_rank =
    record {
      calls =
          -- members 0, 1 and 2, who contribute 1, 3 and 5; member 2 expects a unit
          head 1 1 7 0 0 0 0 0
          ∷ pool 0 1 0
          ∷ member 0 1 0 0 0 0
          ∷ member 1 3 0 0 0 0
          ∷ member 2 5 1 0 0 0
          ∷ round ((− 7) ∷ [])
          ∷ close
          ∷ tear 0 (− 7)
          ∷ finish
          ∷ [];
      -- loss 7. Members 0 and 1 won none of none, and rank equal; member 2 won none of 1, and bears its 5 first. 2 split by 1, 3: floors 2 / 4 = 0 and
      -- 6 / 4 = 1, remainders 2 and 2: the odd cent to member 1, so 0 and 2
      shows =
          (0 ∷ 0 ∷ 0 ∷ 0 ∷ 0 ∷ 0 ∷ 0 ∷ 0 ∷ 0 ∷ [])
          ∷ (p ∷ 0 ∷ 0 ∷ 0 ∷ 0 ∷ 0 ∷ 1 ∷ [])
          ∷ (l ∷ 7 ∷ 0 ∷ 0 ∷ 0 ∷ 7 ∷ 0 ∷ 0 ∷ 0 ∷ [])
          ∷ (m ∷ 0 ∷ 1 ∷ 0 ∷ 0 ∷ [])
          ∷ (m ∷ 1 ∷ 1 ∷ 2 ∷ 0 ∷ [])
          ∷ (m ∷ 2 ∷ 3 ∷ 5 ∷ 0 ∷ [])
          ∷ [];
    }

-- "payments, split by payment": a MOVE has saved more than its member owed, so that the payments are charged less than was paid.
abbrev pub larger_payment : Worked
larger_payment =
    record {
      calls =
          -- members 0, 1 and 2, who contribute 10, 30 and 10, hedge loss 52
          head 1 1 7 52 0 0 0 0
          ∷ pool 0 1 0
          ∷ member 0 10 0 0 0 0
          ∷ member 1 30 0 0 0 0
          ∷ member 2 10 0 0 0 0
          ∷ round ((− 10) ∷ [])
          ∷ bid 0 0 1 (− 3)
          ∷ close
          -- requirement 52 + 3 = 55, prefunded 50: 5 split by 10, 30, 10 is 1, 3, 1, with no remainder
          ∷ call
          ∷ pay 0 1
          ∷ pay 1 3
          -- owes 1; the unit saves 3, and the requirement is 52
          ∷ move 2
          ∷ finish
          ∷ [];
      -- loss 52: all contributions, 50, and 2 of the 4 paid, split by 1, 3, 0. Floors 2 / 4 = 0, 6 / 4 = 1 and 0, remainders 2, 2 and 0: the odd cent to
      -- member 1, so 0, 2, 0. Member 0 has ΔP 7 and excess 1; members 1 and 2 won none of none, and rank equal
      shows =
          (0 ∷ 0 ∷ 0 ∷ 0 ∷ 0 ∷ 0 ∷ 0 ∷ 0 ∷ 0 ∷ 0 ∷ 0 ∷ 0 ∷ 0 ∷ [])
          ∷ (p ∷ 0 ∷ 0 ∷ 0 ∷ 0 ∷ 1 ∷ 0 ∷ [])
          ∷ (l ∷ 52 ∷ 0 ∷ 0 ∷ 0 ∷ 50 ∷ 0 ∷ 2 ∷ 0 ∷ [])
          ∷ (m ∷ 0 ∷ 1 ∷ 10 ∷ 0 ∷ [])
          ∷ (m ∷ 1 ∷ 2 ∷ 30 ∷ 2 ∷ [])
          ∷ (m ∷ 2 ∷ 2 ∷ 10 ∷ 0 ∷ [])
          ∷ [];
    }

-- ---- the theorem

abbrev pub ties : List Worked
ties =
    later_and_larger
    ∷ all_three_decide
    ∷ larger_sent_again
    ∷ larger_shortfall
    ∷ tie_of_unequal
    ∷ equal_rank
    ∷ larger_payment
    ∷ []

pub ties-hold : AllShow ties
unfolding computing
ties-hold = (refl, (refl, (refl, (refl, (refl, (refl, (refl, tt)))))))

-- what members hold, and at which price
pub holdings-hold :
    AllHold
    -- pool 0, and then pool 1
    ((held later_and_larger 0 0 (zero_price - 5) ∷ held later_and_larger 1 0 (zero_price - 5) ∷ held later_and_larger 2 0 (zero_price - 1) ∷ [] says 0 ∷ 2 ∷ 3 ∷ [])
    ∷ (held later_and_larger 0 1 (zero_price - 5) ∷ held later_and_larger 1 1 (zero_price - 5) ∷ [] says 2 ∷ 1 ∷ [])
    ∷ (held all_three_decide 0 0 (zero_price - 5) ∷ held all_three_decide 1 0 (zero_price - 5) ∷ held all_three_decide 2 0 (zero_price - 5)
    ∷ held all_three_decide 3 0 (zero_price - 5) ∷ held all_three_decide 4 0 (zero_price - 5) ∷ [] says 1 ∷ 0 ∷ 2 ∷ 4 ∷ 2 ∷ [])
    ∷ (held larger_sent_again 0 0 (zero_price - 5) ∷ held larger_sent_again 1 0 (zero_price - 5) ∷ [] says 2 ∷ 0 ∷ [])
    -- allocated in pool 0, and then in pool 1
    ∷ (held larger_shortfall 0 0 (zero_price - 5) ∷ held larger_shortfall 1 0 (zero_price - 5) ∷ [] says 0 ∷ 2 ∷ [])
    ∷ (held larger_shortfall 0 1 (zero_price - 6) ∷ held larger_shortfall 1 1 (zero_price - 6) ∷ [] says 2 ∷ 1 ∷ [])
    ∷ [])
unfolding computing
holdings-hold = (refl, (refl, (refl, (refl, (refl, (refl, tt))))))
