-- Worked lists of calls for document 02, C-12: sale by agreement. Above each list stands the sentence that decides it, beside each call what follows
-- from it; every figure is worked out by hand. Assumes nothing.
use mathlib.Core.Path.{◌≡◌, refl}
use mathlib.Core.List.{List, [], ◌∷◌, ◌++◌}
use mathlib.Core.Option.{none}
use Prim.Native.Nat.{ℕ, ◌-◌}
use lib.IntN.{ℤ, neg_ℤ, pos}
use Rattle.auction.specs.Price.{zero_price}
use Rattle.machine.specs.Run.{run_from, sum_of_prices}
use Rattle.machine.specs.Table.{letter_in, A1}
use Rattle.machine.specs.Computing.{computing}
use Rattle.machine.proofs.Examples.{case_after, answers_after, Example, ◌says◌, AllHold}
use Rattle.machine.proofs.CallBytes.{−◌, head, pool, member, round, bid, close, allocate, tear, call, pay, move, miss, finish, sale}
use Rattle.machine.proofs.Worked.{Worked, AllShow, held, p, l, m}

-- ---- 17

-- A case from HEAD to FINISH that is sold by agreement alone.
abbrev pub no_auction : Worked
no_auction =
    record {
      calls =
          -- two pools, members 0 and 1, hedge loss 10, margin 20, fund 5, house money 10: sales may bring the loss to 25
          head 2 1 3 10 0 20 5 10
          ∷ pool 0 3 0
          -- pool 1 is not given yet: declined by 8
          ∷ sale 1 0 0
          ∷ pool 1 2 1
          -- no member is given: declined by 10
          ∷ sale 0 0 (− 5)
          ∷ member 0 50 1 1 0 0
          ∷ member 1 50 2 1 0 0
          -- declined by 3, 4 and 5
          ∷ sale 2 0 (− 5)
          ∷ sale 0 2 (− 5)
          ∷ sale 0 0 (− 1_000_001)
          -- 10 + 3 × 6 = 28: declined by 17
          ∷ sale 0 0 (− 6)
          -- 10 + 3 × 5 = 25
          ∷ sale 0 0 (− 5)
          -- sold already: declined by 8
          ∷ sale 0 1 0
          -- 25 + 2 × 1 = 27: declined by 17
          ∷ sale 1 1 (− 1)
          -- 25 − 2 × 4 = 17; no unit is open: A1
          ∷ sale 1 1 4
          -- declined by 2, 8 and 12
          ∷ sale 1 1 4
          ∷ round (0 ∷ 0 ∷ [])
          ∷ call
          ∷ finish
          ∷ [];
      -- loss 10 + 15 − 8 = 17, all of it from margin. Nobody won a unit, and what was expected does not count: all rank equal
      shows =
          (0 ∷ 0 ∷ 8 ∷ 0 ∷ 10 ∷ 0 ∷ 0 ∷ 3 ∷ 4 ∷ 5 ∷ 17 ∷ 0 ∷ 8 ∷ 17 ∷ 0 ∷ 2 ∷ 8 ∷ 12 ∷ 0 ∷ [])
          ∷ (p ∷ 0 ∷ 0 ∷ 3 ∷ 0 ∷ 0 ∷ 0 ∷ [])
          ∷ (p ∷ 1 ∷ 0 ∷ 2 ∷ 0 ∷ 0 ∷ 0 ∷ [])
          ∷ (l ∷ 17 ∷ 17 ∷ 0 ∷ 0 ∷ 0 ∷ 0 ∷ 0 ∷ 0 ∷ [])
          ∷ (m ∷ 0 ∷ 1 ∷ 0 ∷ 0 ∷ [])
          ∷ (m ∷ 1 ∷ 1 ∷ 0 ∷ 0 ∷ [])
          ∷ [];
    }

-- "17 .. where hedge loss + other loss − the prices of all units so sold .. passes margin and defaulter's fund together": to meet them is not to pass
-- them, and neither house money nor contributions are among them.
abbrev pub at_the_limit : Worked
at_the_limit =
    record {
      calls =
          -- member 0, losses 10 and 5, margin 20, fund 7, house money 100
          head 1 1 1 10 5 20 7 100
          ∷ pool 0 1 0
          ∷ member 0 50 0 0 0 0
          -- 10 + 5 + 13 = 28, one above 20 + 7: declined by 17
          ∷ sale 0 0 (− 13)
          -- 10 + 5 + 12 = 27
          ∷ sale 0 0 (− 12)
          ∷ finish
          ∷ [];
      -- the loss of 27 spends margin and fund
      shows =
          (0 ∷ 0 ∷ 0 ∷ 17 ∷ 0 ∷ 0 ∷ [])
          ∷ (p ∷ 0 ∷ 0 ∷ 1 ∷ 0 ∷ 0 ∷ 0 ∷ [])
          ∷ (l ∷ 27 ∷ 20 ∷ 7 ∷ 0 ∷ 0 ∷ 0 ∷ 0 ∷ 0 ∷ [])
          ∷ (m ∷ 0 ∷ 1 ∷ 0 ∷ 0 ∷ [])
          ∷ [];
    }

-- ".. the prices of all units so sold, this pool's included": two sales, neither of which is too dear alone.
abbrev pub two_sales : Worked
two_sales =
    record {
      calls =
          -- two pools, members 0 and 1, margin 10
          head 2 1 3 0 0 10 0 0
          ∷ pool 0 3 0
          ∷ pool 1 2 0
          ∷ member 0 0 0 0 0 0
          ∷ member 1 0 0 0 0 0
          -- 3 × 2 = 6
          ∷ sale 0 0 (− 2)
          -- 6 + 2 × 3 = 12: declined by 17
          ∷ sale 1 1 (− 3)
          -- 6 + 2 × 2 = 10
          ∷ sale 1 1 (− 2)
          ∷ [];
      shows =
          (0 ∷ 0 ∷ 0 ∷ 0 ∷ 0 ∷ 0 ∷ 17 ∷ 0 ∷ [])
          ∷ (p ∷ 0 ∷ 0 ∷ 3 ∷ 0 ∷ 0 ∷ 0 ∷ [])
          ∷ (p ∷ 1 ∷ 0 ∷ 2 ∷ 0 ∷ 0 ∷ 0 ∷ [])
          ∷ [];
    }

-- The same sentence with prices above 0: a gain may be too small for the losses that are there, and one that is larger than they are is kept for the
-- next sale; nothing is held at 0.
abbrev pub gains : Worked
gains =
    record {
      calls =
          -- two pools, members 0 and 1, hedge loss 30, margin 10, fund 5
          head 2 1 3 30 0 10 5 0
          ∷ pool 0 10 0
          ∷ pool 1 5 0
          ∷ member 0 0 0 0 0 0
          ∷ member 1 0 0 0 0 0
          -- 30 − 10 × 1 = 20, above 15: declined by 17
          ∷ sale 0 0 1
          -- 30 − 10 × 5 = −20
          ∷ sale 0 0 5
          -- −20 + 5 × 8 = 20: declined by 17
          ∷ sale 1 1 (− 8)
          -- −20 + 5 × 7 = 15
          ∷ sale 1 1 (− 7)
          ∷ finish
          ∷ [];
      shows =
          (0 ∷ 0 ∷ 0 ∷ 0 ∷ 0 ∷ 17 ∷ 0 ∷ 17 ∷ 0 ∷ 0 ∷ [])
          ∷ (p ∷ 0 ∷ 0 ∷ 10 ∷ 0 ∷ 0 ∷ 0 ∷ [])
          ∷ (p ∷ 1 ∷ 0 ∷ 5 ∷ 0 ∷ 0 ∷ 0 ∷ [])
          ∷ (l ∷ 15 ∷ 10 ∷ 5 ∷ 0 ∷ 0 ∷ 0 ∷ 0 ∷ 0 ∷ [])
          ∷ (m ∷ 0 ∷ 1 ∷ 0 ∷ 0 ∷ [])
          ∷ (m ∷ 1 ∷ 1 ∷ 0 ∷ 0 ∷ [])
          ∷ [];
    }

-- SALE "sells the whole pool": no sentence asks for its mark, and the least bid is for bids.
abbrev pub mark_one : Worked
mark_one =
    record {
      calls =
          -- member 0, least bid 10
          head 1 10 1 0 0 0 0 0
          -- three units, mark 1
          ∷ pool 0 3 1
          ∷ member 0 0 0 0 0 0
          ∷ sale 0 0 2
          ∷ finish
          ∷ [];
      -- the prices 3 × 2 are above the losses: loss 0
      shows =
          (0 ∷ 0 ∷ 0 ∷ 0 ∷ 0 ∷ [])
          ∷ (p ∷ 0 ∷ 0 ∷ 3 ∷ 0 ∷ 0 ∷ 0 ∷ [])
          ∷ (l ∷ 0 ∷ 0 ∷ 0 ∷ 0 ∷ 0 ∷ 0 ∷ 0 ∷ 0 ∷ [])
          ∷ (m ∷ 0 ∷ 1 ∷ 0 ∷ 0 ∷ [])
          ∷ [];
    }

-- ---- MOVE and MISS

-- ".. never moved: MOVE passes over it and ends as if it weren't there", though its price is the lowest. "16. MISS finds no unit allocated or moved to the
-- member": one sold to it by agreement is neither.
abbrev pub passed_over : Worked
passed_over =
    record {
      calls =
          -- two pools, members 0 and 1, margin 100
          head 2 1 3 0 0 100 0 0
          ∷ pool 0 2 0
          ∷ pool 1 2 0
          ∷ member 0 40 2 0 0 0
          ∷ member 1 10 0 0 0 0
          -- 2 × 50 = 100, as much as the margin
          ∷ sale 0 0 (− 50)
          ∷ round ((− 20) ∷ (− 20) ∷ [])
          ∷ bid 1 1 1 (− 20)
          -- the bid wins; the other unit of pool 1 stays open
          ∷ close
          ∷ tear 1 (− 80)
          -- requirement 100 + 20 + 80 = 200, prefunded 150: 50 split by 40, 10
          ∷ call
          -- member 0 holds two units, both sold by agreement: declined by 16
          ∷ miss 0 (− 5)
          -- owes 40: the unit at −20 saves 20, and no other may move
          ∷ move 0
          ∷ [];
      shows =
          (0 ∷ 0 ∷ 0 ∷ 0 ∷ 0 ∷ 0 ∷ 0 ∷ 0 ∷ 0 ∷ 0 ∷ 0 ∷ 16 ∷ 0 ∷ [])
          ∷ (p ∷ 0 ∷ 0 ∷ 2 ∷ 0 ∷ 0 ∷ 0 ∷ [])
          ∷ (p ∷ 1 ∷ 0 ∷ 0 ∷ 0 ∷ 1 ∷ 1 ∷ [])
          ∷ [];
    }

-- The same, and on until FINISH.
abbrev pub passed_over_done : Worked
passed_over_done =
    record {
      calls =
          passed_over.calls ++
          -- owes 10, and nothing may move: accepted
          (move 1
          -- the unit that moved to member 0 is torn, those sold to it by agreement are not
          ∷ miss 0 (− 5)
          -- declined by 16: only they are left
          ∷ miss 0 (− 5)
          ∷ finish
          ∷ []);
      -- loss 100 + 5 + 80 = 185: margin 100, contributions 50, and 35 are uncovered. Member 1 won one unit of none expected, at the reserve; of member 0
      -- nothing is expected but in pool 0: excess 1 and 0, ΔP × excess 0 for both
      shows =
          (0 ∷ 0 ∷ 0 ∷ 0 ∷ 0 ∷ 0 ∷ 0 ∷ 0 ∷ 0 ∷ 0 ∷ 0 ∷ 16 ∷ 0 ∷ 0 ∷ 0 ∷ 16 ∷ 0 ∷ [])
          ∷ (p ∷ 0 ∷ 0 ∷ 2 ∷ 0 ∷ 0 ∷ 0 ∷ [])
          ∷ (p ∷ 1 ∷ 0 ∷ 0 ∷ 0 ∷ 0 ∷ 2 ∷ [])
          ∷ (l ∷ 185 ∷ 100 ∷ 0 ∷ 0 ∷ 50 ∷ 0 ∷ 0 ∷ 35 ∷ [])
          ∷ (m ∷ 0 ∷ 2 ∷ 40 ∷ 0 ∷ [])
          ∷ (m ∷ 1 ∷ 1 ∷ 10 ∷ 0 ∷ [])
          ∷ [];
    }

-- "MISS: all units allocated or moved to the member become torn": in A, and of a buyer that has an allocated unit too.
abbrev pub missed : Worked
missed =
    record {
      calls =
          -- two pools, member 0, margin 10
          head 2 1 1 0 0 10 0 0
          ∷ pool 0 2 0
          ∷ pool 1 1 0
          ∷ member 0 20 3 1 0 0
          ∷ sale 0 0 (− 5)
          ∷ round (0 ∷ 0 ∷ [])
          ∷ close
          -- declined by 16
          ∷ miss 0 (− 7)
          -- member 0 is short by 3 in pool 0, where no unit is open: declined by 8
          ∷ allocate 0 (− 3)
          -- one unit to member 0
          ∷ allocate 1 (− 3)
          -- that unit is torn
          ∷ miss 0 (− 7)
          ∷ finish
          ∷ [];
      -- loss 2 × 5 + 7 = 17
      shows =
          (0 ∷ 0 ∷ 0 ∷ 0 ∷ 0 ∷ 0 ∷ 0 ∷ 16 ∷ 8 ∷ 0 ∷ 0 ∷ 0 ∷ [])
          ∷ (p ∷ 0 ∷ 0 ∷ 2 ∷ 0 ∷ 0 ∷ 0 ∷ [])
          ∷ (p ∷ 1 ∷ 0 ∷ 0 ∷ 0 ∷ 0 ∷ 1 ∷ [])
          ∷ (l ∷ 17 ∷ 10 ∷ 0 ∷ 0 ∷ 7 ∷ 0 ∷ 0 ∷ 0 ∷ [])
          ∷ (m ∷ 0 ∷ 1 ∷ 7 ∷ 0 ∷ [])
          ∷ [];
    }

-- ---- rank

-- "Such units, and the units expected in a pool so sold, don't count for rank": for nobody's, the buyer's or another's.
abbrev pub expected_not_counted : Worked
expected_not_counted =
    record {
      calls =
          -- two pools, members 0 and 1
          head 2 1 3 0 0 0 0 0
          ∷ pool 0 2 0
          ∷ pool 1 2 0
          ∷ member 0 15 5 1 0 0
          ∷ member 1 15 0 2 0 0
          ∷ sale 0 1 0
          ∷ round ((− 10) ∷ (− 10) ∷ [])
          ∷ bid 1 0 1 (− 10)
          ∷ bid 1 1 1 (− 10)
          -- both won
          ∷ close
          ∷ finish
          ∷ [];
      -- loss 20. Member 0: W = 1, expected 1, excess 0: A. Member 1: W = 1, expected 2: B, junior, and it bears its whole 15.
      -- With the 5 expected in pool 0 member 0 would be in B with a deficit of 5, against member 1's 1
      shows =
          (0 ∷ 0 ∷ 0 ∷ 0 ∷ 0 ∷ 0 ∷ 0 ∷ 0 ∷ 0 ∷ 0 ∷ 0 ∷ [])
          ∷ (p ∷ 0 ∷ 0 ∷ 2 ∷ 0 ∷ 0 ∷ 0 ∷ [])
          ∷ (p ∷ 1 ∷ 0 ∷ 2 ∷ 0 ∷ 0 ∷ 0 ∷ [])
          ∷ (l ∷ 20 ∷ 0 ∷ 0 ∷ 0 ∷ 20 ∷ 0 ∷ 0 ∷ 0 ∷ [])
          ∷ (m ∷ 0 ∷ 1 ∷ 5 ∷ 0 ∷ [])
          ∷ (m ∷ 1 ∷ 2 ∷ 15 ∷ 0 ∷ [])
          ∷ [];
    }

-- The first half of that sentence alone: "Units won are those given at CLOSE", and units sold by agreement are not.
abbrev pub not_won : Worked
not_won =
    record {
      calls =
          -- two pools, members 0 and 1
          head 2 1 3 0 0 0 0 0
          ∷ pool 0 9 0
          ∷ pool 1 1 0
          ∷ member 0 15 0 0 0 0
          ∷ member 1 15 0 0 0 0
          ∷ sale 0 1 0
          ∷ round ((− 10) ∷ (− 10) ∷ [])
          ∷ bid 1 0 1 (− 10)
          ∷ close
          ∷ finish
          ∷ [];
      -- loss 10. Member 0: W = 1, excess 1, ΔP 0. Member 1: W = 0, excess 0, and not 9: junior, it bears the 10
      shows =
          (0 ∷ 0 ∷ 0 ∷ 0 ∷ 0 ∷ 0 ∷ 0 ∷ 0 ∷ 0 ∷ 0 ∷ [])
          ∷ (p ∷ 0 ∷ 0 ∷ 9 ∷ 0 ∷ 0 ∷ 0 ∷ [])
          ∷ (p ∷ 1 ∷ 0 ∷ 1 ∷ 0 ∷ 0 ∷ 0 ∷ [])
          ∷ (l ∷ 10 ∷ 0 ∷ 0 ∷ 0 ∷ 10 ∷ 0 ∷ 0 ∷ 0 ∷ [])
          ∷ (m ∷ 0 ∷ 1 ∷ 0 ∷ 0 ∷ [])
          ∷ (m ∷ 1 ∷ 2 ∷ 10 ∷ 0 ∷ [])
          ∷ [];
    }

-- ---- the stage

-- both pools sold to member 0: 8 + 2 × 5 + 4 = 22, margin 10 and fund 20
abbrev all_sold : List (List ℕ)
all_sold =
    head 2 1 3 8 0 10 20 50
    ∷ pool 0 2 0
    ∷ pool 1 1 0
    ∷ member 0 30 2 0 0 0
    ∷ member 1 30 0 1 0 0
    ∷ sale 0 0 (− 5)
    ∷ sale 1 0 (− 4)
    ∷ []

-- "If no unit is open afterwards the stage becomes A1, where a ROUND is declined by 8", after 1 and 5. "12. CALL finds prefunded at or above the
-- requirement", and FINISH charges what there is.
abbrev pub sold_out : Worked
sold_out =
    record {
      calls =
          all_sold ++
          -- one reserve for two pools, a reserve out of range, and a ROUND with nothing wrong: declined by 1, 5 and 8
          (round (0 ∷ [])
          ∷ round (0 ∷ 1_000_001 ∷ [])
          ∷ round (0 ∷ 0 ∷ [])
          -- requirement 22, prefunded 10 + 20 + 50 + 60: declined by 12
          ∷ call
          ∷ finish
          ∷ []);
      -- 22: margin 10, fund 12
      shows =
          (0 ∷ 0 ∷ 0 ∷ 0 ∷ 0 ∷ 0 ∷ 0 ∷ 1 ∷ 5 ∷ 8 ∷ 12 ∷ 0 ∷ [])
          ∷ (p ∷ 0 ∷ 0 ∷ 2 ∷ 0 ∷ 0 ∷ 0 ∷ [])
          ∷ (p ∷ 1 ∷ 0 ∷ 1 ∷ 0 ∷ 0 ∷ 0 ∷ [])
          ∷ (l ∷ 22 ∷ 10 ∷ 12 ∷ 0 ∷ 0 ∷ 0 ∷ 0 ∷ 0 ∷ [])
          ∷ (m ∷ 0 ∷ 1 ∷ 0 ∷ 0 ∷ [])
          ∷ (m ∷ 1 ∷ 1 ∷ 0 ∷ 0 ∷ [])
          ∷ [];
    }

-- it is A1 without a round
pub sold-out-reached : (letter_in (run_from none all_sold) ≡ A1) × ((case_after all_sold).rounds ≡ [])
unfolding computing
sold-out-reached = (refl, refl)

-- One pool is sold by agreement, the other in two rounds.
abbrev pub other_pool : Worked
other_pool =
    record {
      calls =
          -- two pools, members 0 and 1, margin 20, fund 10, house money 10
          head 2 1 3 0 0 20 10 10
          ∷ pool 0 3 0
          ∷ pool 1 5 0
          ∷ member 0 60 3 2 0 0
          ∷ member 1 100 0 2 0 0
          -- 3 × 10 = 30; pool 1 is open, and the stage S
          ∷ sale 0 0 (− 10)
          -- "one reserve of 4 for each pool", also for the pool that is sold
          ∷ round ((− 10) ∷ (− 20) ∷ [])
          -- declined by 8
          ∷ bid 0 1 1 0
          ∷ bid 1 1 3 (− 19)
          -- 3 won, 2 open
          ∷ close
          -- declined by 2, 8 and 8
          ∷ sale 1 0 0
          ∷ allocate 0 0
          ∷ tear 0 0
          ∷ round ((− 5) ∷ (− 30) ∷ [])
          ∷ bid 1 0 2 (− 28)
          -- 2 won
          ∷ close
          -- declined by 2: A of round 2
          ∷ round ((− 5) ∷ (− 30) ∷ [])
          ∷ finish
          ∷ [];
      -- loss 30 + 3 × 19 + 2 × 28 = 143. Layers: margin 20, fund 10, first tranche 3 × 10 / 5 = 6, so contributions bear 107.
      -- Worst reserve of pool 1 −30. Member 0: D = 2 × 2 = 4, W = 2, expected 2, so ΔP × excess = 0. Member 1: D = 3 × 11 = 33, W = 3, expected 2:
      -- ΔP × excess = 11. The junior member 0 bears its whole 60, member 1 the other 47
      shows =
          (0 ∷ 0 ∷ 0 ∷ 0 ∷ 0 ∷ 0 ∷ 0 ∷ 8 ∷ 0 ∷ 0 ∷ 2 ∷ 8 ∷ 8 ∷ 0 ∷ 0 ∷ 0 ∷ 2 ∷ 0 ∷ [])
          ∷ (p ∷ 0 ∷ 0 ∷ 3 ∷ 0 ∷ 0 ∷ 0 ∷ [])
          ∷ (p ∷ 1 ∷ 0 ∷ 5 ∷ 0 ∷ 0 ∷ 0 ∷ [])
          ∷ (l ∷ 143 ∷ 20 ∷ 10 ∷ 6 ∷ 107 ∷ 0 ∷ 0 ∷ 0 ∷ [])
          ∷ (m ∷ 0 ∷ 2 ∷ 60 ∷ 0 ∷ [])
          ∷ (m ∷ 1 ∷ 1 ∷ 47 ∷ 0 ∷ [])
          ∷ [];
    }

-- ---- the theorem

abbrev pub sales : List Worked
sales =
    no_auction
    ∷ at_the_limit
    ∷ two_sales
    ∷ gains
    ∷ mark_one
    ∷ passed_over
    ∷ passed_over_done
    ∷ missed
    ∷ expected_not_counted
    ∷ not_won
    ∷ sold_out
    ∷ other_pool
    ∷ []

pub sales-hold : AllShow sales
unfolding computing
sales-hold = (refl, (refl, (refl, (refl, (refl, (refl, (refl, (refl, (refl, (refl, (refl, (refl, tt))))))))))))

-- "the entry sold by agreement, counted as sold, among its member's holdings"
pub holdings-hold :
    AllHold
    -- member 0 holds pool 0 at −5, member 1 pool 1 at 4, and neither holds anything of the other pool
    ((held no_auction 0 0 (zero_price - 5) ∷ held no_auction 1 1 1_000_004 ∷ held no_auction 0 1 1_000_004 ∷ held no_auction 1 0 (zero_price - 5) ∷ []
    says 3 ∷ 2 ∷ 0 ∷ 0 ∷ [])
    -- after MOVE member 0 holds the two units at −50 and, in pool 1, one at 0; member 1, whose unit it was, nothing at −20
    ∷ (held passed_over 0 0 (zero_price - 50) ∷ held passed_over 0 1 zero_price ∷ held passed_over 1 1 (zero_price - 20) ∷ [] says 2 ∷ 1 ∷ 0 ∷ [])
    -- after MISS only the two
    ∷ (held passed_over_done 0 0 (zero_price - 50) ∷ held passed_over_done 0 1 zero_price ∷ held passed_over_done 0 1 (zero_price - 5) ∷ []
    says 2 ∷ 0 ∷ 0 ∷ [])
    -- units sold by agreement and units sold to bids
    ∷ (held other_pool 0 0 (zero_price - 10) ∷ held other_pool 0 1 (zero_price - 28) ∷ held other_pool 1 1 (zero_price - 19) ∷ [] says 3 ∷ 2 ∷ 3 ∷ [])
    ∷ [])
unfolding computing
holdings-hold = (refl, (refl, (refl, (refl, tt))))

-- "the sum of prices of the units not open", in cents
abbrev prices_after : Worked → ℤ
prices_after x = sum_of_prices (case_after x.calls)

pub prices-hold :
    prices_after no_auction ∷ prices_after two_sales ∷ prices_after gains ∷ prices_after passed_over ∷ prices_after passed_over_done ∷ prices_after other_pool ∷ []
    -- −15 + 8, −6 − 4, 50 − 35, −100 − 80 with one unit moved, −100 − 5 − 80, −30 − 57 − 56
    ≡ neg_ℤ (pos 7) ∷ neg_ℤ (pos 10) ∷ pos 15 ∷ neg_ℤ (pos 180) ∷ neg_ℤ (pos 185) ∷ neg_ℤ (pos 143) ∷ []
unfolding computing
prices-hold = refl

-- ---- the first number that applies

-- two pools, members 0 and 1, margin 9; one pool is given
abbrev one_pool : List (List ℕ)
one_pool = head 2 1 3 0 0 9 0 0 ∷ pool 0 2 0 ∷ []

-- all is given but member 1, all but pool 1, and all
abbrev lacks_member : List (List ℕ)
lacks_member = one_pool ++ (pool 1 2 0 ∷ member 0 0 0 0 0 0 ∷ [])

abbrev lacks_pool : List (List ℕ)
lacks_pool = one_pool ++ (member 0 0 0 0 0 0 ∷ member 1 0 0 0 0 0 ∷ [])

abbrev given : List (List ℕ)
given = lacks_pool ++ (pool 1 2 0 ∷ [])

abbrev one_sold : List (List ℕ)
one_sold = given ++ (sale 0 0 0 ∷ [])

-- the later stages
abbrev bidding : List (List ℕ)
bidding = given ++ (round (0 ∷ 0 ∷ []) ∷ [])

abbrev after : List (List ℕ)
after = bidding ++ (close ∷ [])

abbrev torn_up : List (List ℕ)
torn_up = after ++ (tear 0 (− 5) ∷ tear 1 (− 5) ∷ [])

-- requirement 20, prefunded 9
abbrev calls_out : List (List ℕ)
calls_out = torn_up ++ (call ∷ [])

-- no member has contributed, so that nobody owes
abbrev finished : List (List ℕ)
finished = calls_out ++ (finish ∷ [])

-- wrong in pool, member and price
abbrev all_wrong : List (List ℕ)
all_wrong = sale 2 5 1_000_001 ∷ []

abbrev pub orders : List Example
orders =
    -- "SALE (tag 14: pool 1, member 1, price 4)": no case, so declined by 2; then a byte too few, one too many, a tail behind the field, and a tag that is not
    -- known, with six bytes and with none: declined by 1
    (answers_after []
    ((14 ∷ 0 ∷ 6 ∷ 0 ∷ 0 ∷ 0 ∷ 0 ∷ 0 ∷ 0 ∷ [])
    ∷ (14 ∷ 0 ∷ 5 ∷ 0 ∷ 0 ∷ 0 ∷ 0 ∷ 0 ∷ [])
    ∷ (14 ∷ 0 ∷ 7 ∷ 0 ∷ 0 ∷ 0 ∷ 0 ∷ 0 ∷ 0 ∷ 0 ∷ [])
    ∷ (14 ∷ 0 ∷ 6 ∷ 0 ∷ 0 ∷ 0 ∷ 0 ∷ 0 ∷ 0 ∷ 0 ∷ [])
    ∷ (15 ∷ 0 ∷ 6 ∷ 0 ∷ 0 ∷ 0 ∷ 0 ∷ 0 ∷ 0 ∷ [])
    ∷ (15 ∷ 0 ∷ 0 ∷ [])
    ∷ []) says 2 ∷ 1 ∷ 1 ∷ 1 ∷ 1 ∷ 1 ∷ [])
    -- the same in S
    ∷ (answers_after given
    ((14 ∷ 0 ∷ 6 ∷ 0 ∷ 0 ∷ 0 ∷ 0 ∷ 0 ∷ 0 ∷ [])
    ∷ (14 ∷ 0 ∷ 5 ∷ 0 ∷ 0 ∷ 0 ∷ 0 ∷ 0 ∷ [])
    ∷ (14 ∷ 0 ∷ 7 ∷ 0 ∷ 0 ∷ 0 ∷ 0 ∷ 0 ∷ 0 ∷ 0 ∷ [])
    ∷ []) says 0 ∷ 1 ∷ 1 ∷ [])
    -- "2. The stage doesn't allow the call": B, A, A with nothing open, C, F
    ∷ (answers_after bidding all_wrong says 2 ∷ [])
    ∷ (answers_after after all_wrong says 2 ∷ [])
    ∷ (answers_after torn_up all_wrong says 2 ∷ [])
    ∷ (answers_after calls_out all_wrong says 2 ∷ [])
    ∷ (answers_after finished all_wrong says 2 ∷ [])
    -- one pool is given and no member. 3 before 4 and 5; 4 before 5, for a member outside the set and for a byte that is no bit of it; 5 before 8; pool 1 is
    -- not given: 8 before 10; pool 0 is open: 10, before 17 too
    ∷ (answers_after one_pool
    (sale 2 5 1_000_001 ∷ sale 0 5 1_000_001 ∷ sale 0 32 0 ∷ sale 0 255 0 ∷ sale 1 0 1_000_001 ∷ sale 1 0 0 ∷ sale 0 0 0 ∷ sale 0 0 (− 1_000_000) ∷ [])
    says 3 ∷ 4 ∷ 4 ∷ 4 ∷ 5 ∷ 8 ∷ 10 ∷ 10 ∷ [])
    -- a member is missing
    ∷ (answers_after lacks_member (sale 0 0 0 ∷ sale 1 0 0 ∷ []) says 10 ∷ 10 ∷ [])
    -- a pool is missing, and is the one to be sold
    ∷ (answers_after lacks_pool (sale 0 0 0 ∷ sale 1 0 0 ∷ []) says 10 ∷ 8 ∷ [])
    -- all are given: "prices .. −10^6 to 10^6"; 2 × 10^6 passes 9
    ∷ (answers_after given
    (sale 0 0 (− 1_000_001) ∷ sale 0 0 (− 1_000_000) ∷ sale 0 0 1_000_000 ∷ sale 0 0 1_000_001 ∷ sale 1 1 (− 4) ∷ sale 1 1 (− 5) ∷ [])
    says 5 ∷ 17 ∷ 0 ∷ 5 ∷ 0 ∷ 17 ∷ [])
    -- pool 0 is sold: to sell it again is declined by 8, before 17, to either member; pool 1 can be sold, to either
    ∷ (answers_after one_sold (sale 0 0 0 ∷ sale 0 1 0 ∷ sale 0 0 (− 1_000_000) ∷ sale 1 0 0 ∷ sale 1 1 0 ∷ []) says 8 ∷ 8 ∷ 8 ∷ 0 ∷ 0 ∷ [])
    -- and the stage is S: no pool and no member is left to give, ROUND is accepted, CALL and FINISH are not for it
    ∷ (answers_after one_sold (pool 2 1 0 ∷ member 0 0 0 0 0 0 ∷ round (0 ∷ 0 ∷ []) ∷ call ∷ finish ∷ []) says 3 ∷ 4 ∷ 0 ∷ 2 ∷ 2 ∷ [])
    -- A1 after the last sale: ALLOCATE and TEAR find no open unit, MISS no unit allocated or moved to the buyer or the other member
    ∷ (answers_after all_sold
    (head 2 1 3 8 0 10 20 50 ∷ pool 1 1 0 ∷ member 1 30 0 1 0 0 ∷ bid 0 0 1 0 ∷ close ∷ allocate 0 0 ∷ tear 1 0 ∷ pay 0 1 ∷ move 0 ∷ miss 0 0 ∷ miss 1 0 ∷ sale 0 0 0 ∷ finish ∷ [])
    says 2 ∷ 2 ∷ 2 ∷ 2 ∷ 2 ∷ 8 ∷ 8 ∷ 2 ∷ 2 ∷ 16 ∷ 16 ∷ 2 ∷ 0 ∷ [])
    ∷ []

pub orders-hold : AllHold orders
unfolding computing
orders-hold =
    (refl, (refl, (refl, (refl, (refl, (refl, (refl, (refl, (refl, (refl, (refl, (refl, (refl, (refl, tt))))))))))))))
