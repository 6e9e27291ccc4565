-- Worked lists of calls: units won, and the ranks that follow. Above each list stands the sentence of document 01 that decides it, beside each
-- call what follows from it; every figure is worked out by hand. Assumes nothing.
use mathlib.Core.Path.{refl}
use mathlib.Core.List.{List, [], ◌∷◌}
use Rattle.machine.specs.Computing.{computing}
use Rattle.machine.proofs.CallBytes.{−◌, head, pool, member, round, bid, close, allocate, tear, finish}
use Rattle.machine.proofs.Worked.{Worked, AllShow, p, l, m}

-- ALLOCATE: "a member's shortfall is expected units less units won less units ever allocated to it by this call, all in that pool": units won in
-- either round.
abbrev pub won_in_both_rounds : Worked
won_in_both_rounds =
    record {
      calls =
          -- members 0 and 1
          head 1 1 3 0 0 0 0 0
          ∷ pool 0 3 0
          ∷ member 0 0 1 0 0 0
          ∷ member 1 0 1 0 0 0
          ∷ round (0 ∷ [])
          ∷ bid 0 0 1 0
          -- member 0 wins one
          ∷ close
          ∷ round (0 ∷ [])
          ∷ close
          -- shortfalls 1 − 1 = 0 and 1: one unit to member 1, the third stays open
          ∷ allocate 0 0
          ∷ [];
      shows =
          (0 ∷ 0 ∷ 0 ∷ 0 ∷ 0 ∷ 0 ∷ 0 ∷ 0 ∷ 0 ∷ 0 ∷ [])
          ∷ (p ∷ 0 ∷ 1 ∷ 1 ∷ 1 ∷ 0 ∷ 0 ∷ [])
          ∷ [];
    }

-- "A pool's worst reserve is the lower of those of the rounds in which it had open units": also of a round in which nothing was sold.
abbrev pub reserve_without_sale : Worked
reserve_without_sale =
    record {
      calls =
          -- two pools, members 0 and 1
          head 2 1 3 0 0 0 0 0
          ∷ pool 0 2 0
          ∷ pool 1 1 0
          ∷ member 0 0 0 0 0 0
          ∷ member 1 0 0 0 0 0
          ∷ round (0 ∷ 0 ∷ [])
          ∷ bid 0 0 1 1
          ∷ bid 1 1 1 2
          -- both won; pool 0 has one unit open, pool 1 none
          ∷ close
          ∷ round ((− 5) ∷ 0 ∷ [])
          ∷ close
          ∷ tear 0 0
          ∷ finish
          ∷ [];
      -- the prices 1 + 2 + 0 are above the losses: loss 0. Worst reserves −5 and 0. Member 0: D = 1 + 5, ΔP × excess = 6 × 1; member 1: 2 × 1.
      -- With the reserve 0 for pool 0 it would be 1 against 2
      shows =
          (0 ∷ 0 ∷ 0 ∷ 0 ∷ 0 ∷ 0 ∷ 0 ∷ 0 ∷ 0 ∷ 0 ∷ 0 ∷ 0 ∷ 0 ∷ [])
          ∷ (p ∷ 0 ∷ 0 ∷ 1 ∷ 0 ∷ 0 ∷ 1 ∷ [])
          ∷ (p ∷ 1 ∷ 0 ∷ 1 ∷ 0 ∷ 0 ∷ 0 ∷ [])
          ∷ (l ∷ 0 ∷ 0 ∷ 0 ∷ 0 ∷ 0 ∷ 0 ∷ 0 ∷ 0 ∷ [])
          ∷ (m ∷ 0 ∷ 1 ∷ 0 ∷ 0 ∷ [])
          ∷ (m ∷ 1 ∷ 2 ∷ 0 ∷ 0 ∷ [])
          ∷ [];
    }

-- "excess is W less expected units over all pools": not pool by pool.
abbrev pub excess_over_pools : Worked
excess_over_pools =
    record {
      calls =
          -- two pools, members 0 and 1
          head 2 1 3 0 0 0 0 0
          ∷ pool 0 3 0
          ∷ pool 1 1 0
          ∷ member 0 0 0 2 0 0
          ∷ member 1 0 0 0 0 0
          ∷ round (0 ∷ 0 ∷ [])
          ∷ bid 0 0 3 1
          ∷ bid 1 1 1 0
          ∷ close
          ∷ finish
          ∷ [];
      -- Member 0: W = 3 in pool 0, 2 expected in pool 1, excess 1: A, with D = 3 × 1, ΔP × excess = 1. Member 1: W = 1, excess 1, D = 0: 0
      shows =
          (0 ∷ 0 ∷ 0 ∷ 0 ∷ 0 ∷ 0 ∷ 0 ∷ 0 ∷ 0 ∷ 0 ∷ [])
          ∷ (p ∷ 0 ∷ 0 ∷ 3 ∷ 0 ∷ 0 ∷ 0 ∷ [])
          ∷ (p ∷ 1 ∷ 0 ∷ 1 ∷ 0 ∷ 0 ∷ 0 ∷ [])
          ∷ (l ∷ 0 ∷ 0 ∷ 0 ∷ 0 ∷ 0 ∷ 0 ∷ 0 ∷ 0 ∷ [])
          ∷ (m ∷ 0 ∷ 1 ∷ 0 ∷ 0 ∷ [])
          ∷ (m ∷ 1 ∷ 2 ∷ 0 ∷ 0 ∷ [])
          ∷ [];
    }

-- "D sums units won × (price − worst reserve) over all pools": each difference is weighted by the units won.
abbrev pub weighted_by_units : Worked
weighted_by_units =
    record {
      calls =
          -- members 0 and 1
          head 1 1 3 0 0 0 0 0
          ∷ pool 0 3 0
          ∷ member 0 0 2 0 0 0
          ∷ member 1 0 1 0 0 0
          ∷ round (0 ∷ [])
          ∷ bid 0 0 2 5
          ∷ bid 0 1 1 4
          ∷ close
          ∷ finish
          ∷ [];
      -- both have excess 0, so that the higher ΔP decides: member 0's is 2 × 5 / 2 = 5 (and not 5 / 2), member 1's 4
      shows =
          (0 ∷ 0 ∷ 0 ∷ 0 ∷ 0 ∷ 0 ∷ 0 ∷ 0 ∷ 0 ∷ [])
          ∷ (p ∷ 0 ∷ 0 ∷ 3 ∷ 0 ∷ 0 ∷ 0 ∷ [])
          ∷ (l ∷ 0 ∷ 0 ∷ 0 ∷ 0 ∷ 0 ∷ 0 ∷ 0 ∷ 0 ∷ [])
          ∷ (m ∷ 0 ∷ 1 ∷ 0 ∷ 0 ∷ [])
          ∷ (m ∷ 1 ∷ 2 ∷ 0 ∷ 0 ∷ [])
          ∷ [];
    }

-- "Units won are those given at CLOSE": D and W count what a bid won, and not what it bid for.
abbrev pub won_not_bid : Worked
won_not_bid =
    record {
      calls =
          -- members 0 and 1
          head 1 1 3 0 0 0 0 0
          ∷ pool 0 3 0
          ∷ member 0 0 1 0 0 0
          ∷ member 1 0 2 0 0 0
          ∷ round (0 ∷ [])
          ∷ bid 0 1 2 5
          ∷ bid 0 0 9 4
          -- member 1 wins 2, member 0 the balance of 1 of its 9
          ∷ close
          ∷ finish
          ∷ [];
      -- both have excess 0, so that the higher ΔP decides: member 0's is 1 × 4 / 1, member 1's 2 × 5 / 2
      shows =
          (0 ∷ 0 ∷ 0 ∷ 0 ∷ 0 ∷ 0 ∷ 0 ∷ 0 ∷ 0 ∷ [])
          ∷ (p ∷ 0 ∷ 0 ∷ 3 ∷ 0 ∷ 0 ∷ 0 ∷ [])
          ∷ (l ∷ 0 ∷ 0 ∷ 0 ∷ 0 ∷ 0 ∷ 0 ∷ 0 ∷ 0 ∷ [])
          ∷ (m ∷ 0 ∷ 2 ∷ 0 ∷ 0 ∷ [])
          ∷ (m ∷ 1 ∷ 1 ∷ 0 ∷ 0 ∷ [])
          ∷ [];
    }

-- "excess is W less expected units over all pools": pools of either mark.
abbrev pub expected_of_mark_one : Worked
expected_of_mark_one =
    record {
      calls =
          -- members 0 and 1
          head 1 1 3 0 0 0 0 0
          ∷ pool 0 1 1
          ∷ member 0 0 1 0 0 0
          ∷ member 1 0 0 0 0 0
          ∷ round (0 ∷ [])
          ∷ close
          ∷ tear 0 0
          ∷ finish
          ∷ [];
      -- Member 0 won none of 1: B. Member 1 won none of none: A
      shows =
          (0 ∷ 0 ∷ 0 ∷ 0 ∷ 0 ∷ 0 ∷ 0 ∷ 0 ∷ [])
          ∷ (p ∷ 0 ∷ 0 ∷ 0 ∷ 0 ∷ 0 ∷ 1 ∷ [])
          ∷ (l ∷ 0 ∷ 0 ∷ 0 ∷ 0 ∷ 0 ∷ 0 ∷ 0 ∷ 0 ∷ [])
          ∷ (m ∷ 0 ∷ 2 ∷ 0 ∷ 0 ∷ [])
          ∷ (m ∷ 1 ∷ 1 ∷ 0 ∷ 0 ∷ [])
          ∷ [];
    }

-- ---- the theorem

abbrev pub ranks : List Worked
ranks =
    won_in_both_rounds
    ∷ reserve_without_sale
    ∷ excess_over_pools
    ∷ weighted_by_units
    ∷ won_not_bid
    ∷ expected_of_mark_one
    ∷ []

pub ranks-hold : AllShow ranks
unfolding computing
ranks-hold = (refl, (refl, (refl, (refl, (refl, (refl, tt))))))
