-- Worked lists of calls: what is called, owed, paid, moved and charged. Above each list stands the sentence of document 01 that decides it, beside
-- each call what follows from it; every figure is worked out by hand. Assumes nothing.
use mathlib.Core.Path.{refl}
use mathlib.Core.List.{List, [], ◌∷◌}
use Rattle.machine.specs.Computing.{computing}
use Rattle.machine.proofs.CallBytes.{−◌, head, pool, member, round, bid, close, allocate, tear, call, pay, move, finish}
use Rattle.machine.proofs.Worked.{Worked, AllShow, p, l, m}

-- ---- CALL

-- "11. CALL or FINISH finds an open unit" comes before "12. CALL finds prefunded at or above the requirement", and both hold here.
abbrev pub open_before_prefunded : Worked
open_before_prefunded =
    record {
      calls =
          -- member 0
          head 1 1 1 0 0 0 0 0
          ∷ pool 0 1 0
          ∷ member 0 0 0 0 0 0
          ∷ round (0 ∷ [])
          ∷ close
          -- the unit is open; requirement 0, prefunded 0: declined by 11
          ∷ call
          ∷ [];
      shows =
          (0 ∷ 0 ∷ 0 ∷ 0 ∷ 0 ∷ 11 ∷ [])
          ∷ (p ∷ 0 ∷ 1 ∷ 0 ∷ 0 ∷ 0 ∷ 0 ∷ [])
          ∷ [];
    }

-- "CALL: the smaller of (requirement − prefunded) and all contributions is split by contribution": with no contribution that is 0, and no number of
-- "Why a call is declined" is against it.
abbrev pub call_of_nothing : Worked
call_of_nothing =
    record {
      calls =
          -- member 0, hedge loss 1
          head 1 1 1 1 0 0 0 0
          ∷ pool 0 1 0
          ∷ member 0 0 0 0 0 0
          ∷ round (0 ∷ [])
          ∷ close
          ∷ tear 0 0
          -- requirement 1, prefunded 0: the smaller of 1 and 0 is called
          ∷ call
          -- nobody owes
          ∷ finish
          ∷ [];
      -- every layer holds 0: "The rest is uncovered."
      shows =
          (0 ∷ 0 ∷ 0 ∷ 0 ∷ 0 ∷ 0 ∷ 0 ∷ 0 ∷ [])
          ∷ (p ∷ 0 ∷ 0 ∷ 0 ∷ 0 ∷ 0 ∷ 1 ∷ [])
          ∷ (l ∷ 1 ∷ 0 ∷ 0 ∷ 0 ∷ 0 ∷ 0 ∷ 0 ∷ 1 ∷ [])
          ∷ (m ∷ 0 ∷ 1 ∷ 0 ∷ 0 ∷ [])
          ∷ [];
    }

-- ---- MOVE

-- "Allocated units go first: lowest price, then higher pool": the price decides before the pool.
abbrev pub price_before_pool : Worked
price_before_pool =
    record {
      calls =
          -- two pools, member 0, hedge loss 20
          head 2 1 1 20 0 0 0 0
          ∷ pool 0 1 0
          ∷ pool 1 1 0
          ∷ member 0 5 1 1 0 0
          ∷ round (0 ∷ 0 ∷ [])
          ∷ close
          ∷ allocate 0 (− 9)
          ∷ allocate 1 (− 5)
          -- requirement 20 + 9 + 5 = 34, prefunded 5: the smaller of 29 and 5
          ∷ call
          -- owes 5: the unit of pool 0, at −9, is the lowest and saves 9
          ∷ move 0
          ∷ [];
      shows =
          (0 ∷ 0 ∷ 0 ∷ 0 ∷ 0 ∷ 0 ∷ 0 ∷ 0 ∷ 0 ∷ 0 ∷ [])
          ∷ (p ∷ 0 ∷ 0 ∷ 0 ∷ 0 ∷ 1 ∷ 0 ∷ [])
          ∷ (p ∷ 1 ∷ 0 ∷ 0 ∷ 1 ∷ 0 ∷ 0 ∷ [])
          ∷ [];
    }

-- ".. or no allocated or sold unit with a negative price is left; only such units move": a torn unit stays.
abbrev pub torn_stays : Worked
torn_stays =
    record {
      calls =
          -- member 0, hedge loss 20
          head 1 1 1 20 0 0 0 0
          ∷ pool 0 1 0
          ∷ member 0 20 0 0 0 0
          ∷ round (0 ∷ [])
          ∷ close
          ∷ tear 0 (− 10)
          -- requirement 30, prefunded 20: 10 called
          ∷ call
          -- owes 10, and nothing may move
          ∷ move 0
          ∷ [];
      shows =
          (0 ∷ 0 ∷ 0 ∷ 0 ∷ 0 ∷ 0 ∷ 0 ∷ 0 ∷ [])
          ∷ (p ∷ 0 ∷ 0 ∷ 0 ∷ 0 ∷ 0 ∷ 1 ∷ [])
          ∷ [];
    }

-- MOVE goes on "until their old prices together have saved what it owes", and "It owes its call less payments": not the whole call.
abbrev pub move_saves_the_rest : Worked
move_saves_the_rest =
    record {
      calls =
          -- member 0, hedge loss 20
          head 1 1 1 20 0 0 0 0
          ∷ pool 0 2 0
          ∷ member 0 20 0 0 0 0
          ∷ round ((− 10) ∷ [])
          ∷ bid 0 0 2 (− 10)
          -- both units won
          ∷ close
          -- requirement 20 + 2 × 10 = 40, prefunded 20: 20 called
          ∷ call
          -- 10 are still owed
          ∷ pay 0 10
          -- one unit saves 10, the other stays sold
          ∷ move 0
          ∷ [];
      shows =
          (0 ∷ 0 ∷ 0 ∷ 0 ∷ 0 ∷ 0 ∷ 0 ∷ 0 ∷ 0 ∷ [])
          ∷ (p ∷ 0 ∷ 0 ∷ 1 ∷ 0 ∷ 1 ∷ 0 ∷ [])
          ∷ [];
    }

-- ---- FINISH

-- "It owes its call less payments": what MOVE saves beyond a member's own call lowers nobody else's. "15. FINISH finds a member who owes."
abbrev pub still_owed : Worked
still_owed =
    record {
      calls =
          -- members 0 and 1, hedge loss 10
          head 1 1 3 10 0 0 0 0
          ∷ pool 0 1 0
          ∷ member 0 5 0 0 0 0
          ∷ member 1 5 0 0 0 0
          ∷ round ((− 10) ∷ [])
          ∷ bid 0 0 1 (− 10)
          ∷ close
          -- requirement 20, prefunded 10: 10 split by 5, 5
          ∷ call
          -- owes 5; the unit saves 10, and the requirement is 10, as much as is prefunded
          ∷ move 0
          -- member 1 owes its 5 all the same: declined by 15
          ∷ finish
          ∷ [];
      shows =
          (0 ∷ 0 ∷ 0 ∷ 0 ∷ 0 ∷ 0 ∷ 0 ∷ 0 ∷ 0 ∷ 15 ∷ [])
          ∷ (p ∷ 0 ∷ 0 ∷ 0 ∷ 0 ∷ 1 ∷ 0 ∷ [])
          ∷ [];
    }

-- "15. FINISH finds a member who owes": one cent is owed.
abbrev pub one_cent_owed : Worked
one_cent_owed =
    record {
      calls =
          -- member 0, hedge loss 1
          head 1 1 1 1 0 0 0 0
          ∷ pool 0 1 0
          ∷ member 0 1 0 0 0 0
          ∷ round ((− 1) ∷ [])
          ∷ close
          ∷ tear 0 (− 1)
          -- requirement 2, prefunded 1: 1 called
          ∷ call
          -- declined by 15
          ∷ finish
          ∷ [];
      shows =
          (0 ∷ 0 ∷ 0 ∷ 0 ∷ 0 ∷ 0 ∷ 0 ∷ 15 ∷ [])
          ∷ (p ∷ 0 ∷ 0 ∷ 0 ∷ 0 ∷ 0 ∷ 1 ∷ [])
          ∷ [];
    }

-- "FINISH charges the requirement in turn .. to: margin; defaulter's fund; first tranche; contributions ..; second tranche; payments": the second
-- tranche before payments.
abbrev pub tranche_before_payments : Worked
tranche_before_payments =
    record {
      calls =
          -- members 0 and 1, hedge loss 14, house money 5
          head 1 1 3 14 0 0 0 5
          ∷ pool 0 1 0
          ∷ member 0 5 0 0 0 0
          ∷ member 1 5 0 0 0 0
          ∷ round ((− 20) ∷ [])
          ∷ bid 0 0 1 (− 20)
          ∷ close
          -- requirement 34, prefunded 5 + 10: the smaller of 19 and 10 split by 5, 5
          ∷ call
          ∷ pay 0 5
          -- owes 5; the unit saves 20, and the requirement is 14
          ∷ move 1
          ∷ finish
          ∷ [];
      -- first tranche floor(15 / 5) = 3, second 2: 3, 10, then 1 of the second, and nothing of the 5 paid. Member 0 won one unit of none expected, at the
      -- reserve, so ΔP × excess is 0 for both and the higher excess ranks first; each rank bears its whole 5
      shows =
          (0 ∷ 0 ∷ 0 ∷ 0 ∷ 0 ∷ 0 ∷ 0 ∷ 0 ∷ 0 ∷ 0 ∷ 0 ∷ [])
          ∷ (p ∷ 0 ∷ 0 ∷ 0 ∷ 0 ∷ 1 ∷ 0 ∷ [])
          ∷ (l ∷ 14 ∷ 0 ∷ 0 ∷ 3 ∷ 10 ∷ 1 ∷ 0 ∷ 0 ∷ [])
          ∷ (m ∷ 0 ∷ 1 ∷ 5 ∷ 0 ∷ [])
          ∷ (m ∷ 1 ∷ 2 ∷ 5 ∷ 0 ∷ [])
          ∷ [];
    }

-- ---- the theorem

abbrev pub debts : List Worked
debts =
    open_before_prefunded
    ∷ call_of_nothing
    ∷ price_before_pool
    ∷ torn_stays
    ∷ move_saves_the_rest
    ∷ still_owed
    ∷ one_cent_owed
    ∷ tranche_before_payments
    ∷ []

pub debts-hold : AllShow debts
unfolding computing
debts-hold = (refl, (refl, (refl, (refl, (refl, (refl, (refl, (refl, tt))))))))
