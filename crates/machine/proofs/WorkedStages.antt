-- Worked answers: each of the thirteen calls, SALE and WITHDRAW (document 02, C-12 and C-14) asked in each stage, by the column "stages" of document 01's table. "2. The stage
-- doesn't allow the call." Where the stage allows it, the answer is 0 or a later number. Assumes nothing.
use mathlib.Core.Path.{◌≡◌, refl}
use mathlib.Core.List.{List, [], ◌∷◌, ◌++◌, map}
use mathlib.Core.Option.{none}
use Prim.Native.Nat.{ℕ}
use Rattle.machine.specs.Run.{run_from}
use Rattle.machine.specs.Table.{letter_in}
use Rattle.machine.specs.Table as T
use Rattle.machine.specs.Computing.{computing}
use Rattle.machine.proofs.Examples.{answers_after, Example, ◌says◌, AllHold}
use Rattle.machine.proofs.CallBytes.{−◌, head, pool, member, round, bid, close, allocate, tear, call, pay, move, miss, finish, sale, withdraw}

-- the calls in the order of their tags; no number in them is out of range
abbrev every_call : List (List ℕ)
every_call =
    head 1 1 1 5 0 0 0 0
    ∷ pool 0 2 0
    ∷ member 0 2 2 0 0 0
    ∷ round (0 ∷ [])
    ∷ bid 0 0 1 0
    ∷ close
    ∷ allocate 0 (− 1)
    ∷ tear 0 0
    ∷ call
    ∷ pay 0 1
    ∷ move 0
    ∷ miss 0 0
    ∷ finish
    ∷ sale 0 0 0
    ∷ withdraw 0 0
    ∷ []

-- ROUND with one to five reserves
abbrev rounds : List (List ℕ)
rounds =
    round (0 ∷ [])
    ∷ round (0 ∷ 0 ∷ [])
    ∷ round (0 ∷ 0 ∷ 0 ∷ [])
    ∷ round (0 ∷ 0 ∷ 0 ∷ 0 ∷ [])
    ∷ round (0 ∷ 0 ∷ 0 ∷ 0 ∷ 0 ∷ [])
    ∷ []

-- ---- a list of calls to each stage: one pool of 2 units, member 0 with a contribution of 2 that expects 2 units, hedge loss 5

-- HEAD: "no case yet; makes S"
abbrev S : List (List ℕ)
S = head 1 1 1 5 0 0 0 0 ∷ []

-- ROUND: "S, A1; makes B"
abbrev B1 : List (List ℕ)
B1 = S ++ (pool 0 2 0 ∷ member 0 2 2 0 0 0 ∷ round (0 ∷ []) ∷ [])

-- CLOSE: "B; makes A"
abbrev A1 : List (List ℕ)
A1 = B1 ++ (close ∷ [])

abbrev B2 : List (List ℕ)
B2 = A1 ++ (round (0 ∷ []) ∷ [])

abbrev A2 : List (List ℕ)
A2 = B2 ++ (close ∷ [])

-- CALL: "A; makes C". Both units allocated at −1: requirement 5 + 2, prefunded 2, so 2 are called
abbrev C : List (List ℕ)
C = A2 ++ (allocate 0 (− 1) ∷ call ∷ [])

-- FINISH: "A, C; makes F"
abbrev F : List (List ℕ)
F = C ++ (pay 0 2 ∷ finish ∷ [])

-- every stage of the table of stages is reached
pub letters-reached :
    map (λ (calls : List (List ℕ)). letter_in (run_from none calls)) ([] ∷ S ∷ B1 ∷ B2 ∷ A1 ∷ A2 ∷ C ∷ F ∷ [])
    ≡ T.N ∷ T.S ∷ T.B1 ∷ T.B2 ∷ T.A1 ∷ T.A2 ∷ T.C ∷ T.F ∷ []
unfolding computing
letters-reached = refl

-- ---- the answers

abbrev pub stages : List Example
stages =
    -- no case: HEAD
    (answers_after [] every_call says 0 ∷ 2 ∷ 2 ∷ 2 ∷ 2 ∷ 2 ∷ 2 ∷ 2 ∷ 2 ∷ 2 ∷ 2 ∷ 2 ∷ 2 ∷ 2 ∷ 2 ∷ [])
    -- S: POOL, MEMBER, ROUND, which finds a pool and a member not given, and SALE, which finds no open unit
    ∷ (answers_after S every_call says 2 ∷ 0 ∷ 0 ∷ 10 ∷ 2 ∷ 2 ∷ 2 ∷ 2 ∷ 2 ∷ 2 ∷ 2 ∷ 2 ∷ 2 ∷ 8 ∷ 2 ∷ [])
    -- B of round 1: BID, CLOSE, and WITHDRAW, which finds no bid
    ∷ (answers_after B1 every_call says 2 ∷ 2 ∷ 2 ∷ 2 ∷ 0 ∷ 0 ∷ 2 ∷ 2 ∷ 2 ∷ 2 ∷ 2 ∷ 2 ∷ 2 ∷ 2 ∷ 18 ∷ [])
    -- A of round 1: ROUND, ALLOCATE, TEAR; CALL and FINISH find an open unit, MISS no unit of the member
    ∷ (answers_after A1 every_call says 2 ∷ 2 ∷ 2 ∷ 0 ∷ 2 ∷ 2 ∷ 0 ∷ 0 ∷ 11 ∷ 2 ∷ 2 ∷ 16 ∷ 11 ∷ 2 ∷ 2 ∷ [])
    -- B of round 2
    ∷ (answers_after B2 every_call says 2 ∷ 2 ∷ 2 ∷ 2 ∷ 0 ∷ 0 ∷ 2 ∷ 2 ∷ 2 ∷ 2 ∷ 2 ∷ 2 ∷ 2 ∷ 2 ∷ 18 ∷ [])
    -- A of round 2: the same without ROUND
    ∷ (answers_after A2 every_call says 2 ∷ 2 ∷ 2 ∷ 2 ∷ 2 ∷ 2 ∷ 0 ∷ 0 ∷ 11 ∷ 2 ∷ 2 ∷ 16 ∷ 11 ∷ 2 ∷ 2 ∷ [])
    -- C: PAY, MOVE, MISS; FINISH finds a member who owes
    ∷ (answers_after C every_call says 2 ∷ 2 ∷ 2 ∷ 2 ∷ 2 ∷ 2 ∷ 2 ∷ 2 ∷ 2 ∷ 0 ∷ 0 ∷ 0 ∷ 15 ∷ 2 ∷ 2 ∷ [])
    -- F: none
    ∷ (answers_after F every_call says 2 ∷ 2 ∷ 2 ∷ 2 ∷ 2 ∷ 2 ∷ 2 ∷ 2 ∷ 2 ∷ 2 ∷ 2 ∷ 2 ∷ 2 ∷ 2 ∷ 2 ∷ [])
    -- CALL and FINISH with nothing open: in either round's A the one or the other is accepted. Torn at 0 the requirement is 5, at 2 it is 1; prefunded 2
    ∷ (answers_after (A1 ++ (tear 0 0 ∷ [])) (call ∷ finish ∷ []) says 0 ∷ 13 ∷ [])
    ∷ (answers_after (A1 ++ (tear 0 2 ∷ [])) (call ∷ finish ∷ []) says 12 ∷ 0 ∷ [])
    ∷ (answers_after (A2 ++ (tear 0 0 ∷ [])) (call ∷ finish ∷ []) says 0 ∷ 13 ∷ [])
    ∷ (answers_after (A2 ++ (tear 0 2 ∷ [])) (call ∷ finish ∷ []) says 12 ∷ 0 ∷ [])
    -- "(ROUND: 4 × pools; with no case 4, 8, 12 or 16)": with no case, then with one pool in S and in F
    ∷ (answers_after [] rounds says 2 ∷ 2 ∷ 2 ∷ 2 ∷ 1 ∷ [])
    ∷ (answers_after S rounds says 10 ∷ 1 ∷ 1 ∷ 1 ∷ 1 ∷ [])
    ∷ (answers_after F rounds says 2 ∷ 1 ∷ 1 ∷ 1 ∷ 1 ∷ [])
    ∷ []

pub stages-hold : AllHold stages
unfolding computing
stages-hold =
    (refl, (refl, (refl, (refl, (refl, (refl, (refl, (refl, (refl, (refl, (refl, (refl, (refl, (refl, (refl, tt)))))))))))))))
