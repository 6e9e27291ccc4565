-- Document 01, "Examples": K1 to K8 as one theorem over one list, and what the program `ledger` prints for the input named there.
-- Calls are given by their bytes. Assumes nothing.
use mathlib.Core.Path.{◌≡◌, refl}
use mathlib.Core.List.{List, [], ◌∷◌, ◌++◌, map}
use mathlib.Core.Option.{none}
use Prim.Native.Nat.{ℕ, ◌-◌, ◌*◌}
use Rattle.lists.specs.Lists.{sum}
use Rattle.splitting.specs.Split.{split}
use Rattle.auction.specs.Price.{zero_price}
use Rattle.auction.specs.Auction.{allot}
use Rattle.machine.specs.Roll.{prices}
use Rattle.machine.specs.State.{Case, the_case}
use Rattle.machine.specs.Requirement.{first_tranche, second_tranche, owes}
use Rattle.machine.specs.Machine.{step}
use Rattle.machine.specs.Run.{Observed, run, run_from, five_counts}
use Rattle.machine.specs.Printed.{printed}
use Rattle.machine.specs.Computing.{computing}

-- the answers to a list of calls
abbrev pub answers : List (List ℕ) → List ℕ
answers calls = map (λ (o : Observed). o.answer) (run calls)

-- the case after a list of calls
abbrev pub case_after : List (List ℕ) → Case
case_after calls = the_case (run_from none calls)

-- the answers to some calls after a list of calls, each asked by itself
abbrev pub answers_after : List (List ℕ) → List (List ℕ) → List ℕ
answers_after calls asked = map (λ (call : List ℕ). (step (run_from none calls) call).answer) asked

-- an example: what the definitions give, and what the paper says
pub record Example : Type 0 where
  pub gives : List ℕ
  pub said : List ℕ

infix 2 ◌says◌
abbrev pub ◌says◌ : List ℕ → List ℕ → Example
a says b = record { gives = a; said = b }

-- every example of a list holds
abbrev pub AllHold : List Example → Type 0
AllHold [] = Unit {0}
AllHold (e ∷ es) = (e.gives ≡ e.said) × AllHold es

-- ---- K1 to K8

-- K6: a hedge loss of 550 or 551 (its last byte is given), prefunded 500 + 20 + 10 + 20, the one unit torn up at 0; then a last call
abbrev k6 : ℕ → List ℕ → List (List ℕ)
k6 byte last =
    -- HEAD 1, 1, {0}, 550 or 551, 0, 500, 20, 10
    (1 ∷ 0 ∷ 27 ∷ 1 ∷ 0 ∷ 1 ∷ 0 ∷ 0 ∷ 0 ∷ 1 ∷ 0 ∷ 0 ∷ 2 ∷ byte ∷ 0 ∷ 0 ∷ 0 ∷ 0 ∷ 0 ∷ 0 ∷ 1 ∷ 244 ∷ 0 ∷ 0 ∷ 0 ∷ 20 ∷ 0 ∷ 0 ∷ 0 ∷ 10 ∷ [])
    -- POOL 0, 1, 0
    ∷ (2 ∷ 0 ∷ 4 ∷ 0 ∷ 0 ∷ 1 ∷ 0 ∷ [])
    -- MEMBER 0, 20, expects 0
    ∷ (3 ∷ 0 ∷ 13 ∷ 0 ∷ 0 ∷ 0 ∷ 0 ∷ 20 ∷ 0 ∷ 0 ∷ 0 ∷ 0 ∷ 0 ∷ 0 ∷ 0 ∷ 0 ∷ [])
    -- ROUND 0
    ∷ (4 ∷ 0 ∷ 4 ∷ 0 ∷ 0 ∷ 0 ∷ 0 ∷ [])
    -- CLOSE
    ∷ (6 ∷ 0 ∷ 0 ∷ [])
    -- TEAR 0, 0
    ∷ (8 ∷ 0 ∷ 5 ∷ 0 ∷ 0 ∷ 0 ∷ 0 ∷ 0 ∷ [])
    ∷ last
    ∷ []

abbrev call_out : List ℕ
call_out = 9 ∷ 0 ∷ 0 ∷ []

abbrev finish : List ℕ
finish = 13 ∷ 0 ∷ 0 ∷ []

-- K8: member 0 owes 25, and its bid of 3 units at −10 was sold
abbrev k8_owed : List (List ℕ)
k8_owed =
    -- HEAD 1, 1, {0}, 20, 0, 0, 0, 0
    (1 ∷ 0 ∷ 27 ∷ 1 ∷ 0 ∷ 1 ∷ 0 ∷ 0 ∷ 0 ∷ 1 ∷ 0 ∷ 0 ∷ 0 ∷ 20 ∷ 0 ∷ 0 ∷ 0 ∷ 0 ∷ 0 ∷ 0 ∷ 0 ∷ 0 ∷ 0 ∷ 0 ∷ 0 ∷ 0 ∷ 0 ∷ 0 ∷ 0 ∷ 0 ∷ [])
    -- POOL 0, 3, 0
    ∷ (2 ∷ 0 ∷ 4 ∷ 0 ∷ 0 ∷ 3 ∷ 0 ∷ [])
    -- MEMBER 0, 25, expects 3
    ∷ (3 ∷ 0 ∷ 13 ∷ 0 ∷ 0 ∷ 0 ∷ 0 ∷ 25 ∷ 0 ∷ 3 ∷ 0 ∷ 0 ∷ 0 ∷ 0 ∷ 0 ∷ 0 ∷ [])
    -- ROUND −10
    ∷ (4 ∷ 0 ∷ 4 ∷ 255 ∷ 255 ∷ 255 ∷ 246 ∷ [])
    -- BID 0, 0, 3 at −10
    ∷ (5 ∷ 0 ∷ 8 ∷ 0 ∷ 0 ∷ 0 ∷ 3 ∷ 255 ∷ 255 ∷ 255 ∷ 246 ∷ [])
    -- CLOSE
    ∷ (6 ∷ 0 ∷ 0 ∷ [])
    -- CALL: the requirement is 20 + 30, prefunded 25
    ∷ (9 ∷ 0 ∷ 0 ∷ [])
    ∷ []

-- and has a MOVE
abbrev k8 : List (List ℕ)
k8 = k8_owed ++ ((11 ∷ 0 ∷ 1 ∷ 0 ∷ []) ∷ [])

-- the prices held after a list of calls, added up
abbrev prices_after : List (List ℕ) → ℕ
prices_after calls = sum (prices (case_after calls).bids (case_after calls).roll)

abbrev pub examples : List Example
examples =
    -- K1 split 6 by 5, 3: 4, 2. K2 split 1 by 1, 1, 1: 1, 0, 0. K3 split 2 by 0, 0: 0, 0.
    (split 6 (5 ∷ 3 ∷ []) says 4 ∷ 2 ∷ [])
    ∷ (split 1 (1 ∷ 1 ∷ 1 ∷ []) says 1 ∷ 0 ∷ 0 ∷ [])
    ∷ (split 2 (0 ∷ 0 ∷ []) says 0 ∷ 0 ∷ [])
    -- K4 reserve −30: a bid at −30 is valid, at −31 not.
    ∷ (allot 10 (zero_price - 30) (4 ∷ 4 ∷ []) ((zero_price - 30) ∷ (zero_price - 31) ∷ []) says 4 ∷ 0 ∷ [])
    -- K5 bids of 4 and 6 at one price, 10 open: all won.
    ∷ (allot 10 0 (4 ∷ 6 ∷ []) (zero_price ∷ zero_price ∷ []) says 4 ∷ 6 ∷ [])
    -- K6 prefunded 550: requirement 550 may FINISH, 551 must CALL.
    ∷ (answers (k6 38 finish) says 0 ∷ 0 ∷ 0 ∷ 0 ∷ 0 ∷ 0 ∷ 0 ∷ [])
    ∷ (answers (k6 38 call_out) says 0 ∷ 0 ∷ 0 ∷ 0 ∷ 0 ∷ 0 ∷ 12 ∷ [])
    ∷ (answers (k6 39 finish) says 0 ∷ 0 ∷ 0 ∷ 0 ∷ 0 ∷ 0 ∷ 13 ∷ [])
    ∷ (answers (k6 39 call_out) says 0 ∷ 0 ∷ 0 ∷ 0 ∷ 0 ∷ 0 ∷ 0 ∷ [])
    -- K7 house money 1: tranches 0 and 1.
    ∷ (first_tranche 1 ∷ second_tranche 1 ∷ [] says 0 ∷ 1 ∷ [])
    -- K8 owed 25, one bid of 3 units at −10: 3 moved, 30 saved (the prices held are those of 3 units at 0, and were those of 3 at −10).
    ∷ (owes (case_after k8_owed).members 0 ∷ [] says 25 ∷ [])
    ∷ (answers k8 says 0 ∷ 0 ∷ 0 ∷ 0 ∷ 0 ∷ 0 ∷ 0 ∷ 0 ∷ [])
    ∷ (five_counts (case_after k8).roll 0 says 0 ∷ 0 ∷ 0 ∷ 3 ∷ 0 ∷ [])
    ∷ (prices_after k8_owed ∷ prices_after k8 ∷ [] says 3 * (zero_price - 10) ∷ 3 * zero_price ∷ [])
    ∷ ((prices_after k8 - prices_after k8_owed) ∷ [] says 30 ∷ [])
    ∷ []

-- K1 to K8, the one theorem
pub examples-hold : AllHold examples
unfolding computing
examples-hold =
    (refl, (refl, (refl, (refl, (refl, (refl, (refl, (refl, (refl, (refl, (refl, (refl, (refl, (refl, (refl, tt)))))))))))))))

-- ---- the program `ledger`

abbrev pub input : List ℕ
input =
    -- HEAD 1, 1, {0,1,2}, 0, 0, 20, 10, 50
    1 ∷ 0 ∷ 27 ∷ 1 ∷ 0 ∷ 1 ∷ 0 ∷ 0 ∷ 0 ∷ 7 ∷ 0 ∷ 0 ∷ 0 ∷ 0 ∷ 0 ∷ 0 ∷ 0 ∷ 0 ∷ 0 ∷ 0 ∷ 0 ∷ 20 ∷ 0 ∷ 0 ∷ 0 ∷ 10 ∷ 0 ∷ 0 ∷ 0 ∷ 50 ∷
    -- POOL 0, 10, 0
    2 ∷ 0 ∷ 4 ∷ 0 ∷ 0 ∷ 10 ∷ 0 ∷
    -- MEMBER 0, 100, expects 4
    3 ∷ 0 ∷ 13 ∷ 0 ∷ 0 ∷ 0 ∷ 0 ∷ 100 ∷ 0 ∷ 4 ∷ 0 ∷ 0 ∷ 0 ∷ 0 ∷ 0 ∷ 0 ∷
    -- MEMBER 1, 100, 3
    3 ∷ 0 ∷ 13 ∷ 1 ∷ 0 ∷ 0 ∷ 0 ∷ 100 ∷ 0 ∷ 3 ∷ 0 ∷ 0 ∷ 0 ∷ 0 ∷ 0 ∷ 0 ∷
    -- MEMBER 2, 60, 3
    3 ∷ 0 ∷ 13 ∷ 2 ∷ 0 ∷ 0 ∷ 0 ∷ 60 ∷ 0 ∷ 3 ∷ 0 ∷ 0 ∷ 0 ∷ 0 ∷ 0 ∷ 0 ∷
    -- ROUND −30
    4 ∷ 0 ∷ 4 ∷ 255 ∷ 255 ∷ 255 ∷ 226 ∷
    -- BID pool 0, member 0, 4 at −10
    5 ∷ 0 ∷ 8 ∷ 0 ∷ 0 ∷ 0 ∷ 4 ∷ 255 ∷ 255 ∷ 255 ∷ 246 ∷
    -- BID 0, 1, 5 at −20
    5 ∷ 0 ∷ 8 ∷ 0 ∷ 1 ∷ 0 ∷ 5 ∷ 255 ∷ 255 ∷ 255 ∷ 236 ∷
    -- BID 0, 2, 3 at −20
    5 ∷ 0 ∷ 8 ∷ 0 ∷ 2 ∷ 0 ∷ 3 ∷ 255 ∷ 255 ∷ 255 ∷ 236 ∷
    -- BID 0, 2, 5 at −40
    5 ∷ 0 ∷ 8 ∷ 0 ∷ 2 ∷ 0 ∷ 5 ∷ 255 ∷ 255 ∷ 255 ∷ 216 ∷
    -- CLOSE
    6 ∷ 0 ∷ 0 ∷
    -- FINISH
    13 ∷ 0 ∷ 0 ∷
    []

abbrev pub output : List ℕ
output =
    -- s 1 0
    115 ∷ 32 ∷ 49 ∷ 32 ∷ 48 ∷ 10 ∷
    -- s 2 0
    115 ∷ 32 ∷ 50 ∷ 32 ∷ 48 ∷ 10 ∷
    -- s 3 0
    115 ∷ 32 ∷ 51 ∷ 32 ∷ 48 ∷ 10 ∷
    -- s 3 0
    115 ∷ 32 ∷ 51 ∷ 32 ∷ 48 ∷ 10 ∷
    -- s 3 0
    115 ∷ 32 ∷ 51 ∷ 32 ∷ 48 ∷ 10 ∷
    -- s 4 0
    115 ∷ 32 ∷ 52 ∷ 32 ∷ 48 ∷ 10 ∷
    -- s 5 0
    115 ∷ 32 ∷ 53 ∷ 32 ∷ 48 ∷ 10 ∷
    -- s 5 0
    115 ∷ 32 ∷ 53 ∷ 32 ∷ 48 ∷ 10 ∷
    -- s 5 0
    115 ∷ 32 ∷ 53 ∷ 32 ∷ 48 ∷ 10 ∷
    -- s 5 0
    115 ∷ 32 ∷ 53 ∷ 32 ∷ 48 ∷ 10 ∷
    -- s 6 0
    115 ∷ 32 ∷ 54 ∷ 32 ∷ 48 ∷ 10 ∷
    -- s 13 0
    115 ∷ 32 ∷ 49 ∷ 51 ∷ 32 ∷ 48 ∷ 10 ∷
    -- p 0 0 10 0 0 0
    112 ∷ 32 ∷ 48 ∷ 32 ∷ 48 ∷ 32 ∷ 49 ∷ 48 ∷ 32 ∷ 48 ∷ 32 ∷ 48 ∷ 32 ∷ 48 ∷ 10 ∷
    -- l 160 20 10 30 100 0 0 0
    108 ∷ 32 ∷ 49 ∷ 54 ∷ 48 ∷ 32 ∷ 50 ∷ 48 ∷ 32 ∷ 49 ∷ 48 ∷ 32 ∷ 51 ∷ 48 ∷ 32 ∷ 49 ∷ 48 ∷ 48 ∷ 32 ∷ 48 ∷ 32 ∷ 48 ∷ 32 ∷ 48 ∷ 10 ∷
    -- m 0 2 40 0
    109 ∷ 32 ∷ 48 ∷ 32 ∷ 50 ∷ 32 ∷ 52 ∷ 48 ∷ 32 ∷ 48 ∷ 10 ∷
    -- m 1 1 0 0
    109 ∷ 32 ∷ 49 ∷ 32 ∷ 49 ∷ 32 ∷ 48 ∷ 32 ∷ 48 ∷ 10 ∷
    -- m 2 3 60 0
    109 ∷ 32 ∷ 50 ∷ 32 ∷ 51 ∷ 32 ∷ 54 ∷ 48 ∷ 32 ∷ 48 ∷ 10 ∷
    []

-- from the bytes of the input to the printed text
pub ledger-prints : printed input ≡ output
unfolding computing
ledger-prints = refl
