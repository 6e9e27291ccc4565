-- Worked lists of calls, with results worked out by hand from document 01: beside each call what follows from it, above each result how its
-- figures come about. One theorem, `worked-hold`, says that the machine gives them. Assumes nothing.
use mathlib.Core.Path.{◌≡◌, refl}
use mathlib.Core.List.{List, [], ◌∷◌, ◌++◌, map}
use mathlib.Core.Option.{none}
use Prim.Native.Nat.{ℕ, ◌-◌}
use lib.IntN.{neg_ℤ, pos}
use Rattle.auction.specs.Price.{zero_price}
use Rattle.machine.specs.Run.{run_from, holding, sum_of_prices}
use Rattle.machine.specs.Printed.{Line, end_lines, printed}
use Rattle.machine.specs.Computing.{computing}
use Rattle.machine.proofs.Examples.{answers, case_after, AllHold, ◌says◌}

-- the letters of the lines
abbrev pub p : ℕ
p = 112

abbrev pub l : ℕ
l = 108

abbrev pub m : ℕ
m = 109

-- what is seen of a list of calls: the answers, and the lines of the end
abbrev pub shown : List (List ℕ) → List (List ℕ)
shown calls = answers calls ∷ map (λ (x : Line). x.letter ∷ x.numbers) (end_lines (run_from none calls))

-- a list of calls, and what is to be seen of it
pub record Worked : Type 0 where
  pub calls : List (List ℕ)
  pub shows : List (List ℕ)

abbrev pub AllShow : List Worked → Type 0
AllShow [] = Unit {0}
AllShow (x ∷ xs) = (shown x.calls ≡ x.shows) × AllShow xs

-- A second round. Pool 0 is sold out at the second ROUND, so that its second reserve does not count; a bid of round 1 that won nothing is dead in
-- round 2; the least bid is not waived; a bid may be larger than what is open.
abbrev pub second_round : Worked
second_round =
    record {
      calls =
          -- HEAD 2, 3, {0,1}, 0, 0, 20, 10, 10
          (1 ∷ 0 ∷ 27 ∷ 2 ∷ 0 ∷ 3 ∷ 0 ∷ 0 ∷ 0 ∷ 3 ∷ 0 ∷ 0 ∷ 0 ∷ 0 ∷ 0 ∷ 0 ∷ 0 ∷ 0 ∷ 0 ∷ 0 ∷ 0 ∷ 20 ∷ 0 ∷ 0 ∷ 0 ∷ 10 ∷ 0 ∷ 0 ∷ 0 ∷ 10 ∷ [])
          -- POOL 0, 4, 0
          ∷ (2 ∷ 0 ∷ 4 ∷ 0 ∷ 0 ∷ 4 ∷ 0 ∷ [])
          -- POOL 1, 5, 0
          ∷ (2 ∷ 0 ∷ 4 ∷ 1 ∷ 0 ∷ 5 ∷ 0 ∷ [])
          -- MEMBER 0, 60, expects 3, 2
          ∷ (3 ∷ 0 ∷ 13 ∷ 0 ∷ 0 ∷ 0 ∷ 0 ∷ 60 ∷ 0 ∷ 3 ∷ 0 ∷ 2 ∷ 0 ∷ 0 ∷ 0 ∷ 0 ∷ [])
          -- MEMBER 1, 100, expects 0, 2
          ∷ (3 ∷ 0 ∷ 13 ∷ 1 ∷ 0 ∷ 0 ∷ 0 ∷ 100 ∷ 0 ∷ 0 ∷ 0 ∷ 2 ∷ 0 ∷ 0 ∷ 0 ∷ 0 ∷ [])
          -- ROUND −10, −20
          ∷ (4 ∷ 0 ∷ 8 ∷ 255 ∷ 255 ∷ 255 ∷ 246 ∷ 255 ∷ 255 ∷ 255 ∷ 236 ∷ [])
          -- BID 0, 0, 4 at −5: bid 0
          ∷ (5 ∷ 0 ∷ 8 ∷ 0 ∷ 0 ∷ 0 ∷ 4 ∷ 255 ∷ 255 ∷ 255 ∷ 251 ∷ [])
          -- BID 1, 1, 3 at −19: bid 1
          ∷ (5 ∷ 0 ∷ 8 ∷ 1 ∷ 1 ∷ 0 ∷ 3 ∷ 255 ∷ 255 ∷ 255 ∷ 237 ∷ [])
          -- BID 1, 1, 5 at −25: bid 2, below the reserve: accepted, and not valid
          ∷ (5 ∷ 0 ∷ 8 ∷ 1 ∷ 1 ∷ 0 ∷ 5 ∷ 255 ∷ 255 ∷ 255 ∷ 231 ∷ [])
          -- CLOSE: bid 0 wins 4 of 4, bid 1 wins 3 of 5, bid 2 none; 2 are left open in pool 1
          ∷ (6 ∷ 0 ∷ 0 ∷ [])
          -- BID 1, 0, 3 at 0: declined by 2: the stage is A
          ∷ (5 ∷ 0 ∷ 8 ∷ 1 ∷ 0 ∷ 0 ∷ 3 ∷ 0 ∷ 0 ∷ 0 ∷ 0 ∷ [])
          -- ROUND −50, −30: pool 0 has no open unit, its −50 does not count
          ∷ (4 ∷ 0 ∷ 8 ∷ 255 ∷ 255 ∷ 255 ∷ 206 ∷ 255 ∷ 255 ∷ 255 ∷ 226 ∷ [])
          -- BID 0, 0, 3 at 0: declined by 8
          ∷ (5 ∷ 0 ∷ 8 ∷ 0 ∷ 0 ∷ 0 ∷ 3 ∷ 0 ∷ 0 ∷ 0 ∷ 0 ∷ [])
          -- BID 1, 0, 2 at 0: declined by 6, though only 2 units are open
          ∷ (5 ∷ 0 ∷ 8 ∷ 1 ∷ 0 ∷ 0 ∷ 2 ∷ 0 ∷ 0 ∷ 0 ∷ 0 ∷ [])
          -- BID 1, 0, 5 at −28: bid 3: valid, and larger than the 2 open units
          ∷ (5 ∷ 0 ∷ 8 ∷ 1 ∷ 0 ∷ 0 ∷ 5 ∷ 255 ∷ 255 ∷ 255 ∷ 228 ∷ [])
          -- CLOSE: bid 3 wins 2 of 5
          ∷ (6 ∷ 0 ∷ 0 ∷ [])
          -- ROUND −30, −30: declined by 2: A of round 2
          ∷ (4 ∷ 0 ∷ 8 ∷ 255 ∷ 255 ∷ 255 ∷ 226 ∷ 255 ∷ 255 ∷ 255 ∷ 226 ∷ [])
          -- FINISH
          ∷ (13 ∷ 0 ∷ 0 ∷ [])
          ∷ [];
      -- loss 4 × 5 + 3 × 19 + 2 × 28 = 133. Layers: margin 20, fund 10, first tranche 3 × 10 / 5 = 6, so contributions bear 97.
      -- Worst reserves −10 and −30. Member 0: D = 4 × 5 + 2 × 2 = 24, W = 6, excess 6 − 5 = 1, so ΔP × excess = 4. Member 1: D = 3 × 11 = 33, W = 3,
      -- excess 1: 11. Member 1 is senior; the junior member 0 bears its whole 60, member 1 the other 37.
      shows =
          (0 ∷ 0 ∷ 0 ∷ 0 ∷ 0 ∷ 0 ∷ 0 ∷ 0 ∷ 0 ∷ 0 ∷ 2 ∷ 0 ∷ 8 ∷ 6 ∷ 0 ∷ 0 ∷ 2 ∷ 0 ∷ [])
          ∷ (p ∷ 0 ∷ 0 ∷ 4 ∷ 0 ∷ 0 ∷ 0 ∷ [])
          ∷ (p ∷ 1 ∷ 0 ∷ 5 ∷ 0 ∷ 0 ∷ 0 ∷ [])
          ∷ (l ∷ 133 ∷ 20 ∷ 10 ∷ 6 ∷ 97 ∷ 0 ∷ 0 ∷ 0 ∷ [])
          ∷ (m ∷ 0 ∷ 2 ∷ 60 ∷ 0 ∷ [])
          ∷ (m ∷ 1 ∷ 1 ∷ 37 ∷ 0 ∷ [])
          ∷ [];
    }

-- ALLOCATE by shortfall, a pool with mark 1, MISS in A, units ever allocated, a CALL paid in parts.
abbrev pub shortfalls : Worked
shortfalls =
    record {
      calls =
          -- HEAD 3, 1, {0,2,5}, 100, 20, 30, 0, 0
          (1 ∷ 0 ∷ 27 ∷ 3 ∷ 0 ∷ 1 ∷ 0 ∷ 0 ∷ 0 ∷ 37 ∷ 0 ∷ 0 ∷ 0 ∷ 100 ∷ 0 ∷ 0 ∷ 0 ∷ 20 ∷ 0 ∷ 0 ∷ 0 ∷ 30 ∷ 0 ∷ 0 ∷ 0 ∷ 0 ∷ 0 ∷ 0 ∷ 0 ∷ 0 ∷ [])
          -- POOL 0, 7, 0
          ∷ (2 ∷ 0 ∷ 4 ∷ 0 ∷ 0 ∷ 7 ∷ 0 ∷ [])
          -- POOL 1, 2, 1
          ∷ (2 ∷ 0 ∷ 4 ∷ 1 ∷ 0 ∷ 2 ∷ 1 ∷ [])
          -- POOL 2, 5, 0
          ∷ (2 ∷ 0 ∷ 4 ∷ 2 ∷ 0 ∷ 5 ∷ 0 ∷ [])
          -- MEMBER 0, 40, expects 5, 1, 0
          ∷ (3 ∷ 0 ∷ 13 ∷ 0 ∷ 0 ∷ 0 ∷ 0 ∷ 40 ∷ 0 ∷ 5 ∷ 0 ∷ 1 ∷ 0 ∷ 0 ∷ 0 ∷ 0 ∷ [])
          -- MEMBER 2, 30, expects 2, 0, 0
          ∷ (3 ∷ 0 ∷ 13 ∷ 2 ∷ 0 ∷ 0 ∷ 0 ∷ 30 ∷ 0 ∷ 2 ∷ 0 ∷ 0 ∷ 0 ∷ 0 ∷ 0 ∷ 0 ∷ [])
          -- MEMBER 5, 30, expects 1, 0, 1
          ∷ (3 ∷ 0 ∷ 13 ∷ 5 ∷ 0 ∷ 0 ∷ 0 ∷ 30 ∷ 0 ∷ 1 ∷ 0 ∷ 0 ∷ 0 ∷ 1 ∷ 0 ∷ 0 ∷ [])
          -- ROUND 0, 0, 0
          ∷ (4 ∷ 0 ∷ 12 ∷ 0 ∷ 0 ∷ 0 ∷ 0 ∷ 0 ∷ 0 ∷ 0 ∷ 0 ∷ 0 ∷ 0 ∷ 0 ∷ 0 ∷ [])
          -- BID 0, 2, 3 at 5
          ∷ (5 ∷ 0 ∷ 8 ∷ 0 ∷ 2 ∷ 0 ∷ 3 ∷ 0 ∷ 0 ∷ 0 ∷ 5 ∷ [])
          -- BID 2, 2, 1 at 3
          ∷ (5 ∷ 0 ∷ 8 ∷ 2 ∷ 2 ∷ 0 ∷ 1 ∷ 0 ∷ 0 ∷ 0 ∷ 3 ∷ [])
          -- CLOSE: both win all; open are 4, 2 and 4
          ∷ (6 ∷ 0 ∷ 0 ∷ [])
          -- ALLOCATE 3, 0: declined by 3
          ∷ (7 ∷ 0 ∷ 5 ∷ 3 ∷ 0 ∷ 0 ∷ 0 ∷ 0 ∷ [])
          -- ALLOCATE 0, 1000001: declined by 5
          ∷ (7 ∷ 0 ∷ 5 ∷ 0 ∷ 0 ∷ 15 ∷ 66 ∷ 65 ∷ [])
          -- ALLOCATE 0, −7: shortfalls 5, 0 (2 − 3, at least 0) and 1; 4 split by 5, 0, 1 is 3, 0, 1: 3 1/3 and 2/3, the larger remainder is member 5's
          ∷ (7 ∷ 0 ∷ 5 ∷ 0 ∷ 255 ∷ 255 ∷ 255 ∷ 249 ∷ [])
          -- ALLOCATE 0, −7: declined by 8
          ∷ (7 ∷ 0 ∷ 5 ∷ 0 ∷ 255 ∷ 255 ∷ 255 ∷ 249 ∷ [])
          -- ALLOCATE 1, −4: declined by 9
          ∷ (7 ∷ 0 ∷ 5 ∷ 1 ∷ 255 ∷ 255 ∷ 255 ∷ 252 ∷ [])
          -- TEAR 1, −4: two torn
          ∷ (8 ∷ 0 ∷ 5 ∷ 1 ∷ 255 ∷ 255 ∷ 255 ∷ 252 ∷ [])
          -- ALLOCATE 1, −4: declined by 8, which comes before 9
          ∷ (7 ∷ 0 ∷ 5 ∷ 1 ∷ 255 ∷ 255 ∷ 255 ∷ 252 ∷ [])
          -- ALLOCATE 2, −2: only member 5 is short, by 1, member 2's unit beyond its 0 expected takes nothing away; 3 stay open
          ∷ (7 ∷ 0 ∷ 5 ∷ 2 ∷ 255 ∷ 255 ∷ 255 ∷ 254 ∷ [])
          -- MISS 5, −9: its two units, of pools 0 and 2, are torn
          ∷ (12 ∷ 0 ∷ 5 ∷ 5 ∷ 255 ∷ 255 ∷ 255 ∷ 247 ∷ [])
          -- ALLOCATE 2, −2: declined by 10: one unit was ever allocated to member 5
          ∷ (7 ∷ 0 ∷ 5 ∷ 2 ∷ 255 ∷ 255 ∷ 255 ∷ 254 ∷ [])
          -- MISS 5, −9: declined by 16
          ∷ (12 ∷ 0 ∷ 5 ∷ 5 ∷ 255 ∷ 255 ∷ 255 ∷ 247 ∷ [])
          -- MISS 2, −9: declined by 16: its units were sold to it
          ∷ (12 ∷ 0 ∷ 5 ∷ 2 ∷ 255 ∷ 255 ∷ 255 ∷ 247 ∷ [])
          -- FINISH: declined by 11
          ∷ (13 ∷ 0 ∷ 0 ∷ [])
          -- CALL: declined by 11
          ∷ (9 ∷ 0 ∷ 0 ∷ [])
          -- TEAR 2, −1: three torn
          ∷ (8 ∷ 0 ∷ 5 ∷ 2 ∷ 255 ∷ 255 ∷ 255 ∷ 255 ∷ [])
          -- FINISH: declined by 13
          ∷ (13 ∷ 0 ∷ 0 ∷ [])
          -- CALL: 22 split by 40, 30, 30: 8.8, 6.6, 6.6, so 9, 7, 6
          ∷ (9 ∷ 0 ∷ 0 ∷ [])
          -- FINISH: declined by 15
          ∷ (13 ∷ 0 ∷ 0 ∷ [])
          -- PAY 0, 10: declined by 14
          ∷ (10 ∷ 0 ∷ 5 ∷ 0 ∷ 0 ∷ 0 ∷ 0 ∷ 10 ∷ [])
          -- PAY 0, 4
          ∷ (10 ∷ 0 ∷ 5 ∷ 0 ∷ 0 ∷ 0 ∷ 0 ∷ 4 ∷ [])
          -- PAY 0, 6: declined by 14: 5 are owed
          ∷ (10 ∷ 0 ∷ 5 ∷ 0 ∷ 0 ∷ 0 ∷ 0 ∷ 6 ∷ [])
          -- PAY 0, 5
          ∷ (10 ∷ 0 ∷ 5 ∷ 0 ∷ 0 ∷ 0 ∷ 0 ∷ 5 ∷ [])
          -- PAY 2, 7
          ∷ (10 ∷ 0 ∷ 5 ∷ 2 ∷ 0 ∷ 0 ∷ 0 ∷ 7 ∷ [])
          -- PAY 5, 6
          ∷ (10 ∷ 0 ∷ 5 ∷ 5 ∷ 0 ∷ 0 ∷ 0 ∷ 6 ∷ [])
          -- FINISH
          ∷ (13 ∷ 0 ∷ 0 ∷ [])
          ∷ [];
      -- prices 3 × 5 + 3 − 3 × 7 − 2 × 4 − 2 × 9 − 3 × 1 = −32, loss 120 + 32 = 152, prefunded 30 + 100.
      -- Member 2 won 4 of 2 expected and stands in A. Members 0 and 5 won nothing: B, deficits 6 and 2, the lower is senior.
      shows =
          (0 ∷ 0 ∷ 0 ∷ 0 ∷ 0 ∷ 0 ∷ 0 ∷ 0 ∷ 0 ∷ 0 ∷ 0 ∷ 3 ∷ 5 ∷ 0 ∷ 8 ∷ 9 ∷ 0 ∷ 8 ∷ 0 ∷ 0 ∷ 10 ∷ 16 ∷ 16 ∷ 11 ∷ 11 ∷ 0 ∷ 13 ∷ 0 ∷ 15 ∷ 14 ∷ 0 ∷ 14 ∷ 0 ∷ 0 ∷ 0 ∷ 0 ∷ [])
          ∷ (p ∷ 0 ∷ 0 ∷ 3 ∷ 3 ∷ 0 ∷ 1 ∷ [])
          ∷ (p ∷ 1 ∷ 0 ∷ 0 ∷ 0 ∷ 0 ∷ 2 ∷ [])
          ∷ (p ∷ 2 ∷ 0 ∷ 1 ∷ 0 ∷ 0 ∷ 4 ∷ [])
          ∷ (l ∷ 152 ∷ 30 ∷ 0 ∷ 0 ∷ 100 ∷ 0 ∷ 22 ∷ 0 ∷ [])
          ∷ (m ∷ 0 ∷ 3 ∷ 40 ∷ 9 ∷ [])
          ∷ (m ∷ 2 ∷ 1 ∷ 30 ∷ 7 ∷ [])
          ∷ (m ∷ 5 ∷ 2 ∷ 30 ∷ 6 ∷ [])
          ∷ [];
    }

-- MOVE. Of the allocated units, all at −5, the higher pool goes first, then the higher member; of the sold ones the lowest price, then the later bid.
abbrev pub moves : Worked
moves =
    record {
      calls =
          -- HEAD 2, 1, {0,1,3}, 65, 0, 0, 0, 0
          (1 ∷ 0 ∷ 27 ∷ 2 ∷ 0 ∷ 1 ∷ 0 ∷ 0 ∷ 0 ∷ 11 ∷ 0 ∷ 0 ∷ 0 ∷ 65 ∷ 0 ∷ 0 ∷ 0 ∷ 0 ∷ 0 ∷ 0 ∷ 0 ∷ 0 ∷ 0 ∷ 0 ∷ 0 ∷ 0 ∷ 0 ∷ 0 ∷ 0 ∷ 0 ∷ [])
          -- POOL 0, 6, 0
          ∷ (2 ∷ 0 ∷ 4 ∷ 0 ∷ 0 ∷ 6 ∷ 0 ∷ [])
          -- POOL 1, 4, 0
          ∷ (2 ∷ 0 ∷ 4 ∷ 1 ∷ 0 ∷ 4 ∷ 0 ∷ [])
          -- MEMBER 0, 60, expects 3, 1
          ∷ (3 ∷ 0 ∷ 13 ∷ 0 ∷ 0 ∷ 0 ∷ 0 ∷ 60 ∷ 0 ∷ 3 ∷ 0 ∷ 1 ∷ 0 ∷ 0 ∷ 0 ∷ 0 ∷ [])
          -- MEMBER 1, 20, expects 3, 1
          ∷ (3 ∷ 0 ∷ 13 ∷ 1 ∷ 0 ∷ 0 ∷ 0 ∷ 20 ∷ 0 ∷ 3 ∷ 0 ∷ 1 ∷ 0 ∷ 0 ∷ 0 ∷ 0 ∷ [])
          -- MEMBER 3, 10, expects 0, 0
          ∷ (3 ∷ 0 ∷ 13 ∷ 3 ∷ 0 ∷ 0 ∷ 0 ∷ 10 ∷ 0 ∷ 0 ∷ 0 ∷ 0 ∷ 0 ∷ 0 ∷ 0 ∷ 0 ∷ [])
          -- ROUND −10, −10
          ∷ (4 ∷ 0 ∷ 8 ∷ 255 ∷ 255 ∷ 255 ∷ 246 ∷ 255 ∷ 255 ∷ 255 ∷ 246 ∷ [])
          -- BID 1, 3, 2 at −8: bid 0
          ∷ (5 ∷ 0 ∷ 8 ∷ 1 ∷ 3 ∷ 0 ∷ 2 ∷ 255 ∷ 255 ∷ 255 ∷ 248 ∷ [])
          -- BID 0, 0, 2 at −8: bid 1
          ∷ (5 ∷ 0 ∷ 8 ∷ 0 ∷ 0 ∷ 0 ∷ 2 ∷ 255 ∷ 255 ∷ 255 ∷ 248 ∷ [])
          -- BID 0, 1, 2 at −9: bid 2
          ∷ (5 ∷ 0 ∷ 8 ∷ 0 ∷ 1 ∷ 0 ∷ 2 ∷ 255 ∷ 255 ∷ 255 ∷ 247 ∷ [])
          -- CLOSE
          ∷ (6 ∷ 0 ∷ 0 ∷ [])
          -- ALLOCATE 0, −5: one each to members 0 and 1
          ∷ (7 ∷ 0 ∷ 5 ∷ 0 ∷ 255 ∷ 255 ∷ 255 ∷ 251 ∷ [])
          -- ALLOCATE 1, −5: one each to members 0 and 1
          ∷ (7 ∷ 0 ∷ 5 ∷ 1 ∷ 255 ∷ 255 ∷ 255 ∷ 251 ∷ [])
          -- CALL: the requirement is 65 + 4 × 5 + 4 × 8 + 2 × 9 = 135, prefunded 90; 45 split by 60, 20, 10 is 30, 10, 5
          ∷ (9 ∷ 0 ∷ 0 ∷ [])
          -- MOVE 3: owes 5: the unit of pool 1 allocated to member 1 saves 5
          ∷ (11 ∷ 0 ∷ 1 ∷ 3 ∷ [])
          ∷ [];
      -- one unit of pool 1 has moved
      shows =
          (0 ∷ 0 ∷ 0 ∷ 0 ∷ 0 ∷ 0 ∷ 0 ∷ 0 ∷ 0 ∷ 0 ∷ 0 ∷ 0 ∷ 0 ∷ 0 ∷ 0 ∷ [])
          ∷ (p ∷ 0 ∷ 0 ∷ 4 ∷ 2 ∷ 0 ∷ 0 ∷ [])
          ∷ (p ∷ 1 ∷ 0 ∷ 2 ∷ 1 ∷ 1 ∷ 0 ∷ [])
          ∷ [];
    }

-- The same, and on until FINISH: a member's own units count, MISS after MOVE, a second MOVE.
abbrev pub moves_done : Worked
moves_done =
    record {
      calls =
          moves.calls ++
          -- PAY 1, 4: 6 are still owed
          ((10 ∷ 0 ∷ 5 ∷ 1 ∷ 0 ∷ 0 ∷ 0 ∷ 4 ∷ [])
          -- MOVE 1: the unit of pool 1 allocated to member 0, then its own of pool 0: 10 saved
          ∷ (11 ∷ 0 ∷ 1 ∷ 1 ∷ [])
          -- MOVE 0: owes 30: its own allocated unit of pool 0 (5), the two of bid 2 (23), one of bid 1 (31); bid 0 is earlier and stays
          ∷ (11 ∷ 0 ∷ 1 ∷ 0 ∷ [])
          -- MOVE 0: declined by 14: it owes 0 after MOVE
          ∷ (11 ∷ 0 ∷ 1 ∷ 0 ∷ [])
          -- MISS 3, −3: the unit that moved to it is torn, those sold to it are not
          ∷ (12 ∷ 0 ∷ 5 ∷ 3 ∷ 255 ∷ 255 ∷ 255 ∷ 253 ∷ [])
          -- PAY 3, 1: declined by 14
          ∷ (10 ∷ 0 ∷ 5 ∷ 3 ∷ 0 ∷ 0 ∷ 0 ∷ 1 ∷ [])
          -- FINISH
          ∷ (13 ∷ 0 ∷ 0 ∷ [])
          ∷ []);
      -- Loss 65 + 8 (bid 1) + 16 (bid 0) + 3 (torn), moved units are at 0. Contributions bear 90, the payment of 4 bears 2.
      -- Units won stay won after MOVE. Member 3: W = 2, none expected, A. Members 0 and 1: W = 2 of 4, deficit 2, D = 2 × 2 and 2 × 1, so ΔP / deficit = 1 and 1/2.
      shows =
          (0 ∷ 0 ∷ 0 ∷ 0 ∷ 0 ∷ 0 ∷ 0 ∷ 0 ∷ 0 ∷ 0 ∷ 0 ∷ 0 ∷ 0 ∷ 0 ∷ 0 ∷ 0 ∷ 0 ∷ 0 ∷ 14 ∷ 0 ∷ 14 ∷ 0 ∷ [])
          ∷ (p ∷ 0 ∷ 0 ∷ 1 ∷ 0 ∷ 5 ∷ 0 ∷ [])
          ∷ (p ∷ 1 ∷ 0 ∷ 2 ∷ 0 ∷ 1 ∷ 1 ∷ [])
          ∷ (l ∷ 92 ∷ 0 ∷ 0 ∷ 0 ∷ 90 ∷ 0 ∷ 2 ∷ 0 ∷ [])
          ∷ (m ∷ 0 ∷ 2 ∷ 60 ∷ 0 ∷ [])
          ∷ (m ∷ 1 ∷ 3 ∷ 20 ∷ 2 ∷ [])
          ∷ (m ∷ 3 ∷ 1 ∷ 10 ∷ 0 ∷ [])
          ∷ [];
    }

-- A MOVE that finds no unit to move is accepted and ends the debt; losses beyond all six layers; calls after FINISH.
abbrev pub empty_move : Worked
empty_move =
    record {
      calls =
          -- HEAD 1, 1, {0,1}, 1000, 500, 100, 50, 7
          (1 ∷ 0 ∷ 27 ∷ 1 ∷ 0 ∷ 1 ∷ 0 ∷ 0 ∷ 0 ∷ 3 ∷ 0 ∷ 0 ∷ 3 ∷ 232 ∷ 0 ∷ 0 ∷ 1 ∷ 244 ∷ 0 ∷ 0 ∷ 0 ∷ 100 ∷ 0 ∷ 0 ∷ 0 ∷ 50 ∷ 0 ∷ 0 ∷ 0 ∷ 7 ∷ [])
          -- POOL 0, 2, 1
          ∷ (2 ∷ 0 ∷ 4 ∷ 0 ∷ 0 ∷ 2 ∷ 1 ∷ [])
          -- MEMBER 0, 30, expects 0
          ∷ (3 ∷ 0 ∷ 13 ∷ 0 ∷ 0 ∷ 0 ∷ 0 ∷ 30 ∷ 0 ∷ 0 ∷ 0 ∷ 0 ∷ 0 ∷ 0 ∷ 0 ∷ 0 ∷ [])
          -- MEMBER 1, 20, expects 0
          ∷ (3 ∷ 0 ∷ 13 ∷ 1 ∷ 0 ∷ 0 ∷ 0 ∷ 20 ∷ 0 ∷ 0 ∷ 0 ∷ 0 ∷ 0 ∷ 0 ∷ 0 ∷ 0 ∷ [])
          -- ROUND 0
          ∷ (4 ∷ 0 ∷ 4 ∷ 0 ∷ 0 ∷ 0 ∷ 0 ∷ [])
          -- BID 0, 0, 1 at 5
          ∷ (5 ∷ 0 ∷ 8 ∷ 0 ∷ 0 ∷ 0 ∷ 1 ∷ 0 ∷ 0 ∷ 0 ∷ 5 ∷ [])
          -- CLOSE: won at 5
          ∷ (6 ∷ 0 ∷ 0 ∷ [])
          -- TEAR 0, 0: the other at 0
          ∷ (8 ∷ 0 ∷ 5 ∷ 0 ∷ 0 ∷ 0 ∷ 0 ∷ 0 ∷ [])
          -- CALL: the requirement is 1,495, prefunded 207; the smaller of 1,288 and all contributions is 50: calls 30 and 20
          ∷ (9 ∷ 0 ∷ 0 ∷ [])
          -- PAY 7, 0: declined by 4
          ∷ (10 ∷ 0 ∷ 5 ∷ 7 ∷ 0 ∷ 0 ∷ 0 ∷ 0 ∷ [])
          -- PAY 0, 0: declined by 5
          ∷ (10 ∷ 0 ∷ 5 ∷ 0 ∷ 0 ∷ 0 ∷ 0 ∷ 0 ∷ [])
          -- PAY 0, 2000000000: declined by 5
          ∷ (10 ∷ 0 ∷ 5 ∷ 0 ∷ 119 ∷ 53 ∷ 148 ∷ 0 ∷ [])
          -- PAY 0, 31: declined by 14
          ∷ (10 ∷ 0 ∷ 5 ∷ 0 ∷ 0 ∷ 0 ∷ 0 ∷ 31 ∷ [])
          -- MOVE 7: declined by 4
          ∷ (11 ∷ 0 ∷ 1 ∷ 7 ∷ [])
          -- MOVE 0: no unit has a negative price
          ∷ (11 ∷ 0 ∷ 1 ∷ 0 ∷ [])
          -- PAY 0, 1: declined by 14
          ∷ (10 ∷ 0 ∷ 5 ∷ 0 ∷ 0 ∷ 0 ∷ 0 ∷ 1 ∷ [])
          -- MOVE 0: declined by 14
          ∷ (11 ∷ 0 ∷ 1 ∷ 0 ∷ [])
          -- PAY 1, 20
          ∷ (10 ∷ 0 ∷ 5 ∷ 1 ∷ 0 ∷ 0 ∷ 0 ∷ 20 ∷ [])
          -- FINISH: not held to 13 in C
          ∷ (13 ∷ 0 ∷ 0 ∷ [])
          -- HEAD 1, 1, {0,1}, 1000, 500, 100, 50, 7: declined by 2
          ∷ (1 ∷ 0 ∷ 27 ∷ 1 ∷ 0 ∷ 1 ∷ 0 ∷ 0 ∷ 0 ∷ 3 ∷ 0 ∷ 0 ∷ 3 ∷ 232 ∷ 0 ∷ 0 ∷ 1 ∷ 244 ∷ 0 ∷ 0 ∷ 0 ∷ 100 ∷ 0 ∷ 0 ∷ 0 ∷ 50 ∷ 0 ∷ 0 ∷ 0 ∷ 7 ∷ [])
          -- POOL 1, 2, 0: declined by 2
          ∷ (2 ∷ 0 ∷ 4 ∷ 1 ∷ 0 ∷ 2 ∷ 0 ∷ [])
          -- ROUND 0, 0: declined by 1: the length comes before the stage
          ∷ (4 ∷ 0 ∷ 8 ∷ 0 ∷ 0 ∷ 0 ∷ 0 ∷ 0 ∷ 0 ∷ 0 ∷ 0 ∷ [])
          -- ROUND 0: declined by 2
          ∷ (4 ∷ 0 ∷ 4 ∷ 0 ∷ 0 ∷ 0 ∷ 0 ∷ [])
          -- MISS 0, 0: declined by 2
          ∷ (12 ∷ 0 ∷ 5 ∷ 0 ∷ 0 ∷ 0 ∷ 0 ∷ 0 ∷ [])
          -- FINISH: declined by 2
          ∷ (13 ∷ 0 ∷ 0 ∷ [])
          -- an unknown tag: declined by 1
          ∷ (14 ∷ 0 ∷ 0 ∷ [])
          -- no bytes: declined by 1
          ∷ ([])
          ∷ [];
      -- first tranche floor(21 / 5) = 4, second 3; 1,495 − 227 is uncovered. Member 0: ΔP × excess = 5 × 1, member 1: 0.
      shows =
          (0 ∷ 0 ∷ 0 ∷ 0 ∷ 0 ∷ 0 ∷ 0 ∷ 0 ∷ 0 ∷ 4 ∷ 5 ∷ 5 ∷ 14 ∷ 4 ∷ 0 ∷ 14 ∷ 14 ∷ 0 ∷ 0 ∷ 2 ∷ 2 ∷ 1 ∷ 2 ∷ 2 ∷ 2 ∷ 1 ∷ 1 ∷ [])
          ∷ (p ∷ 0 ∷ 0 ∷ 1 ∷ 0 ∷ 0 ∷ 1 ∷ [])
          ∷ (l ∷ 1495 ∷ 100 ∷ 50 ∷ 4 ∷ 50 ∷ 3 ∷ 20 ∷ 1268 ∷ [])
          ∷ (m ∷ 0 ∷ 1 ∷ 30 ∷ 0 ∷ [])
          ∷ (m ∷ 1 ∷ 2 ∷ 20 ∷ 20 ∷ [])
          ∷ [];
    }

-- Several numbers apply: the first of the list is the answer.
abbrev pub refusals : Worked
refusals =
    record {
      calls =
          -- BID 0, 0, 1 at 0: declined by 2
          (5 ∷ 0 ∷ 8 ∷ 0 ∷ 0 ∷ 0 ∷ 1 ∷ 0 ∷ 0 ∷ 0 ∷ 0 ∷ [])
          -- ROUND 0: declined by 2: without a case 4 bytes are a right length
          ∷ (4 ∷ 0 ∷ 4 ∷ 0 ∷ 0 ∷ 0 ∷ 0 ∷ [])
          -- ROUND 0, 0, 0, 0, 0: declined by 1
          ∷ (4 ∷ 0 ∷ 20 ∷ 0 ∷ 0 ∷ 0 ∷ 0 ∷ 0 ∷ 0 ∷ 0 ∷ 0 ∷ 0 ∷ 0 ∷ 0 ∷ 0 ∷ 0 ∷ 0 ∷ 0 ∷ 0 ∷ 0 ∷ 0 ∷ 0 ∷ 0 ∷ [])
          -- HEAD 0, 2, {0,1}, 0, 0, 10, 0, 0: declined by 5
          ∷ (1 ∷ 0 ∷ 27 ∷ 0 ∷ 0 ∷ 2 ∷ 0 ∷ 0 ∷ 0 ∷ 3 ∷ 0 ∷ 0 ∷ 0 ∷ 0 ∷ 0 ∷ 0 ∷ 0 ∷ 0 ∷ 0 ∷ 0 ∷ 0 ∷ 10 ∷ 0 ∷ 0 ∷ 0 ∷ 0 ∷ 0 ∷ 0 ∷ 0 ∷ 0 ∷ [])
          -- HEAD 5, 2, {0,1}, 0, 0, 10, 0, 0: declined by 5
          ∷ (1 ∷ 0 ∷ 27 ∷ 5 ∷ 0 ∷ 2 ∷ 0 ∷ 0 ∷ 0 ∷ 3 ∷ 0 ∷ 0 ∷ 0 ∷ 0 ∷ 0 ∷ 0 ∷ 0 ∷ 0 ∷ 0 ∷ 0 ∷ 0 ∷ 10 ∷ 0 ∷ 0 ∷ 0 ∷ 0 ∷ 0 ∷ 0 ∷ 0 ∷ 0 ∷ [])
          -- HEAD 2, 2, {}, 0, 0, 10, 0, 0: declined by 5
          ∷ (1 ∷ 0 ∷ 27 ∷ 2 ∷ 0 ∷ 2 ∷ 0 ∷ 0 ∷ 0 ∷ 0 ∷ 0 ∷ 0 ∷ 0 ∷ 0 ∷ 0 ∷ 0 ∷ 0 ∷ 0 ∷ 0 ∷ 0 ∷ 0 ∷ 10 ∷ 0 ∷ 0 ∷ 0 ∷ 0 ∷ 0 ∷ 0 ∷ 0 ∷ 0 ∷ [])
          -- HEAD 2, 2, {0,1}, 0, 0, 10, 0, 0
          ∷ (1 ∷ 0 ∷ 27 ∷ 2 ∷ 0 ∷ 2 ∷ 0 ∷ 0 ∷ 0 ∷ 3 ∷ 0 ∷ 0 ∷ 0 ∷ 0 ∷ 0 ∷ 0 ∷ 0 ∷ 0 ∷ 0 ∷ 0 ∷ 0 ∷ 10 ∷ 0 ∷ 0 ∷ 0 ∷ 0 ∷ 0 ∷ 0 ∷ 0 ∷ 0 ∷ [])
          -- HEAD 0, 2, {0,1}, 0, 0, 10, 0, 0: declined by 2, whatever its numbers
          ∷ (1 ∷ 0 ∷ 27 ∷ 0 ∷ 0 ∷ 2 ∷ 0 ∷ 0 ∷ 0 ∷ 3 ∷ 0 ∷ 0 ∷ 0 ∷ 0 ∷ 0 ∷ 0 ∷ 0 ∷ 0 ∷ 0 ∷ 0 ∷ 0 ∷ 10 ∷ 0 ∷ 0 ∷ 0 ∷ 0 ∷ 0 ∷ 0 ∷ 0 ∷ 0 ∷ [])
          -- ROUND 0, 0: declined by 10: nothing is given, and 8 is for the second ROUND
          ∷ (4 ∷ 0 ∷ 8 ∷ 0 ∷ 0 ∷ 0 ∷ 0 ∷ 0 ∷ 0 ∷ 0 ∷ 0 ∷ [])
          -- POOL 1, 0, 0: declined by 3, before 5
          ∷ (2 ∷ 0 ∷ 4 ∷ 1 ∷ 0 ∷ 0 ∷ 0 ∷ [])
          -- POOL 0, 0, 0: declined by 5
          ∷ (2 ∷ 0 ∷ 4 ∷ 0 ∷ 0 ∷ 0 ∷ 0 ∷ [])
          -- POOL 0, 3, 2: declined by 5
          ∷ (2 ∷ 0 ∷ 4 ∷ 0 ∷ 0 ∷ 3 ∷ 2 ∷ [])
          -- POOL 0, 3, 0
          ∷ (2 ∷ 0 ∷ 4 ∷ 0 ∷ 0 ∷ 3 ∷ 0 ∷ [])
          -- MEMBER 4, 500000001, expects 0: declined by 4, before 5
          ∷ (3 ∷ 0 ∷ 13 ∷ 4 ∷ 29 ∷ 205 ∷ 101 ∷ 1 ∷ 0 ∷ 0 ∷ 0 ∷ 0 ∷ 0 ∷ 0 ∷ 0 ∷ 0 ∷ [])
          -- MEMBER 200, 0, expects 0: declined by 4
          ∷ (3 ∷ 0 ∷ 13 ∷ 200 ∷ 0 ∷ 0 ∷ 0 ∷ 0 ∷ 0 ∷ 0 ∷ 0 ∷ 0 ∷ 0 ∷ 0 ∷ 0 ∷ 0 ∷ [])
          -- MEMBER 0, 10, expects 0, 0, 1: declined by 5: the case lacks pool 2
          ∷ (3 ∷ 0 ∷ 13 ∷ 0 ∷ 0 ∷ 0 ∷ 0 ∷ 10 ∷ 0 ∷ 0 ∷ 0 ∷ 0 ∷ 0 ∷ 1 ∷ 0 ∷ 0 ∷ [])
          -- MEMBER 0, 500000001, expects 0: declined by 5
          ∷ (3 ∷ 0 ∷ 13 ∷ 0 ∷ 29 ∷ 205 ∷ 101 ∷ 1 ∷ 0 ∷ 0 ∷ 0 ∷ 0 ∷ 0 ∷ 0 ∷ 0 ∷ 0 ∷ [])
          -- MEMBER 0, 10, expects 1, 2: pool 1 isn't given yet, and is in the case
          ∷ (3 ∷ 0 ∷ 13 ∷ 0 ∷ 0 ∷ 0 ∷ 0 ∷ 10 ∷ 0 ∷ 1 ∷ 0 ∷ 2 ∷ 0 ∷ 0 ∷ 0 ∷ 0 ∷ [])
          -- MEMBER 0, 10, expects 0: declined by 4: already given
          ∷ (3 ∷ 0 ∷ 13 ∷ 0 ∷ 0 ∷ 0 ∷ 0 ∷ 10 ∷ 0 ∷ 0 ∷ 0 ∷ 0 ∷ 0 ∷ 0 ∷ 0 ∷ 0 ∷ [])
          -- ROUND 0: declined by 1: HEAD has two pools, though one is given
          ∷ (4 ∷ 0 ∷ 4 ∷ 0 ∷ 0 ∷ 0 ∷ 0 ∷ [])
          -- ROUND 0, 1000001: declined by 5, before 10
          ∷ (4 ∷ 0 ∷ 8 ∷ 0 ∷ 0 ∷ 0 ∷ 0 ∷ 0 ∷ 15 ∷ 66 ∷ 65 ∷ [])
          -- ROUND 0, 0: declined by 10
          ∷ (4 ∷ 0 ∷ 8 ∷ 0 ∷ 0 ∷ 0 ∷ 0 ∷ 0 ∷ 0 ∷ 0 ∷ 0 ∷ [])
          -- POOL 2, 1, 0: declined by 3
          ∷ (2 ∷ 0 ∷ 4 ∷ 2 ∷ 0 ∷ 1 ∷ 0 ∷ [])
          -- POOL 1, 1, 0
          ∷ (2 ∷ 0 ∷ 4 ∷ 1 ∷ 0 ∷ 1 ∷ 0 ∷ [])
          -- ROUND 0, 0: declined by 10: member 1 isn't given
          ∷ (4 ∷ 0 ∷ 8 ∷ 0 ∷ 0 ∷ 0 ∷ 0 ∷ 0 ∷ 0 ∷ 0 ∷ 0 ∷ [])
          -- POOL 2, 1, 0: declined by 3
          ∷ (2 ∷ 0 ∷ 4 ∷ 2 ∷ 0 ∷ 1 ∷ 0 ∷ [])
          -- MEMBER 1, 0, expects 0
          ∷ (3 ∷ 0 ∷ 13 ∷ 1 ∷ 0 ∷ 0 ∷ 0 ∷ 0 ∷ 0 ∷ 0 ∷ 0 ∷ 0 ∷ 0 ∷ 0 ∷ 0 ∷ 0 ∷ [])
          -- CLOSE: declined by 2
          ∷ (6 ∷ 0 ∷ 0 ∷ [])
          -- ROUND 0, 0
          ∷ (4 ∷ 0 ∷ 8 ∷ 0 ∷ 0 ∷ 0 ∷ 0 ∷ 0 ∷ 0 ∷ 0 ∷ 0 ∷ [])
          -- ROUND 0, 0: declined by 2
          ∷ (4 ∷ 0 ∷ 8 ∷ 0 ∷ 0 ∷ 0 ∷ 0 ∷ 0 ∷ 0 ∷ 0 ∷ 0 ∷ [])
          -- BID 7, 9, 0 at 1000001: declined by 3
          ∷ (5 ∷ 0 ∷ 8 ∷ 7 ∷ 9 ∷ 0 ∷ 0 ∷ 0 ∷ 15 ∷ 66 ∷ 65 ∷ [])
          -- BID 0, 9, 0 at 1000001: declined by 4
          ∷ (5 ∷ 0 ∷ 8 ∷ 0 ∷ 9 ∷ 0 ∷ 0 ∷ 0 ∷ 15 ∷ 66 ∷ 65 ∷ [])
          -- BID 0, 0, 1 at 1000001: declined by 5
          ∷ (5 ∷ 0 ∷ 8 ∷ 0 ∷ 0 ∷ 0 ∷ 1 ∷ 0 ∷ 15 ∷ 66 ∷ 65 ∷ [])
          -- BID 0, 0, 2 at −2147483648: declined by 5
          ∷ (5 ∷ 0 ∷ 8 ∷ 0 ∷ 0 ∷ 0 ∷ 2 ∷ 128 ∷ 0 ∷ 0 ∷ 0 ∷ [])
          -- BID 0, 0, 1 at 0: declined by 6
          ∷ (5 ∷ 0 ∷ 8 ∷ 0 ∷ 0 ∷ 0 ∷ 1 ∷ 0 ∷ 0 ∷ 0 ∷ 0 ∷ [])
          -- BID 0, 0, 2 at 0
          ∷ (5 ∷ 0 ∷ 8 ∷ 0 ∷ 0 ∷ 0 ∷ 2 ∷ 0 ∷ 0 ∷ 0 ∷ 0 ∷ [])
          -- CLOSE with a byte too many: declined by 1
          ∷ (6 ∷ 0 ∷ 1 ∷ 0 ∷ [])
          -- two fields in one call: declined by 1
          ∷ (6 ∷ 0 ∷ 0 ∷ 6 ∷ 0 ∷ 0 ∷ [])
          -- a field cut off: declined by 1
          ∷ (6 ∷ 0 ∷ [])
          -- PAY 0, 0: declined by 2, before 5
          ∷ (10 ∷ 0 ∷ 5 ∷ 0 ∷ 0 ∷ 0 ∷ 0 ∷ 0 ∷ [])
          -- CLOSE: two of pool 0 are sold at 0
          ∷ (6 ∷ 0 ∷ 0 ∷ [])
          -- CLOSE: declined by 2
          ∷ (6 ∷ 0 ∷ 0 ∷ [])
          -- FINISH: declined by 11
          ∷ (13 ∷ 0 ∷ 0 ∷ [])
          -- TEAR 2, 1000001: declined by 3
          ∷ (8 ∷ 0 ∷ 5 ∷ 2 ∷ 0 ∷ 15 ∷ 66 ∷ 65 ∷ [])
          -- TEAR 0, 1000001: declined by 5
          ∷ (8 ∷ 0 ∷ 5 ∷ 0 ∷ 0 ∷ 15 ∷ 66 ∷ 65 ∷ [])
          -- MISS 9, 1000001: declined by 4
          ∷ (12 ∷ 0 ∷ 5 ∷ 9 ∷ 0 ∷ 15 ∷ 66 ∷ 65 ∷ [])
          -- MISS 0, 1000001: declined by 5
          ∷ (12 ∷ 0 ∷ 5 ∷ 0 ∷ 0 ∷ 15 ∷ 66 ∷ 65 ∷ [])
          -- MISS 0, 0: declined by 16
          ∷ (12 ∷ 0 ∷ 5 ∷ 0 ∷ 0 ∷ 0 ∷ 0 ∷ 0 ∷ [])
          -- TEAR 0, 0
          ∷ (8 ∷ 0 ∷ 5 ∷ 0 ∷ 0 ∷ 0 ∷ 0 ∷ 0 ∷ [])
          -- TEAR 1, 0
          ∷ (8 ∷ 0 ∷ 5 ∷ 1 ∷ 0 ∷ 0 ∷ 0 ∷ 0 ∷ [])
          -- TEAR 0, 0: declined by 8
          ∷ (8 ∷ 0 ∷ 5 ∷ 0 ∷ 0 ∷ 0 ∷ 0 ∷ 0 ∷ [])
          -- ROUND 0, 1000001: declined by 5, before 8
          ∷ (4 ∷ 0 ∷ 8 ∷ 0 ∷ 0 ∷ 0 ∷ 0 ∷ 0 ∷ 15 ∷ 66 ∷ 65 ∷ [])
          -- ROUND 0, 0: declined by 8
          ∷ (4 ∷ 0 ∷ 8 ∷ 0 ∷ 0 ∷ 0 ∷ 0 ∷ 0 ∷ 0 ∷ 0 ∷ 0 ∷ [])
          -- CALL: declined by 12
          ∷ (9 ∷ 0 ∷ 0 ∷ [])
          -- PAY 0, 1: declined by 2
          ∷ (10 ∷ 0 ∷ 5 ∷ 0 ∷ 0 ∷ 0 ∷ 0 ∷ 1 ∷ [])
          -- FINISH
          ∷ (13 ∷ 0 ∷ 0 ∷ [])
          ∷ [];
      -- all prices are 0, so the loss is 0. Member 0 won 2 of 3: B. Member 1 won none of none: A.
      shows =
          (2 ∷ 2 ∷ 1 ∷ 5 ∷ 5 ∷ 5 ∷ 0 ∷ 2 ∷ 10 ∷ 3 ∷ 5 ∷ 5 ∷ 0 ∷ 4 ∷ 4 ∷ 5 ∷ 5 ∷ 0 ∷ 4 ∷ 1 ∷ 5 ∷ 10 ∷ 3 ∷ 0 ∷ 10 ∷ 3 ∷ 0 ∷ 2 ∷ 0 ∷ 2 ∷ 3 ∷ 4 ∷ 5 ∷ 5 ∷ 6 ∷ 0 ∷ 1 ∷ 1 ∷ 1 ∷ 2 ∷ 0 ∷ 2 ∷ 11 ∷ 3 ∷ 5 ∷ 4 ∷ 5 ∷ 16 ∷ 0 ∷ 0 ∷ 8 ∷ 5 ∷ 8 ∷ 12 ∷ 2 ∷ 0 ∷ [])
          ∷ (p ∷ 0 ∷ 0 ∷ 2 ∷ 0 ∷ 0 ∷ 1 ∷ [])
          ∷ (p ∷ 1 ∷ 0 ∷ 0 ∷ 0 ∷ 0 ∷ 1 ∷ [])
          ∷ (l ∷ 0 ∷ 0 ∷ 0 ∷ 0 ∷ 0 ∷ 0 ∷ 0 ∷ 0 ∷ [])
          ∷ (m ∷ 0 ∷ 2 ∷ 0 ∷ 0 ∷ [])
          ∷ (m ∷ 1 ∷ 1 ∷ 0 ∷ 0 ∷ [])
          ∷ [];
    }

-- Equal ranks in category B share a rank's charge by contribution, and the next rank is skipped.
abbrev pub equal_ranks : Worked
equal_ranks =
    record {
      calls =
          -- HEAD 1, 1, {0,1,2,3}, 0, 0, 0, 0, 0
          (1 ∷ 0 ∷ 27 ∷ 1 ∷ 0 ∷ 1 ∷ 0 ∷ 0 ∷ 0 ∷ 15 ∷ 0 ∷ 0 ∷ 0 ∷ 0 ∷ 0 ∷ 0 ∷ 0 ∷ 0 ∷ 0 ∷ 0 ∷ 0 ∷ 0 ∷ 0 ∷ 0 ∷ 0 ∷ 0 ∷ 0 ∷ 0 ∷ 0 ∷ 0 ∷ [])
          -- POOL 0, 4, 0
          ∷ (2 ∷ 0 ∷ 4 ∷ 0 ∷ 0 ∷ 4 ∷ 0 ∷ [])
          -- MEMBER 0, 10, expects 2
          ∷ (3 ∷ 0 ∷ 13 ∷ 0 ∷ 0 ∷ 0 ∷ 0 ∷ 10 ∷ 0 ∷ 2 ∷ 0 ∷ 0 ∷ 0 ∷ 0 ∷ 0 ∷ 0 ∷ [])
          -- MEMBER 1, 30, expects 2
          ∷ (3 ∷ 0 ∷ 13 ∷ 1 ∷ 0 ∷ 0 ∷ 0 ∷ 30 ∷ 0 ∷ 2 ∷ 0 ∷ 0 ∷ 0 ∷ 0 ∷ 0 ∷ 0 ∷ [])
          -- MEMBER 2, 7, expects 4
          ∷ (3 ∷ 0 ∷ 13 ∷ 2 ∷ 0 ∷ 0 ∷ 0 ∷ 7 ∷ 0 ∷ 4 ∷ 0 ∷ 0 ∷ 0 ∷ 0 ∷ 0 ∷ 0 ∷ [])
          -- MEMBER 3, 9, expects 0
          ∷ (3 ∷ 0 ∷ 13 ∷ 3 ∷ 0 ∷ 0 ∷ 0 ∷ 9 ∷ 0 ∷ 0 ∷ 0 ∷ 0 ∷ 0 ∷ 0 ∷ 0 ∷ 0 ∷ [])
          -- ROUND −10
          ∷ (4 ∷ 0 ∷ 4 ∷ 255 ∷ 255 ∷ 255 ∷ 246 ∷ [])
          -- BID 0, 0, 1 at −5
          ∷ (5 ∷ 0 ∷ 8 ∷ 0 ∷ 0 ∷ 0 ∷ 1 ∷ 255 ∷ 255 ∷ 255 ∷ 251 ∷ [])
          -- BID 0, 1, 1 at −5
          ∷ (5 ∷ 0 ∷ 8 ∷ 0 ∷ 1 ∷ 0 ∷ 1 ∷ 255 ∷ 255 ∷ 255 ∷ 251 ∷ [])
          -- BID 0, 2, 2 at −5
          ∷ (5 ∷ 0 ∷ 8 ∷ 0 ∷ 2 ∷ 0 ∷ 2 ∷ 255 ∷ 255 ∷ 255 ∷ 251 ∷ [])
          -- CLOSE
          ∷ (6 ∷ 0 ∷ 0 ∷ [])
          -- FINISH
          ∷ (13 ∷ 0 ∷ 0 ∷ [])
          ∷ [];
      -- member 3 won none of none: A. The others have ΔP = 5 and deficits 1, 1, 2: ranks 2, 2, 4. Rank 4 bears 7, rank 2 the other 13,
      -- split by 10 and 30: 3.25 and 9.75, so 3 and 10.
      shows =
          (0 ∷ 0 ∷ 0 ∷ 0 ∷ 0 ∷ 0 ∷ 0 ∷ 0 ∷ 0 ∷ 0 ∷ 0 ∷ 0 ∷ [])
          ∷ (p ∷ 0 ∷ 0 ∷ 4 ∷ 0 ∷ 0 ∷ 0 ∷ [])
          ∷ (l ∷ 20 ∷ 0 ∷ 0 ∷ 0 ∷ 20 ∷ 0 ∷ 0 ∷ 0 ∷ [])
          ∷ (m ∷ 0 ∷ 2 ∷ 3 ∷ 0 ∷ [])
          ∷ (m ∷ 1 ∷ 2 ∷ 10 ∷ 0 ∷ [])
          ∷ (m ∷ 2 ∷ 4 ∷ 7 ∷ 0 ∷ [])
          ∷ (m ∷ 3 ∷ 1 ∷ 0 ∷ 0 ∷ [])
          ∷ [];
    }

-- Calls are fixed at CALL: a MISS raises the requirement and nobody's call.
abbrev pub calls_stay : Worked
calls_stay =
    record {
      calls =
          -- HEAD 1, 1, {0,1}, 30, 0, 5, 0, 0
          (1 ∷ 0 ∷ 27 ∷ 1 ∷ 0 ∷ 1 ∷ 0 ∷ 0 ∷ 0 ∷ 3 ∷ 0 ∷ 0 ∷ 0 ∷ 30 ∷ 0 ∷ 0 ∷ 0 ∷ 0 ∷ 0 ∷ 0 ∷ 0 ∷ 5 ∷ 0 ∷ 0 ∷ 0 ∷ 0 ∷ 0 ∷ 0 ∷ 0 ∷ 0 ∷ [])
          -- POOL 0, 2, 0
          ∷ (2 ∷ 0 ∷ 4 ∷ 0 ∷ 0 ∷ 2 ∷ 0 ∷ [])
          -- MEMBER 0, 20, expects 2
          ∷ (3 ∷ 0 ∷ 13 ∷ 0 ∷ 0 ∷ 0 ∷ 0 ∷ 20 ∷ 0 ∷ 2 ∷ 0 ∷ 0 ∷ 0 ∷ 0 ∷ 0 ∷ 0 ∷ [])
          -- MEMBER 1, 20, expects 0
          ∷ (3 ∷ 0 ∷ 13 ∷ 1 ∷ 0 ∷ 0 ∷ 0 ∷ 20 ∷ 0 ∷ 0 ∷ 0 ∷ 0 ∷ 0 ∷ 0 ∷ 0 ∷ 0 ∷ [])
          -- ROUND 0
          ∷ (4 ∷ 0 ∷ 4 ∷ 0 ∷ 0 ∷ 0 ∷ 0 ∷ [])
          -- CLOSE
          ∷ (6 ∷ 0 ∷ 0 ∷ [])
          -- ALLOCATE 0, −10: two to member 0
          ∷ (7 ∷ 0 ∷ 5 ∷ 0 ∷ 255 ∷ 255 ∷ 255 ∷ 246 ∷ [])
          -- CALL: 50 − 45 = 5 split by 20, 20: 3 and 2, equal weights: the odd cent to the earlier
          ∷ (9 ∷ 0 ∷ 0 ∷ [])
          -- MISS 0, −20: both torn: the requirement is 70
          ∷ (12 ∷ 0 ∷ 5 ∷ 0 ∷ 255 ∷ 255 ∷ 255 ∷ 236 ∷ [])
          -- MISS 0, −20: declined by 16
          ∷ (12 ∷ 0 ∷ 5 ∷ 0 ∷ 255 ∷ 255 ∷ 255 ∷ 236 ∷ [])
          -- PAY 0, 3
          ∷ (10 ∷ 0 ∷ 5 ∷ 0 ∷ 0 ∷ 0 ∷ 0 ∷ 3 ∷ [])
          -- PAY 1, 3: declined by 14
          ∷ (10 ∷ 0 ∷ 5 ∷ 1 ∷ 0 ∷ 0 ∷ 0 ∷ 3 ∷ [])
          -- PAY 1, 2
          ∷ (10 ∷ 0 ∷ 5 ∷ 1 ∷ 0 ∷ 0 ∷ 0 ∷ 2 ∷ [])
          -- FINISH
          ∷ (13 ∷ 0 ∷ 0 ∷ [])
          ∷ [];
      -- 5 + 40 + 5 of 70 are covered. Member 1 won none of none: A; member 0 none of 2: B.
      shows =
          (0 ∷ 0 ∷ 0 ∷ 0 ∷ 0 ∷ 0 ∷ 0 ∷ 0 ∷ 0 ∷ 16 ∷ 0 ∷ 14 ∷ 0 ∷ 0 ∷ [])
          ∷ (p ∷ 0 ∷ 0 ∷ 0 ∷ 0 ∷ 0 ∷ 2 ∷ [])
          ∷ (l ∷ 70 ∷ 5 ∷ 0 ∷ 0 ∷ 40 ∷ 0 ∷ 5 ∷ 20 ∷ [])
          ∷ (m ∷ 0 ∷ 2 ∷ 20 ∷ 3 ∷ [])
          ∷ (m ∷ 1 ∷ 1 ∷ 20 ∷ 2 ∷ [])
          ∷ [];
    }

-- ALLOCATE, TEAR and MISS around a second round. Allocated units are not won.
abbrev pub torn_then_round : Worked
torn_then_round =
    record {
      calls =
          -- HEAD 2, 1, {0,1}, 0, 0, 50, 0, 0
          (1 ∷ 0 ∷ 27 ∷ 2 ∷ 0 ∷ 1 ∷ 0 ∷ 0 ∷ 0 ∷ 3 ∷ 0 ∷ 0 ∷ 0 ∷ 0 ∷ 0 ∷ 0 ∷ 0 ∷ 0 ∷ 0 ∷ 0 ∷ 0 ∷ 50 ∷ 0 ∷ 0 ∷ 0 ∷ 0 ∷ 0 ∷ 0 ∷ 0 ∷ 0 ∷ [])
          -- POOL 0, 3, 0
          ∷ (2 ∷ 0 ∷ 4 ∷ 0 ∷ 0 ∷ 3 ∷ 0 ∷ [])
          -- POOL 1, 2, 1
          ∷ (2 ∷ 0 ∷ 4 ∷ 1 ∷ 0 ∷ 2 ∷ 1 ∷ [])
          -- MEMBER 0, 0, expects 2, 0
          ∷ (3 ∷ 0 ∷ 13 ∷ 0 ∷ 0 ∷ 0 ∷ 0 ∷ 0 ∷ 0 ∷ 2 ∷ 0 ∷ 0 ∷ 0 ∷ 0 ∷ 0 ∷ 0 ∷ [])
          -- MEMBER 1, 5, expects 0, 2
          ∷ (3 ∷ 0 ∷ 13 ∷ 1 ∷ 0 ∷ 0 ∷ 0 ∷ 5 ∷ 0 ∷ 0 ∷ 0 ∷ 2 ∷ 0 ∷ 0 ∷ 0 ∷ 0 ∷ [])
          -- ROUND −10, −10
          ∷ (4 ∷ 0 ∷ 8 ∷ 255 ∷ 255 ∷ 255 ∷ 246 ∷ 255 ∷ 255 ∷ 255 ∷ 246 ∷ [])
          -- CLOSE
          ∷ (6 ∷ 0 ∷ 0 ∷ [])
          -- ALLOCATE 0, −3: two to member 0, one stays open
          ∷ (7 ∷ 0 ∷ 5 ∷ 0 ∷ 255 ∷ 255 ∷ 255 ∷ 253 ∷ [])
          -- TEAR 1, −6: both torn
          ∷ (8 ∷ 0 ∷ 5 ∷ 1 ∷ 255 ∷ 255 ∷ 255 ∷ 250 ∷ [])
          -- ROUND −20, −30
          ∷ (4 ∷ 0 ∷ 8 ∷ 255 ∷ 255 ∷ 255 ∷ 236 ∷ 255 ∷ 255 ∷ 255 ∷ 226 ∷ [])
          -- BID 1, 1, 1 at 0: declined by 8
          ∷ (5 ∷ 0 ∷ 8 ∷ 1 ∷ 1 ∷ 0 ∷ 1 ∷ 0 ∷ 0 ∷ 0 ∷ 0 ∷ [])
          -- BID 0, 1, 1 at −15
          ∷ (5 ∷ 0 ∷ 8 ∷ 0 ∷ 1 ∷ 0 ∷ 1 ∷ 255 ∷ 255 ∷ 255 ∷ 241 ∷ [])
          -- CLOSE: won
          ∷ (6 ∷ 0 ∷ 0 ∷ [])
          -- MISS 0, −8: its two are torn
          ∷ (12 ∷ 0 ∷ 5 ∷ 0 ∷ 255 ∷ 255 ∷ 255 ∷ 248 ∷ [])
          -- FINISH
          ∷ (13 ∷ 0 ∷ 0 ∷ [])
          ∷ [];
      -- loss 15 + 2 × 8 + 2 × 6. Worst reserve of pool 0 −20: member 1 has D = 5, W = 1, deficit 1; member 0 has W = 0, deficit 2.
      shows =
          (0 ∷ 0 ∷ 0 ∷ 0 ∷ 0 ∷ 0 ∷ 0 ∷ 0 ∷ 0 ∷ 0 ∷ 8 ∷ 0 ∷ 0 ∷ 0 ∷ 0 ∷ [])
          ∷ (p ∷ 0 ∷ 0 ∷ 1 ∷ 0 ∷ 0 ∷ 2 ∷ [])
          ∷ (p ∷ 1 ∷ 0 ∷ 0 ∷ 0 ∷ 0 ∷ 2 ∷ [])
          ∷ (l ∷ 43 ∷ 43 ∷ 0 ∷ 0 ∷ 0 ∷ 0 ∷ 0 ∷ 0 ∷ [])
          ∷ (m ∷ 0 ∷ 2 ∷ 0 ∷ 0 ∷ [])
          ∷ (m ∷ 1 ∷ 1 ∷ 0 ∷ 0 ∷ [])
          ∷ [];
    }

-- The balance at the price that is cut; a second ROUND with nothing open.
abbrev pub cut_price : Worked
cut_price =
    record {
      calls =
          -- HEAD 1, 1, {0,1,2}, 40, 0, 100, 0, 0
          (1 ∷ 0 ∷ 27 ∷ 1 ∷ 0 ∷ 1 ∷ 0 ∷ 0 ∷ 0 ∷ 7 ∷ 0 ∷ 0 ∷ 0 ∷ 40 ∷ 0 ∷ 0 ∷ 0 ∷ 0 ∷ 0 ∷ 0 ∷ 0 ∷ 100 ∷ 0 ∷ 0 ∷ 0 ∷ 0 ∷ 0 ∷ 0 ∷ 0 ∷ 0 ∷ [])
          -- POOL 0, 5, 0
          ∷ (2 ∷ 0 ∷ 4 ∷ 0 ∷ 0 ∷ 5 ∷ 0 ∷ [])
          -- MEMBER 0, 0, expects 0
          ∷ (3 ∷ 0 ∷ 13 ∷ 0 ∷ 0 ∷ 0 ∷ 0 ∷ 0 ∷ 0 ∷ 0 ∷ 0 ∷ 0 ∷ 0 ∷ 0 ∷ 0 ∷ 0 ∷ [])
          -- MEMBER 1, 0, expects 0
          ∷ (3 ∷ 0 ∷ 13 ∷ 1 ∷ 0 ∷ 0 ∷ 0 ∷ 0 ∷ 0 ∷ 0 ∷ 0 ∷ 0 ∷ 0 ∷ 0 ∷ 0 ∷ 0 ∷ [])
          -- MEMBER 2, 0, expects 0
          ∷ (3 ∷ 0 ∷ 13 ∷ 2 ∷ 0 ∷ 0 ∷ 0 ∷ 0 ∷ 0 ∷ 0 ∷ 0 ∷ 0 ∷ 0 ∷ 0 ∷ 0 ∷ 0 ∷ [])
          -- ROUND 0
          ∷ (4 ∷ 0 ∷ 4 ∷ 0 ∷ 0 ∷ 0 ∷ 0 ∷ [])
          -- BID 0, 0, 2 at 10
          ∷ (5 ∷ 0 ∷ 8 ∷ 0 ∷ 0 ∷ 0 ∷ 2 ∷ 0 ∷ 0 ∷ 0 ∷ 10 ∷ [])
          -- BID 0, 1, 3 at 5
          ∷ (5 ∷ 0 ∷ 8 ∷ 0 ∷ 1 ∷ 0 ∷ 3 ∷ 0 ∷ 0 ∷ 0 ∷ 5 ∷ [])
          -- BID 0, 2, 3 at 5
          ∷ (5 ∷ 0 ∷ 8 ∷ 0 ∷ 2 ∷ 0 ∷ 3 ∷ 0 ∷ 0 ∷ 0 ∷ 5 ∷ [])
          -- BID 0, 0, 3 at 4
          ∷ (5 ∷ 0 ∷ 8 ∷ 0 ∷ 0 ∷ 0 ∷ 3 ∷ 0 ∷ 0 ∷ 0 ∷ 4 ∷ [])
          -- CLOSE: 2 at 10; the balance of 3 is split by 3, 3: 2 and 1, equal weights: the odd unit to the earlier; at 4 nothing
          ∷ (6 ∷ 0 ∷ 0 ∷ [])
          -- ROUND 0: declined by 8
          ∷ (4 ∷ 0 ∷ 4 ∷ 0 ∷ 0 ∷ 0 ∷ 0 ∷ [])
          -- FINISH
          ∷ (13 ∷ 0 ∷ 0 ∷ [])
          ∷ [];
      -- loss 40 − 2 × 10 − 3 × 5. ΔP × excess: 10 × 2, 5 × 2, 5 × 1.
      shows =
          (0 ∷ 0 ∷ 0 ∷ 0 ∷ 0 ∷ 0 ∷ 0 ∷ 0 ∷ 0 ∷ 0 ∷ 0 ∷ 8 ∷ 0 ∷ [])
          ∷ (p ∷ 0 ∷ 0 ∷ 5 ∷ 0 ∷ 0 ∷ 0 ∷ [])
          ∷ (l ∷ 5 ∷ 5 ∷ 0 ∷ 0 ∷ 0 ∷ 0 ∷ 0 ∷ 0 ∷ [])
          ∷ (m ∷ 0 ∷ 1 ∷ 0 ∷ 0 ∷ [])
          ∷ (m ∷ 1 ∷ 2 ∷ 0 ∷ 0 ∷ [])
          ∷ (m ∷ 2 ∷ 3 ∷ 0 ∷ 0 ∷ [])
          ∷ [];
    }

-- MOVE ends where no unit with a negative price is left, in a pool with mark 1 too; member 31; what MOVE took stays won.
abbrev pub all_negative_moved : Worked
all_negative_moved =
    record {
      calls =
          -- HEAD 1, 1, {0,31}, 200, 0, 0, 0, 0
          (1 ∷ 0 ∷ 27 ∷ 1 ∷ 0 ∷ 1 ∷ 128 ∷ 0 ∷ 0 ∷ 1 ∷ 0 ∷ 0 ∷ 0 ∷ 200 ∷ 0 ∷ 0 ∷ 0 ∷ 0 ∷ 0 ∷ 0 ∷ 0 ∷ 0 ∷ 0 ∷ 0 ∷ 0 ∷ 0 ∷ 0 ∷ 0 ∷ 0 ∷ 0 ∷ [])
          -- POOL 0, 4, 1
          ∷ (2 ∷ 0 ∷ 4 ∷ 0 ∷ 0 ∷ 4 ∷ 1 ∷ [])
          -- MEMBER 0, 100, expects 0
          ∷ (3 ∷ 0 ∷ 13 ∷ 0 ∷ 0 ∷ 0 ∷ 0 ∷ 100 ∷ 0 ∷ 0 ∷ 0 ∷ 0 ∷ 0 ∷ 0 ∷ 0 ∷ 0 ∷ [])
          -- MEMBER 32, 0, expects 0: declined by 4
          ∷ (3 ∷ 0 ∷ 13 ∷ 32 ∷ 0 ∷ 0 ∷ 0 ∷ 0 ∷ 0 ∷ 0 ∷ 0 ∷ 0 ∷ 0 ∷ 0 ∷ 0 ∷ 0 ∷ [])
          -- MEMBER 31, 0, expects 0
          ∷ (3 ∷ 0 ∷ 13 ∷ 31 ∷ 0 ∷ 0 ∷ 0 ∷ 0 ∷ 0 ∷ 0 ∷ 0 ∷ 0 ∷ 0 ∷ 0 ∷ 0 ∷ 0 ∷ [])
          -- ROUND −30
          ∷ (4 ∷ 0 ∷ 4 ∷ 255 ∷ 255 ∷ 255 ∷ 226 ∷ [])
          -- BID 0, 31, 2 at −10
          ∷ (5 ∷ 0 ∷ 8 ∷ 0 ∷ 31 ∷ 0 ∷ 2 ∷ 255 ∷ 255 ∷ 255 ∷ 246 ∷ [])
          -- BID 0, 31, 1 at 0
          ∷ (5 ∷ 0 ∷ 8 ∷ 0 ∷ 31 ∷ 0 ∷ 1 ∷ 0 ∷ 0 ∷ 0 ∷ 0 ∷ [])
          -- BID 0, 0, 1 at 5
          ∷ (5 ∷ 0 ∷ 8 ∷ 0 ∷ 0 ∷ 0 ∷ 1 ∷ 0 ∷ 0 ∷ 0 ∷ 5 ∷ [])
          -- CLOSE: all won
          ∷ (6 ∷ 0 ∷ 0 ∷ [])
          -- CALL: 200 + 20 − 5 = 215, prefunded 100: the smaller of 115 and 100 is member 0's call
          ∷ (9 ∷ 0 ∷ 0 ∷ [])
          -- FINISH: declined by 15
          ∷ (13 ∷ 0 ∷ 0 ∷ [])
          -- MOVE 31: declined by 14: it owes nothing
          ∷ (11 ∷ 0 ∷ 1 ∷ 31 ∷ [])
          -- MOVE 0: the two at −10 save 20 of 100; the one at 0 stays
          ∷ (11 ∷ 0 ∷ 1 ∷ 0 ∷ [])
          -- FINISH
          ∷ (13 ∷ 0 ∷ 0 ∷ [])
          ∷ [];
      -- loss 200 − 5. Member 31: D = 2 × 20 + 30 = 70, W = 3, excess 3, so ΔP × excess = 70; member 0: 35 × 1.
      shows =
          (0 ∷ 0 ∷ 0 ∷ 4 ∷ 0 ∷ 0 ∷ 0 ∷ 0 ∷ 0 ∷ 0 ∷ 0 ∷ 15 ∷ 14 ∷ 0 ∷ 0 ∷ [])
          ∷ (p ∷ 0 ∷ 0 ∷ 2 ∷ 0 ∷ 2 ∷ 0 ∷ [])
          ∷ (l ∷ 195 ∷ 0 ∷ 0 ∷ 0 ∷ 100 ∷ 0 ∷ 0 ∷ 95 ∷ [])
          ∷ (m ∷ 0 ∷ 2 ∷ 100 ∷ 0 ∷ [])
          ∷ (m ∷ 31 ∷ 1 ∷ 0 ∷ 0 ∷ [])
          ∷ [];
    }

-- The second tranche is charged after contributions; a price above 0 lowers the loss.
abbrev pub tranches : Worked
tranches =
    record {
      calls =
          -- HEAD 1, 1, {0}, 20, 0, 3, 2, 9
          (1 ∷ 0 ∷ 27 ∷ 1 ∷ 0 ∷ 1 ∷ 0 ∷ 0 ∷ 0 ∷ 1 ∷ 0 ∷ 0 ∷ 0 ∷ 20 ∷ 0 ∷ 0 ∷ 0 ∷ 0 ∷ 0 ∷ 0 ∷ 0 ∷ 3 ∷ 0 ∷ 0 ∷ 0 ∷ 2 ∷ 0 ∷ 0 ∷ 0 ∷ 9 ∷ [])
          -- POOL 0, 1, 0
          ∷ (2 ∷ 0 ∷ 4 ∷ 0 ∷ 0 ∷ 1 ∷ 0 ∷ [])
          -- MEMBER 0, 4, expects 0
          ∷ (3 ∷ 0 ∷ 13 ∷ 0 ∷ 0 ∷ 0 ∷ 0 ∷ 4 ∷ 0 ∷ 0 ∷ 0 ∷ 0 ∷ 0 ∷ 0 ∷ 0 ∷ 0 ∷ [])
          -- ROUND 0
          ∷ (4 ∷ 0 ∷ 4 ∷ 0 ∷ 0 ∷ 0 ∷ 0 ∷ [])
          -- CLOSE
          ∷ (6 ∷ 0 ∷ 0 ∷ [])
          -- TEAR 0, 3
          ∷ (8 ∷ 0 ∷ 5 ∷ 0 ∷ 0 ∷ 0 ∷ 0 ∷ 3 ∷ [])
          -- FINISH
          ∷ (13 ∷ 0 ∷ 0 ∷ [])
          ∷ [];
      -- first tranche floor(27 / 5) = 5, second 4, of which 3 are charged
      shows =
          (0 ∷ 0 ∷ 0 ∷ 0 ∷ 0 ∷ 0 ∷ 0 ∷ [])
          ∷ (p ∷ 0 ∷ 0 ∷ 0 ∷ 0 ∷ 0 ∷ 1 ∷ [])
          ∷ (l ∷ 17 ∷ 3 ∷ 2 ∷ 5 ∷ 4 ∷ 3 ∷ 0 ∷ 0 ∷ [])
          ∷ (m ∷ 0 ∷ 1 ∷ 4 ∷ 0 ∷ [])
          ∷ [];
    }

-- Payments bear the last layer by payment; a member that had a MOVE and paid nothing bears nothing of it.
abbrev pub payments_shared : Worked
payments_shared =
    record {
      calls =
          -- HEAD 1, 1, {0,1,2}, 37, 0, 0, 0, 0
          (1 ∷ 0 ∷ 27 ∷ 1 ∷ 0 ∷ 1 ∷ 0 ∷ 0 ∷ 0 ∷ 7 ∷ 0 ∷ 0 ∷ 0 ∷ 37 ∷ 0 ∷ 0 ∷ 0 ∷ 0 ∷ 0 ∷ 0 ∷ 0 ∷ 0 ∷ 0 ∷ 0 ∷ 0 ∷ 0 ∷ 0 ∷ 0 ∷ 0 ∷ 0 ∷ [])
          -- POOL 0, 1, 0
          ∷ (2 ∷ 0 ∷ 4 ∷ 0 ∷ 0 ∷ 1 ∷ 0 ∷ [])
          -- MEMBER 0, 10, expects 0
          ∷ (3 ∷ 0 ∷ 13 ∷ 0 ∷ 0 ∷ 0 ∷ 0 ∷ 10 ∷ 0 ∷ 0 ∷ 0 ∷ 0 ∷ 0 ∷ 0 ∷ 0 ∷ 0 ∷ [])
          -- MEMBER 1, 10, expects 0
          ∷ (3 ∷ 0 ∷ 13 ∷ 1 ∷ 0 ∷ 0 ∷ 0 ∷ 10 ∷ 0 ∷ 0 ∷ 0 ∷ 0 ∷ 0 ∷ 0 ∷ 0 ∷ 0 ∷ [])
          -- MEMBER 2, 10, expects 0
          ∷ (3 ∷ 0 ∷ 13 ∷ 2 ∷ 0 ∷ 0 ∷ 0 ∷ 10 ∷ 0 ∷ 0 ∷ 0 ∷ 0 ∷ 0 ∷ 0 ∷ 0 ∷ 0 ∷ [])
          -- ROUND −10
          ∷ (4 ∷ 0 ∷ 4 ∷ 255 ∷ 255 ∷ 255 ∷ 246 ∷ [])
          -- BID 0, 1, 1 at −8
          ∷ (5 ∷ 0 ∷ 8 ∷ 0 ∷ 1 ∷ 0 ∷ 1 ∷ 255 ∷ 255 ∷ 255 ∷ 248 ∷ [])
          -- CLOSE
          ∷ (6 ∷ 0 ∷ 0 ∷ [])
          -- CALL: 45 − 30 = 15: 5 each
          ∷ (9 ∷ 0 ∷ 0 ∷ [])
          -- PAY 0, 5
          ∷ (10 ∷ 0 ∷ 5 ∷ 0 ∷ 0 ∷ 0 ∷ 0 ∷ 5 ∷ [])
          -- PAY 1, 5
          ∷ (10 ∷ 0 ∷ 5 ∷ 1 ∷ 0 ∷ 0 ∷ 0 ∷ 5 ∷ [])
          -- MOVE 2: the unit sold to member 1 saves 8 of 5
          ∷ (11 ∷ 0 ∷ 1 ∷ 2 ∷ [])
          -- FINISH
          ∷ (13 ∷ 0 ∷ 0 ∷ [])
          ∷ [];
      -- 7 split by 5, 5, 0: 3.5 each, equal weights: the odd cent to the earlier. Member 1: ΔP × excess = 2; members 0 and 2 won none of none, and rank equal.
      shows =
          (0 ∷ 0 ∷ 0 ∷ 0 ∷ 0 ∷ 0 ∷ 0 ∷ 0 ∷ 0 ∷ 0 ∷ 0 ∷ 0 ∷ 0 ∷ [])
          ∷ (p ∷ 0 ∷ 0 ∷ 0 ∷ 0 ∷ 1 ∷ 0 ∷ [])
          ∷ (l ∷ 37 ∷ 0 ∷ 0 ∷ 0 ∷ 30 ∷ 0 ∷ 7 ∷ 0 ∷ [])
          ∷ (m ∷ 0 ∷ 2 ∷ 10 ∷ 4 ∷ [])
          ∷ (m ∷ 1 ∷ 1 ∷ 10 ∷ 3 ∷ [])
          ∷ (m ∷ 2 ∷ 2 ∷ 10 ∷ 0 ∷ [])
          ∷ [];
    }

-- ---- the theorem

abbrev pub worked : List Worked
worked =
    second_round
    ∷ shortfalls
    ∷ moves
    ∷ moves_done
    ∷ empty_move
    ∷ refusals
    ∷ equal_ranks
    ∷ calls_stay
    ∷ torn_then_round
    ∷ cut_price
    ∷ all_negative_moved
    ∷ tranches
    ∷ payments_shared
    ∷ []

pub worked-hold : AllShow worked
unfolding computing
worked-hold = (refl, (refl, (refl, (refl, (refl, (refl, (refl, (refl, (refl, (refl, (refl, (refl, (refl, tt)))))))))))))

-- what a member holds of a pool at a price after a list: "units sold to its bids, allocated or moved to it, by pool and price"
abbrev pub held : Worked → ℕ → ℕ → ℕ → ℕ
held x = holding (case_after x.calls).bids (case_after x.calls).roll

pub holdings-hold :
    AllHold
    -- after the first MOVE of the list `moves`, in pool 1: member 3 holds one at 0 and its two at −8, member 0 one at −5, member 1 none; in pool 0 members 0 and 1 one each at −5
    ((held moves 3 1 zero_price ∷ held moves 3 1 (zero_price - 8) ∷ held moves 0 1 (zero_price - 5) ∷ held moves 1 1 (zero_price - 5)
    ∷ held moves 0 0 (zero_price - 5) ∷ held moves 1 0 (zero_price - 5) ∷ [] says 1 ∷ 2 ∷ 1 ∷ 0 ∷ 1 ∷ 1 ∷ [])
    -- at the end: member 0 holds four of pool 0 at 0 and one at −8, member 1 one of each pool at 0 and nothing at −9, member 3 its two at −8 of pool 1 and nothing at 0
    ∷ (held moves_done 0 0 zero_price ∷ held moves_done 0 0 (zero_price - 8) ∷ held moves_done 1 0 zero_price
    ∷ held moves_done 1 1 zero_price ∷ held moves_done 1 0 (zero_price - 9) ∷ held moves_done 3 1 (zero_price - 8)
    ∷ held moves_done 3 1 zero_price ∷ [] says 4 ∷ 1 ∷ 1 ∷ 1 ∷ 0 ∷ 2 ∷ 0 ∷ [])
    ∷ [])
unfolding computing
holdings-hold = (refl, (refl, tt))

-- "the sum of prices of the units not open" there, in cents: 8 + 16 + 3 below 0
pub prices-hold : sum_of_prices (case_after moves_done.calls) ≡ neg_ℤ (pos 27)
unfolding computing
prices-hold = refl

-- ---- inputs of the program

-- HEAD with two pools, an unknown tag with its two bytes, POOL 0 with one unit, and a lone tag: a p line for the pool given only, and reading stops

abbrev cut_off : List ℕ
cut_off =
    -- HEAD 2, 1, {0}, 0, 0, 0, 0, 0
    1 ∷ 0 ∷ 27 ∷ 2 ∷ 0 ∷ 1 ∷ 0 ∷ 0 ∷ 0 ∷ 1 ∷ 0 ∷ 0 ∷ 0 ∷ 0 ∷ 0 ∷ 0 ∷ 0 ∷ 0 ∷ 0 ∷ 0 ∷ 0 ∷ 0 ∷ 0 ∷ 0 ∷ 0 ∷ 0 ∷ 0 ∷ 0 ∷ 0 ∷ 0 ∷
    -- tag 200, two bytes
    200 ∷ 0 ∷ 2 ∷ 7 ∷ 7 ∷
    -- POOL 0, 1, 0
    2 ∷ 0 ∷ 4 ∷ 0 ∷ 0 ∷ 1 ∷ 0 ∷
    -- a lone tag
    9 ∷
    []

pub cut-off-prints :
    printed cut_off
    ≡
    -- s 1 0
    115 ∷ 32 ∷ 49 ∷ 32 ∷ 48 ∷ 10 ∷
    -- s 200 1
    115 ∷ 32 ∷ 50 ∷ 48 ∷ 48 ∷ 32 ∷ 49 ∷ 10 ∷
    -- s 2 0
    115 ∷ 32 ∷ 50 ∷ 32 ∷ 48 ∷ 10 ∷
    -- s 9 1
    115 ∷ 32 ∷ 57 ∷ 32 ∷ 49 ∷ 10 ∷
    -- p 0 1 0 0 0 0
    112 ∷ 32 ∷ 48 ∷ 32 ∷ 49 ∷ 32 ∷ 48 ∷ 32 ∷ 48 ∷ 32 ∷ 48 ∷ 32 ∷ 48 ∷ 10 ∷
    []
unfolding computing
cut-off-prints = refl

-- "Empty input prints nothing"
pub nothing-prints : printed [] ≡ []
unfolding computing
nothing-prints = refl
