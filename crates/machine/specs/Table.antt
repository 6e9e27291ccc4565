-- Document 01, "The case and its calls": the column "stages" of the table of calls, as one table, and what it says of every step of the machine.
-- The machine's own tests and stages (`Refusals.tests`, `Calls.accepted`) are not written by this table; `step-by-table` shows that they agree with it.
use Rattle.std.specs.Prelude.{Bool, false, not, List, ◌≡◌, ℕ, leb, eqb, length}
use Rattle.std.proofs.Math.Option.{Option, none, some}
use Rattle.lists.specs.Lists.{when◌then◌else◌}
use Rattle.machine.specs.Wire.{Call, HEAD, POOL, MEMBER, ROUND, BID, CLOSE, ALLOCATE, TEAR, CALL, PAY, MOVE, MISS, FINISH, SALE, WITHDRAW, decode}
use Rattle.machine.specs.Roll.{any_open}
use Rattle.machine.specs.State.{Stage, Setup, Bidding, After, CallsOut, Finished, State, the_case}
use Rattle.machine.specs.Machine.{step}

-- ---- the stages by their letters

-- no case, and "S setup, B bidding, A after a round (B and A in round 1 or 2), C calls out, F finished"
pub data Letter : Type 0 where
  N : Letter
  S : Letter
  B1 : Letter
  B2 : Letter
  A1 : Letter
  A2 : Letter
  C : Letter
  F : Letter

-- a letter of round 1, or that of round 2
abbrev pub of_round : ℕ → Letter → Letter → Letter
of_round round one two = when eqb round 1 then one else two

unfoldable pub letter_of_stage : Stage → Letter
letter_of_stage Setup = S
letter_of_stage (Bidding round) = of_round round B1 B2
letter_of_stage (After round) = of_round round A1 A2
letter_of_stage CallsOut = C
letter_of_stage Finished = F

unfoldable pub letter_in : State → Letter
letter_in none = N
letter_in (some c) = letter_of_stage c.stage

-- ---- the table

-- a cell: "The stage doesn't allow the call", or the stage that the call, accepted, makes or leaves; or two, the first of them while a unit is open
-- after the call
pub data Cell : Type 0 where
  x : Cell
  to : Letter → Cell
  while_open : Letter → Letter → Cell

-- a row: its cells for no case, S, B of round 1, B of round 2, A of round 1, A of round 2, C, F
unfoldable pub row : (n s b1 b2 a1 a2 c f : Cell) → Letter → Cell
row n s b1 b2 a1 a2 c f N = n
row n s b1 b2 a1 a2 c f S = s
row n s b1 b2 a1 a2 c f B1 = b1
row n s b1 b2 a1 a2 c f B2 = b2
row n s b1 b2 a1 a2 c f A1 = a1
row n s b1 b2 a1 a2 c f A2 = a2
row n s b1 b2 a1 a2 c f C = c
row n s b1 b2 a1 a2 c f F = f

unfoldable pub stage_table : Call → Letter → Cell
-- "no case yet; makes S"
stage_table (HEAD h) = row (to S) x x x x x x x
-- "S"
stage_table (POOL pool units mark) = row x (to S) x x x x x x
-- "S"
stage_table (MEMBER m contribution expected) = row x (to S) x x x x x x
-- "S, A1; makes B"
stage_table (ROUND reserves) = row x (to B1) x x (to B2) x x x
-- "B"
stage_table (BID pool m units price) = row x x (to B1) (to B2) x x x x
-- "B; makes A"
stage_table CLOSE = row x x (to A1) (to A2) x x x x
-- "A"
stage_table (ALLOCATE pool price) = row x x x x (to A1) (to A2) x x
-- "A"
stage_table (TEAR pool price) = row x x x x (to A1) (to A2) x x
-- "A; makes C"
stage_table CALL = row x x x x (to C) (to C) x x
-- "C"
stage_table (PAY m amount) = row x x x x x x (to C) x
-- "C"
stage_table (MOVE m) = row x x x x x x (to C) x
-- "A, C"
stage_table (MISS m price) = row x x x x (to A1) (to A2) (to C) x
-- "A, C; makes F"
stage_table FINISH = row x x x x (to F) (to F) (to F) x
-- document 02, C-12: "in stage S .. If no unit is open afterwards the stage becomes A1"
stage_table (SALE pool m price) = row x (while_open S A1) x x x x x x
-- document 02, C-14: "while a round is open"
stage_table (WITHDRAW m n) = row x x (to B1) (to B2) x x x x

-- ---- the law

-- "1. .. a wrong length (ROUND: 4 × pools; with no case 4, 8, 12 or 16)": as many reserves as HEAD has pools, once there is a case
unfoldable pub wrong_reserves : State → List ℕ → Bool
wrong_reserves none reserves = false
wrong_reserves (some c) reserves = not (eqb (length reserves) c.head.pools)

unfoldable pub wrong_length : State → Call → Bool
wrong_length s (HEAD h) = false
wrong_length s (POOL pool units mark) = false
wrong_length s (MEMBER m contribution expected) = false
wrong_length s (ROUND reserves) = wrong_reserves s reserves
wrong_length s (BID pool m units price) = false
wrong_length s CLOSE = false
wrong_length s (ALLOCATE pool price) = false
wrong_length s (TEAR pool price) = false
wrong_length s CALL = false
wrong_length s (PAY m amount) = false
wrong_length s (MOVE m) = false
wrong_length s (MISS m price) = false
wrong_length s FINISH = false
wrong_length s (SALE pool m price) = false
wrong_length s (WITHDRAW m n) = false

-- "2. The stage doesn't allow the call."
unfoldable pub declined : Cell → ℕ
declined x = 2
declined (to letter) = 0
declined (while_open before after) = 0

-- the cell with the one stage that it means for a state that the call leaves
unfoldable pub meant : State → Cell → Cell
meant next x = x
meant next (to letter) = to letter
meant next (while_open before after) = to (when any_open (the_case next).roll then before else after)

-- the number 1 or 2 that applies to what was decoded, and 0 where neither does
unfoldable pub early_answer : State → Option Call → ℕ
early_answer s none = 1
early_answer s (some call) = when wrong_length s call then 1 else declined (stage_table call (letter_in s))

-- an answer of 1 or 2, and 0 for any other
abbrev pub first_two : ℕ → ℕ
first_two n = when leb n 2 then n else 0

-- the law: a step is answered 1 or 2 exactly where the table says so, and an accepted call leaves the case in the table's stage
pub record ByTable (s : State) (bytes : List ℕ) : Type 0 where
  pub answer : first_two (step s bytes).answer ≡ early_answer s (decode bytes)
  pub stage : (call : Call) → decode bytes ≡ some call → (step s bytes).answer ≡ 0 → to (letter_in (step s bytes).state) ≡ meant (step s bytes).state (stage_table call (letter_in s))
