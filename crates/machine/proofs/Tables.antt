-- The machine's step keeps to the table of stages (`specs/Table`), in every state and for any bytes: no entry of the table, and none of the tests of
-- the stage, can be another. Assumes nothing.
use mathlib.Core.Path.{◌≡◌, refl, sym, ap, ◌∙◌}
use mathlib.Core.Bool.{Bool, true, false, ◌&&◌, ◌||◌, not}
use mathlib.Core.List.{List, [], ◌∷◌}
use mathlib.Core.Option.{Option, none, some}
use Prim.Native.Nat.{ℕ, suc, ◌<◌}
use native.Mathlib.Omega.{arith}
use lib.Dec.{eqb}
use lib.ListN.{length}
use borrow.Author.Tests.{eqb-true, lt-leb}
use Rattle.lists.specs.Lists.{when◌then◌else◌}
use Rattle.lists.specs.Tests.{Test, first_of}
use Rattle.lists.proofs.Passed.{ascending, ascending-above}
use Rattle.lists.proofs.Each.{Each}
use Rattle.machine.specs.Wire.{Head, Call, HEAD, POOL, MEMBER, ROUND, BID, CLOSE, ALLOCATE, TEAR, CALL, PAY, MOVE, MISS, FINISH, SALE, WITHDRAW, decode}
use Rattle.machine.specs.Roll.{any_open}
use Rattle.machine.specs.State.{Stage, Setup, Bidding, After, CallsOut, Finished, Case, State, letter, letter_of, round_of, the_case}
use Rattle.machine.specs.Calls.{accepted, after_pool, after_member, after_round, after_bid, after_close, after_allocate, after_tear, after_call, after_pay, after_move, after_miss, sold, after_sale, after_withdraw}
use Rattle.machine.specs.Refusals.{tests, refusal}
use Rattle.machine.specs.Machine.{step, answered}
use Rattle.machine.specs.Table.{Letter, N, S, B1, B2, A1, A2, C, F, of_round, letter_of_stage, letter_in, Cell, x, to, while_open, row, stage_table, wrong_reserves, wrong_length, declined, meant, early_answer, first_two, ByTable}
use Rattle.machine.proofs.Answers.{call-accepted, call-answer}
use Rattle.machine.proofs.Stages.{letter-some}

-- ---- the first numbers of a list of tests

-- numbers above 2 are neither 1 nor 2
later-none : (ts : List Test) → Each (λ t. 2 < t.0) ts → first_two (first_of ts) ≡ 0
unfolding first_of
later-none [] h = refl
later-none ((n, true) ∷ ts) h = rw (lt-leb n 2 h.0)
later-none ((n, false) ∷ ts) h = later-none ts h.1

-- test 2 decides unless it fails
second : (b : Bool) (ts : List Test) → ascending 2 ts ≡ true → first_two (first_of ((2, b) ∷ ts)) ≡ (when b then 2 else 0)
unfolding first_of
second true ts h = refl
second false ts h = later-none ts (ascending-above 2 ts h)

-- tests 1 and 2 decide unless both fail
first-and-second : (a b : Bool) (ts : List Test) → ascending 2 ts ≡ true → first_two (first_of ((1, a) ∷ (2, b) ∷ ts)) ≡ (when a then 1 else when b then 2 else 0)
unfolding first_of
first-and-second true b ts h = refl
first-and-second false b ts h = second b ts h

-- ---- by stage

-- what holds of each letter, its number and whether its round is the first, holds of every stage
by-stage : (P : ℕ → Bool → Letter → Type 0) → P 1 false S → P 2 true B1 → P 2 false B2 → P 3 true A1 → P 3 false A2 → P 4 false C → P 5 false F
    → (s : Stage) → P (letter s) (eqb (round_of s) 1) (letter_of_stage s)
unfolding letter round_of letter_of_stage
by-stage P s b1 b2 a1 a2 c f Setup = s
by-stage P s b1 b2 a1 a2 c f (Bidding round) = in-round (eqb round 1)
  where
    in-round : (one : Bool) → P 2 one (when one then B1 else B2)
    in-round true = b1
    in-round false = b2
by-stage P s b1 b2 a1 a2 c f (After round) = in-round (eqb round 1)
  where
    in-round : (one : Bool) → P 3 one (when one then A1 else A2)
    in-round true = a1
    in-round false = a2
by-stage P s b1 b2 a1 a2 c f CallsOut = c
by-stage P s b1 b2 a1 a2 c f Finished = f

-- ---- the answers 1 and 2

-- a test of the stage, by its number and whether its round is the first, and a row of the table that agrees with it at a letter
abbrev Agree : (ℕ → Bool → Bool) → (Letter → Cell) → ℕ → Bool → Letter → Type 0
Agree test entry k one l = (when test k one then 2 else 0) ≡ declined (entry l)

-- with no case, HEAD alone is allowed
head-allowed : (h : Head) → first_two (refusal none (HEAD h)) ≡ 0
unfolding refusal tests letter_of
head-allowed h = second _ _ refl

early-none : (call : Call) → first_two (refusal none call) ≡ early_answer none (some call)
unfolding refusal tests early_answer wrong_length wrong_reserves letter_in letter_of stage_table row declined first_of
early-none (HEAD h) = head-allowed h
early-none (POOL pool units mark) = refl
early-none (MEMBER m contribution expected) = refl
early-none (ROUND reserves) = refl
early-none (BID pool m units price) = refl
early-none CLOSE = refl
early-none (ALLOCATE pool price) = refl
early-none (TEAR pool price) = refl
early-none CALL = refl
early-none (PAY m amount) = refl
early-none (MOVE m) = refl
early-none (MISS m price) = refl
early-none FINISH = refl
early-none (SALE pool m price) = refl
early-none (WITHDRAW m n) = refl

module _ (c : Case) where
  -- a call whose first test is that of the stage
  by_row : (call : Call) (test : ℕ → Bool → Bool) (ts : List Test) → ascending 2 ts ≡ true
      → Agree test (stage_table call) 1 false S
      → Agree test (stage_table call) 2 true B1
      → Agree test (stage_table call) 2 false B2
      → Agree test (stage_table call) 3 true A1
      → Agree test (stage_table call) 3 false A2
      → Agree test (stage_table call) 4 false C
      → Agree test (stage_table call) 5 false F
      → first_two (first_of ((2, test (letter c.stage) (eqb (round_of c.stage) 1)) ∷ ts)) ≡ declined (stage_table call (letter_of_stage c.stage))
  by_row call test ts h s b1 b2 a1 a2 k f = second _ ts h ∙ by-stage (Agree test (stage_table call)) s b1 b2 a1 a2 k f c.stage

  early-some : (call : Call) → first_two (refusal (some c) call) ≡ early_answer (some c) (some call)
  unfolding refusal tests early_answer wrong_length wrong_reserves letter_in letter_of stage_table row declined
  early-some (HEAD h) = by_row (HEAD h) (λ k one. not (eqb k 0)) _ refl refl refl refl refl refl refl refl
  early-some (POOL pool units mark) = by_row (POOL pool units mark) (λ k one. not (eqb k 1)) _ refl refl refl refl refl refl refl refl
  early-some (MEMBER m contribution expected) =
      by_row (MEMBER m contribution expected) (λ k one. not (eqb k 1)) _ refl refl refl refl refl refl refl refl
  early-some (ROUND reserves) =
      first-and-second _ _ _ refl
      ∙ rw (letter-some c.stage)
      (ap (λ (n : ℕ). when not (eqb (length reserves) c.head.pools) then 1 else n)
      (by-stage (Agree (λ k one. not (eqb k 1 || (eqb k 3 && one))) (stage_table (ROUND reserves))) refl refl refl refl refl refl refl c.stage))
  early-some (BID pool m units price) = by_row (BID pool m units price) (λ k one. not (eqb k 2)) _ refl refl refl refl refl refl refl refl
  early-some CLOSE = by_row CLOSE (λ k one. not (eqb k 2)) _ refl refl refl refl refl refl refl refl
  early-some (ALLOCATE pool price) = by_row (ALLOCATE pool price) (λ k one. not (eqb k 3)) _ refl refl refl refl refl refl refl refl
  early-some (TEAR pool price) = by_row (TEAR pool price) (λ k one. not (eqb k 3)) _ refl refl refl refl refl refl refl refl
  early-some CALL = by_row CALL (λ k one. not (eqb k 3)) _ refl refl refl refl refl refl refl refl
  early-some (PAY m amount) = by_row (PAY m amount) (λ k one. not (eqb k 4)) _ refl refl refl refl refl refl refl refl
  early-some (MOVE m) = by_row (MOVE m) (λ k one. not (eqb k 4)) _ refl refl refl refl refl refl refl refl
  early-some (MISS m price) = by_row (MISS m price) (λ k one. not (eqb k 3 || eqb k 4)) _ refl refl refl refl refl refl refl refl
  early-some FINISH = by_row FINISH (λ k one. not (eqb k 3 || eqb k 4)) _ refl refl refl refl refl refl refl refl
  early-some (SALE pool m price) = by_row (SALE pool m price) (λ k one. not (eqb k 1)) _ refl refl refl refl refl refl refl refl
  early-some (WITHDRAW m n) = by_row (WITHDRAW m n) (λ k one. not (eqb k 2)) _ refl refl refl refl refl refl refl refl

early : (s : State) (call : Call) → first_two (refusal s call) ≡ early_answer s (some call)
early none call = early-none call
early (some c) call = early-some c call

-- ---- the stage after an accepted call

-- an entry for a letter where the call is allowed, and x where it is not
abbrev own : Bool → Letter → Cell
own true l = to l
own false l = x

own-allowed : (next : State) (b : Bool) (l : Letter) → declined (own b l) ≡ 0 → to l ≡ meant next (own b l)
unfolding declined meant
own-allowed next true l e = refl
own-allowed next false l e = absurd (omega arith)

module _ (next : State) (n s b1 b2 a1 a2 k f : Bool) where
  -- a row of calls that leave the stage as it is
  left : (l : Letter) → declined (row (own n N) (own s S) (own b1 B1) (own b2 B2) (own a1 A1) (own a2 A2) (own k C) (own f F) l) ≡ 0
      → to l ≡ meant next (row (own n N) (own s S) (own b1 B1) (own b2 B2) (own a1 A1) (own a2 A2) (own k C) (own f F) l)
  unfolding row
  left N = own-allowed next n N
  left S = own-allowed next s S
  left B1 = own-allowed next b1 B1
  left B2 = own-allowed next b2 B2
  left A1 = own-allowed next a1 A1
  left A2 = own-allowed next a2 A2
  left C = own-allowed next k C
  left F = own-allowed next f F

  -- a row of calls that make one stage
  made : (m l : Letter) → declined (row (own n m) (own s m) (own b1 m) (own b2 m) (own a1 m) (own a2 m) (own k m) (own f m) l) ≡ 0
      → to m ≡ meant next (row (own n m) (own s m) (own b1 m) (own b2 m) (own a1 m) (own a2 m) (own k m) (own f m) l)
  unfolding row
  made m N = own-allowed next n m
  made m S = own-allowed next s m
  made m B1 = own-allowed next b1 m
  made m B2 = own-allowed next b2 m
  made m A1 = own-allowed next a1 m
  made m A2 = own-allowed next a2 m
  made m C = own-allowed next k m
  made m F = own-allowed next f m

-- ROUND makes B of the next round
round-makes : (next : State) (s : Stage) → declined (row x (to B1) x x (to B2) x x x (letter_of_stage s)) ≡ 0
    → to (letter_of_stage (Bidding (suc (round_of s)))) ≡ meant next (row x (to B1) x x (to B2) x x x (letter_of_stage s))
unfolding row declined meant letter_of_stage round_of
round-makes next Setup e = refl
round-makes next (Bidding r) e = absurd (never (eqb r 1) e)
  where
    never : (one : Bool) → declined (row x (to B1) x x (to B2) x x x (when one then B1 else B2)) ≡ 0 → ⊥
    never true e = omega arith
    never false e = omega arith
round-makes next (After r) e = after (eqb r 1) refl e
  where
    after : (one : Bool) → eqb r 1 ≡ one → declined (row x (to B1) x x (to B2) x x x (when one then A1 else A2)) ≡ 0
        → to (of_round (suc r) B1 B2) ≡ meant next (row x (to B1) x x (to B2) x x x (when one then A1 else A2))
    after true first e = rw (eqb-true r 1 first)
    after false first e = absurd (omega arith)
round-makes next CallsOut e = absurd (omega arith)
round-makes next Finished e = absurd (omega arith)

-- CLOSE makes A of the same round
close-makes : (next : State) (s : Stage) → declined (row x x (to A1) (to A2) x x x x (letter_of_stage s)) ≡ 0
    → to (letter_of_stage (After (round_of s))) ≡ meant next (row x x (to A1) (to A2) x x x x (letter_of_stage s))
unfolding row declined meant letter_of_stage
close-makes next =
    by-stage (λ k one l. declined (row x x (to A1) (to A2) x x x x l) ≡ 0 → to (when one then A1 else A2) ≡ meant next (row x x (to A1) (to A2) x x x x l))
    (λ e. absurd (omega arith))
    (λ e. refl)
    (λ e. refl)
    (λ e. absurd (omega arith))
    (λ e. absurd (omega arith))
    (λ e. absurd (omega arith))
    (λ e. absurd (omega arith))

-- SALE leaves S while a unit is open, and makes A1 where none is
sale-makes : (s : Stage) (some-open : Bool) → declined (row x (while_open S A1) x x x x x x (letter_of_stage s)) ≡ 0
    → letter_of_stage (when some-open then s else After 1) ≡ (when some-open then S else A1)
unfolding row declined letter_of_stage
sale-makes s true = by-stage (λ k one l. declined (row x (while_open S A1) x x x x x x l) ≡ 0 → l ≡ S)
    (λ e. refl)
    (λ e. absurd (omega arith))
    (λ e. absurd (omega arith))
    (λ e. absurd (omega arith))
    (λ e. absurd (omega arith))
    (λ e. absurd (omega arith))
    (λ e. absurd (omega arith)) s
sale-makes s false = λ e. refl

in-setup : (s : Stage) → declined (row x (while_open S A1) x x x x x x (letter_of_stage s)) ≡ 0 → letter_of_stage s ≡ S
in-setup s = sale-makes s true

-- the stage after a call that the table allows, from no case and from a case
stage-none : (call : Call) → declined (stage_table call N) ≡ 0 → to (letter_of_stage (accepted (the_case none) call).stage) ≡ meant (some (accepted (the_case none) call)) (stage_table call N)
unfolding stage_table row declined meant accepted letter_of_stage
stage-none (HEAD h) e = refl
stage-none (POOL pool units mark) e = absurd (omega arith)
stage-none (MEMBER m contribution expected) e = absurd (omega arith)
stage-none (ROUND reserves) e = absurd (omega arith)
stage-none (BID pool m units price) e = absurd (omega arith)
stage-none CLOSE e = absurd (omega arith)
stage-none (ALLOCATE pool price) e = absurd (omega arith)
stage-none (TEAR pool price) e = absurd (omega arith)
stage-none CALL e = absurd (omega arith)
stage-none (PAY m amount) e = absurd (omega arith)
stage-none (MOVE m) e = absurd (omega arith)
stage-none (MISS m price) e = absurd (omega arith)
stage-none FINISH e = absurd (omega arith)
stage-none (SALE pool m price) e = absurd (omega arith)
stage-none (WITHDRAW m n) e = absurd (omega arith)

module _ (c : Case) where
  abbrev here : Letter
  here = letter_of_stage c.stage

  stage-some : (call : Call) → declined (stage_table call here) ≡ 0 → to (letter_of_stage (accepted c call).stage) ≡ meant (some (accepted c call)) (stage_table call here)
  unfolding stage_table meant accepted letter_of_stage after_pool after_member after_round after_bid after_close after_allocate after_tear after_call after_pay after_move after_miss after_sale after_withdraw row
  stage-some (HEAD h) e = made (some (accepted c (HEAD h))) true false false false false false false false S here e
  stage-some (POOL pool units mark) e = left (some (accepted c (POOL pool units mark))) false true false false false false false false here e
  stage-some (MEMBER m contribution expected) e = left (some (accepted c (MEMBER m contribution expected))) false true false false false false false false here e
  stage-some (ROUND reserves) e = round-makes (some (accepted c (ROUND reserves))) c.stage e
  stage-some (BID pool m units price) e = left (some (accepted c (BID pool m units price))) false false true true false false false false here e
  stage-some CLOSE e = close-makes (some (accepted c CLOSE)) c.stage e
  stage-some (ALLOCATE pool price) e = left (some (accepted c (ALLOCATE pool price))) false false false false true true false false here e
  stage-some (TEAR pool price) e = left (some (accepted c (TEAR pool price))) false false false false true true false false here e
  stage-some CALL e = made (some (accepted c CALL)) false false false false true true false false C here e
  stage-some (PAY m amount) e = left (some (accepted c (PAY m amount))) false false false false false false true false here e
  stage-some (MOVE m) e = left (some (accepted c (MOVE m))) false false false false false false true false here e
  stage-some (MISS m price) e = left (some (accepted c (MISS m price))) false false false false true true true false here e
  stage-some FINISH e = made (some (accepted c FINISH)) false false false false true true true false F here e
  stage-some (SALE pool m price) e = rw (in-setup c.stage e) (ap to (sale-makes c.stage (any_open (sold pool m price c.roll)) e))
  stage-some (WITHDRAW m n) e = left (some (accepted c (WITHDRAW m n))) false false true true false false false false here e

stage-after : (s : State) (call : Call) → declined (stage_table call (letter_in s)) ≡ 0
    → to (letter_in (some (accepted (the_case s) call))) ≡ meant (some (accepted (the_case s) call)) (stage_table call (letter_in s))
unfolding letter_in
stage-after none call e = stage-none call e
stage-after (some c) call e = stage-some c call e

-- ---- the law

-- where neither 1 nor 2 applies, the table allows the call
allowed : (b : Bool) (entry : Cell) → (when b then 1 else declined entry) ≡ 0 → declined entry ≡ 0
allowed true entry e = absurd (omega arith)
allowed false entry e = e

step-answer : (s : State) (o : Option Call) → first_two (answered s o).answer ≡ early_answer s o
unfolding answered early_answer
step-answer s none = refl
step-answer s (some call) = early s call

pub by-table : (s : State) (bytes : List ℕ) → ByTable s bytes
unfolding step early_answer
by-table s bytes =
    record {
      answer = step-answer s (decode bytes);
      stage = λ call is e.
          let zero : refusal s call ≡ 0 = sym (call-answer s bytes call is) ∙ e in
          let none-applies : early_answer s (some call) ≡ 0 = sym (early s call) ∙ ap first_two zero in
          rw (call-accepted s bytes call is zero) (stage-after s call (allowed (wrong_length s call) (stage_table call (letter_in s)) none-applies));
    }
