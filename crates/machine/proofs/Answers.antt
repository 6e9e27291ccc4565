-- What a call is answered: 1 where the bytes are no call, else 0 or the first number that applies; a refused call leaves the state as it was.
-- Assumes nothing.
use mathlib.Core.Path.{◌≡◌, refl}
use mathlib.Core.Bool.{Bool, true, false}
use mathlib.Core.List.{List}
use mathlib.Core.Option.{Option, none, some}
use Prim.Native.Nat.{ℕ, ◌≤◌}
use native.Mathlib.Omega.{arith}
use lib.Dec.{eqb}
use borrow.Author.Tests.{eqb-true, eqb-false, eq-eqb}
use Rattle.lists.specs.Lists.{when◌then◌else◌}
use Rattle.lists.proofs.Each.{Each}
use Rattle.lists.specs.Tests.{Passed, First}
use Rattle.lists.proofs.Passed.{passed, accepted as passed-accepted, first_holds, ascending, ascending-numbered, first-least}
use Rattle.machine.specs.Wire.{Call, HEAD, POOL, MEMBER, ROUND, BID, CLOSE, ALLOCATE, TEAR, CALL, PAY, MOVE, MISS, FINISH, SALE, WITHDRAW, decode}
use Rattle.machine.specs.State.{Case, State, the_case}
use Rattle.machine.specs.Calls.{accepted}
use Rattle.machine.specs.Refusals.{tests, refusal}
use Rattle.machine.specs.Machine.{answered, step}

-- each call's tests stand in the order of their numbers
pub tests-ascend : (s : State) (c : Case) (call : Call) → ascending 0 (tests s c call) ≡ true
unfolding tests
tests-ascend s c (HEAD h) = refl
tests-ascend s c (POOL pool units mark) = refl
tests-ascend s c (MEMBER m contribution expected) = refl
tests-ascend s c (ROUND reserves) = refl
tests-ascend s c (BID pool m units price) = refl
tests-ascend s c CLOSE = refl
tests-ascend s c (ALLOCATE pool price) = refl
tests-ascend s c (TEAR pool price) = refl
tests-ascend s c CALL = refl
tests-ascend s c (PAY m amount) = refl
tests-ascend s c (MOVE m) = refl
tests-ascend s c (MISS m price) = refl
tests-ascend s c FINISH = refl
tests-ascend s c (SALE pool m price) = refl
tests-ascend s c (WITHDRAW m n) = refl

module _ (s : State) (call : Call) where
  -- an accepted call passed every test, and back
  pub accepted-passed : refusal s call ≡ 0 → Passed (tests s (the_case s) call)
  unfolding refusal
  accepted-passed e =
      let ts = tests s (the_case s) call in
      passed ts (ascending-numbered 0 ts (tests-ascend s (the_case s) call)) e

  pub passed-accepts : Passed (tests s (the_case s) call) → refusal s call ≡ 0
  unfolding refusal
  passed-accepts t = passed-accepted (tests s (the_case s) call) t

  -- a declined one has the number of a test that holds, before which none holds
  pub refusal-first : (refusal s call ≡ 0 → ⊥) → First (refusal s call) (tests s (the_case s) call)
  unfolding refusal
  refusal-first h = first_holds (tests s (the_case s) call) h

  -- and that is the least number of a test that holds
  pub refusal-least : Each (λ t. t.1 ≡ true → refusal s call ≤ t.0) (tests s (the_case s) call)
  unfolding refusal
  refusal-least = first-least 0 (tests s (the_case s) call) (tests-ascend s (the_case s) call)

-- ---- a step

-- bytes that are no call
pub no_call : (s : State) (bytes : List ℕ) → decode bytes ≡ none → (step s bytes).answer ≡ 1
unfolding step answered
no_call s bytes e = rw e

-- bytes that are a call
pub call-answer : (s : State) (bytes : List ℕ) (call : Call) → decode bytes ≡ some call → (step s bytes).answer ≡ refusal s call
unfolding step answered
call-answer s bytes call e = rw e

pub call-accepted : (s : State) (bytes : List ℕ) (call : Call) → decode bytes ≡ some call → refusal s call ≡ 0
    → (step s bytes).state ≡ some (accepted (the_case s) call)
unfolding step answered
call-accepted s bytes call e a = rw (e, eq-eqb (refusal s call) 0 a)

-- "a refused call leaves all as it was"
refused-call : (s : State) (call : Call) (b : Bool) → eqb (refusal s call) 0 ≡ b → (refusal s call ≡ 0 → ⊥) →
    ◌≡◌ {A = State} (when b then some (accepted (the_case s) call) else s) s
refused-call s call true e h = absurd (h (eqb-true (refusal s call) 0 e))
refused-call s call false e h = refl

refused-read : (s : State) (c : Option Call) → ((answered s c).answer ≡ 0 → ⊥) → (answered s c).state ≡ s
unfolding answered
refused-read s none h = refl
refused-read s (some call) h = refused-call s call (eqb (refusal s call) 0) refl h

pub refused-unchanged : (s : State) (bytes : List ℕ) → ((step s bytes).answer ≡ 0 → ⊥) → (step s bytes).state ≡ s
unfolding step
refused-unchanged s bytes h = refused-read s (decode bytes) h

-- what holds of a refusal and the state unchanged, and of 0 and the case after each call that passed its tests, holds of a step
pub step-cases : (P : ℕ → State → Type 0) (s : State) (bytes : List ℕ) → ((n : ℕ) → (n ≡ 0 → ⊥) → P n s)
    → ((call : Call) → decode bytes ≡ some call → Passed (tests s (the_case s) call) → P 0 (some (accepted (the_case s) call)))
    → P (step s bytes).answer (step s bytes).state
unfolding step answered
step-cases P s bytes refused taken = by_call (decode bytes) refl
  where
    by_answer : (call : Call) → decode bytes ≡ some call → (b : Bool) → eqb (refusal s call) 0 ≡ b
        → P (refusal s call) (when b then some (accepted (the_case s) call) else s)
    by_answer call e true a =
        let zero = eqb-true (refusal s call) 0 a in
        rw zero (taken call e (accepted-passed s call zero))
    by_answer call e false a = refused (refusal s call) (eqb-false (refusal s call) 0 a)

    by_call : (o : Option Call) → decode bytes ≡ o → P (answered s o).answer (answered s o).state
    by_call none e = refused 1 (λ z. omega arith)
    by_call (some call) e = by_answer call e (eqb (refusal s call) 0) refl
