-- Every answer is one of 01's and 02's numbers, 0 to 18. Assumes nothing.
use Rattle.std.specs.Prelude.{Some, None}
use mathlib.Core.Path.{◌≡◌, refl}
use mathlib.Core.Bool.{Bool, true, ◌&&◌}
use mathlib.Core.List.{List, [], ◌∷◌}
use mathlib.Core.Option.{Option, none, some}
use Prim.Native.Nat.{ℕ, ◌≤◌}
use native.Mathlib.Omega.{arith}
use lib.Dec.{leb}
use borrow.Author.Tests.{leb-true}
use Rattle.lists.specs.Tests.{Test, first_of}
use Rattle.lists.proofs.Bools.{either, and_left, and_right}
use Rattle.lists.proofs.Each.{Each}
use Rattle.machine.specs.Wire as Wire
use Rattle.refusals.specs.Answers.{head_answer, pool_answer, member_answer, round_answer, bid_answer, close_answer, allocate_answer, tear_answer, call_answer, pay_answer, move_answer, miss_answer, finish_answer, sale_answer, withdraw_answer}
use Rattle.case.specs.declared.Case.{Case}
use Rattle.case.specs.Cases.{Held}
use Rattle.case.specs.Cases.{case_answer, first_answer, case_answer_to, first_answer_to, answer_to, take_asked, applied}
use Rattle.case.specs.Input.{ledger_answers}

-- the largest number of a refusal
abbrev pub largest : ℕ
largest = 18

-- the first number of a list is within what its numbers are
abbrev small : List Test → Bool
small [] = true
small (t ∷ ts) = leb t.0 largest && small ts

first-most : (ts : List Test) → small ts ≡ true → first_of ts ≤ largest
unfolding first_of
first-most [] h = omega arith
first-most (t ∷ ts) h =
    either (λ (n : ℕ). n ≤ largest) t.1 (leb-true t.0 largest (and_left (leb t.0 largest) (small ts) h)) (first-most ts (and_right (leb t.0 largest) (small ts) h))

case-most : (c : Case) (call : Wire.Call) → case_answer c call ≤ largest
unfolding case_answer pool_answer member_answer round_answer bid_answer close_answer allocate_answer tear_answer call_answer pay_answer move_answer miss_answer finish_answer sale_answer withdraw_answer
case-most c (Wire.HEAD h) = omega arith
case-most c (Wire.POOL pool units mark) = first-most _ refl
case-most c (Wire.MEMBER m contribution es) = first-most _ refl
case-most c (Wire.ROUND rs) = first-most _ refl
case-most c (Wire.BID pool m units price) = first-most _ refl
case-most c Wire.CLOSE = first-most _ refl
case-most c (Wire.ALLOCATE pool price) = first-most _ refl
case-most c (Wire.TEAR pool price) = first-most _ refl
case-most c Wire.CALL = first-most _ refl
case-most c (Wire.PAY m amount) = first-most _ refl
case-most c (Wire.MOVE m) = first-most _ refl
case-most c (Wire.MISS m price) = first-most _ refl
case-most c Wire.FINISH = first-most _ refl
case-most c (Wire.SALE pool m price) = first-most _ refl
case-most c (Wire.WITHDRAW m n) = first-most _ refl

first-call-most : (call : Wire.Call) → first_answer call ≤ largest
unfolding first_answer head_answer
first-call-most (Wire.HEAD h) = first-most _ refl
first-call-most (Wire.POOL pool units mark) = omega arith
first-call-most (Wire.MEMBER m contribution es) = omega arith
first-call-most (Wire.ROUND rs) = omega arith
first-call-most (Wire.BID pool m units price) = omega arith
first-call-most Wire.CLOSE = omega arith
first-call-most (Wire.ALLOCATE pool price) = omega arith
first-call-most (Wire.TEAR pool price) = omega arith
first-call-most Wire.CALL = omega arith
first-call-most (Wire.PAY m amount) = omega arith
first-call-most (Wire.MOVE m) = omega arith
first-call-most (Wire.MISS m price) = omega arith
first-call-most Wire.FINISH = omega arith
first-call-most (Wire.SALE pool m price) = omega arith
first-call-most (Wire.WITHDRAW m n) = omega arith

to-most : (h : Held) (asked : Option Wire.Call) → answer_to h asked ≤ largest
unfolding answer_to case_answer_to first_answer_to
to-most (Some c) none = omega arith
to-most (Some c) (some call) = case-most c call
to-most None none = omega arith
to-most None (some call) = first-call-most call

pub answer-most : (h : Held) (bytes : List ℕ) → (applied h bytes).answer ≤ largest
unfolding applied take_asked
answer-most h bytes = to-most h (Wire.decode bytes)

pub answers-most : (h : Held) (calls : List (List ℕ)) → Each (λ a. a ≤ largest) (ledger_answers h calls)
unfolding ledger_answers
answers-most h [] = tt
answers-most h (call ∷ calls) = (answer-most h call, answers-most (applied h call).held calls)
