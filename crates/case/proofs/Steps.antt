-- Every accepted call: the program's case after it shows the machine's case after it, with the machine's roll, and is sound again. Assumes nothing.
use mathlib.Core.Path.{sym, ◌∙◌}
use mathlib.Core.Bool.{false≢true}
use mathlib.Core.List.{List}
use mathlib.Core.Option.{some}
use borrow.Author.Tests.{not-false}
use Rattle.lists.specs.Tests.{Passed}
use Rattle.machine.specs.Wire as Wire
use Rattle.machine.specs.Roll.{Entry}
use Rattle.machine.specs.State.{letter_of}
use Rattle.machine.specs.Refusals.{tests}
use Rattle.machine.proofs.Invariant.{CaseOk}
use Rattle.machine.proofs.Stages.{letter-some}
use Rattle.machine.proofs.Reached.{Fits}
use Rattle.book.proofs.Sound.{Sound}
use Rattle.case.specs.declared.Case.{Case}
use Rattle.case.specs.View.{view}
pub use Rattle.case.proofs.Showing.{Shown}
pub use Rattle.case.proofs.SetupSteps.{head-shown}
use Rattle.case.proofs.SetupSteps.{pool-shown, member-shown, round-shown, sale-shown}
use Rattle.case.proofs.BiddingSteps.{bid-shown, withdraw-shown, close-shown}
use Rattle.case.proofs.PlacingSteps.{allocate-shown, tear-shown}
use Rattle.case.proofs.CallingSteps.{call-shown, pay-shown, move-shown, miss-shown, finish-shown}

pub next-shown : (c : Case) (roll : List Entry) → Sound c.stage c.book roll → CaseOk (view c roll) → (call : Wire.Call) → Fits call
    → Passed (tests (some (view c roll)) (view c roll) call) → Shown c roll call
unfolding tests letter_of
-- HEAD is declined where a case is held
next-shown c roll s ok (Wire.HEAD h) f t = absurd (false≢true (sym (letter-some (view c roll).stage) ∙ not-false _ t.0))
next-shown c roll s ok (Wire.POOL pool units mark) f t = pool-shown c roll s ok pool units mark t
next-shown c roll s ok (Wire.MEMBER m contribution es) f t = member-shown c roll s ok m contribution es f t
next-shown c roll s ok (Wire.ROUND rs) f t = round-shown c roll s ok rs t
next-shown c roll s ok (Wire.BID pool m units price) f t = bid-shown c roll s ok pool m units price t
next-shown c roll s ok Wire.CLOSE f t = close-shown c roll s ok t
next-shown c roll s ok (Wire.ALLOCATE pool price) f t = allocate-shown c roll s ok pool price t
next-shown c roll s ok (Wire.TEAR pool price) f t = tear-shown c roll s ok pool price t
next-shown c roll s ok Wire.CALL f t = call-shown c roll s ok t
next-shown c roll s ok (Wire.PAY m amount) f t = pay-shown c roll s ok m amount t
next-shown c roll s ok (Wire.MOVE m) f t = move-shown c roll s ok m t
next-shown c roll s ok (Wire.MISS m price) f t = miss-shown c roll s ok m price t
next-shown c roll s ok Wire.FINISH f t = finish-shown c roll s ok t
next-shown c roll s ok (Wire.SALE pool m price) f t = sale-shown c roll s ok pool m price t
next-shown c roll s ok (Wire.WITHDRAW m n) f t = withdraw-shown c roll s ok m n t
