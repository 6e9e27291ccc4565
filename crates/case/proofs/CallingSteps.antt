-- CALL, PAY, MOVE, MISS and FINISH, accepted: the program's case shows the machine's. Assumes nothing.
use mathlib.Core.Path.{refl, ap, ◌∙◌}
use mathlib.Core.List.{List}
use mathlib.Core.Option.{some}
use Prim.Native.Nat.{ℕ, ◌+◌, ◌-◌, ◌≤◌}
use native.Mathlib.Omega.{arith}
use lib.ListN.{get_or}
use borrow.Author.Tests.{ltb-false, not-false}
use Rattle.lists.specs.Lists.{map_from}
use Rattle.lists.specs.Adding.{most32}
use Rattle.lists.proofs.Bools.{either}
use Rattle.lists.specs.Tests.{Passed}
use Rattle.machine.specs.Wire as Wire
use Rattle.machine.specs.Roll.{Entry}
use Rattle.machine.specs.State as M
use Rattle.machine.specs.Requirement.{owes}
use Rattle.machine.specs.Calls.{after_call, after_pay, after_move, after_miss, accepted}
use Rattle.machine.specs.Refusals.{tests, not_in_set}
use Rattle.machine.proofs.Invariant.{CaseOk}
use Rattle.machine.proofs.Bounds.{in-set-below, member-ok}
use Rattle.units.proofs.Right.{call-right, pay-right, move-right, miss-right, finish-right}
use Rattle.accounts.specs.Members.{view_members}
use Rattle.accounts.proofs.ViewMembers as X
use Rattle.book.specs.Books.{calls_in, call_book, pay_book, move_book, miss_book}
use Rattle.book.proofs.Sound.{Sound}
use Rattle.book.proofs.Shown.{listed}
use Rattle.book.proofs.Outputs.{calls-shown, calls-long}
use Rattle.case.specs.declared.Case.{Case}
use Rattle.case.specs.Cases.{case_after}
use Rattle.case.specs.View.{view}
use Rattle.case.proofs.Showing.{Shown, shown_by, case-ext}

module _ (c : Case) (roll : List Entry) (s : Sound c.stage c.book roll) (ok : CaseOk (view c roll)) where
  pub call-shown : Passed (tests (some (view c roll)) (view c roll) Wire.CALL) → Shown c roll Wire.CALL
  unfolding case_after accepted call_book after_call
  call-shown t =
      let b = c.book in
      let x = b.members in
      shown_by c roll Wire.CALL
      (case-ext _ _ refl refl refl
      (X.view-call x (calls_in b) ∙ ap (λ (ns : List ℕ). map_from 0 (λ m y. M.with_called y (get_or ns m 0)) (view_members x)) (calls-shown c.stage b roll s ok))
      refl refl refl)
      (record { set = s.set; pools = s.pools; members = X.call_long x (calls_in b) (calls-long c.stage b roll s ok) s.members; rounds = s.rounds; bids = s.bids; won = s.won })
      (call-right (view c roll) ok t b.units s.units)

  pub pay-shown : (m amount : ℕ) → Passed (tests (some (view c roll)) (view c roll) (Wire.PAY m amount)) → Shown c roll (Wire.PAY m amount)
  unfolding tests not_in_set owes case_after accepted pay_book after_pay
  pay-shown m amount t =
      let b = c.book in
      let x = b.members in
      let inside = in-set-below (view c roll) ok s.set m (not-false _ t.1.0) in
      let y = M.member_at (view_members x) m in
      let o = member-ok (view c roll) ok m in
      let owed = ltb-false (owes (view_members x) m) amount t.1.1.1.0 in
      let few : amount ≤ y.called - y.paid =
      omega (arith, owed, either (λ (n : ℕ). n ≤ y.called - y.paid) y.moved {x = 0} {y = y.called - y.paid} (omega arith) (omega arith)) in
      let fits : get_or x.paid m 0 + amount ≤ most32 =
      omega (arith, o.paid-most, o.called-most, o.contribution-most, ap (λ (z : M.Member). z.paid) (X.member-shown x m inside)) in
      shown_by c roll (Wire.PAY m amount)
      (case-ext _ _ refl refl refl (X.view-pay x m amount s.members inside fits) refl refl refl)
      (record { set = s.set; pools = s.pools; members = X.pay-long x m amount s.members; rounds = s.rounds; bids = s.bids; won = s.won })
      (pay-right (view c roll) ok m amount t b.units s.units)

  pub move-shown : (m : ℕ) → Passed (tests (some (view c roll)) (view c roll) (Wire.MOVE m)) → Shown c roll (Wire.MOVE m)
  unfolding tests not_in_set case_after accepted move_book after_move
  move-shown m t =
      let b = c.book in
      let x = b.members in
      let inside = in-set-below (view c roll) ok s.set m (not-false _ t.1.0) in
      let lists = listed c.stage b roll s ok in
      shown_by c roll (Wire.MOVE m)
      (case-ext _ _ refl refl refl (X.view-move x m inside) refl refl refl)
      (record { set = s.set; pools = s.pools; members = X.move-long x m s.members; rounds = s.rounds; bids = s.bids; won = s.won })
      (rw (X.owes-shown x m s.members) (move-right (view c roll) ok s.set m t b.units s.units b.bids.price b.bids.pool lists.price lists.pool))

  pub miss-shown : (m price : ℕ) → Passed (tests (some (view c roll)) (view c roll) (Wire.MISS m price)) → Shown c roll (Wire.MISS m price)
  unfolding case_after accepted miss_book after_miss
  miss-shown m price t =
      shown_by c roll (Wire.MISS m price)
      refl
      (record { set = s.set; pools = s.pools; members = s.members; rounds = s.rounds; bids = s.bids; won = s.won })
      (miss-right (view c roll) ok s.set m price t c.book.units s.units)

  pub finish-shown : Passed (tests (some (view c roll)) (view c roll) Wire.FINISH) → Shown c roll Wire.FINISH
  unfolding case_after accepted
  finish-shown t =
      shown_by c roll Wire.FINISH
      refl
      (record { set = s.set; pools = s.pools; members = s.members; rounds = s.rounds; bids = s.bids; won = s.won })
      (finish-right (view c roll) ok t c.book.units s.units)
