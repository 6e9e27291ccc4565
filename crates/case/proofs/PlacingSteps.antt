-- ALLOCATE and TEAR, accepted: the program's case shows the machine's. Assumes nothing.
use mathlib.Core.Path.{◌≡◌, refl, ap, ◌∙◌}
use mathlib.Core.List.{List}
use mathlib.Core.Option.{some}
use Prim.Native.Nat.{ℕ, ◌<◌}
use native.Mathlib.Omega.{arith}
use lib.ListN.{get_or}
use borrow.Author.Tests.{leb-false}
use Rattle.lists.specs.Lists.{map_from}
use Rattle.lists.specs.Tests.{Passed}
use Rattle.machine.specs.Wire as Wire
use Rattle.machine.specs.Roll.{Entry}
use Rattle.machine.specs.Calls.{allocation, also_allocated, after_allocate, after_tear, accepted}
use Rattle.machine.specs.Refusals.{tests, not_in_case}
use Rattle.machine.proofs.Invariant.{CaseOk}
use Rattle.units.proofs.Right.{allocate-right, tear-right}
use Rattle.accounts.specs.Members.{with_shares, view_members}
use Rattle.accounts.proofs.ViewMembers as X
use Rattle.book.specs.Books.{allocation_in, allocate_book, tear_book}
use Rattle.book.proofs.Sound.{Sound}
use Rattle.book.proofs.Outputs.{allocation-shown, allocation-outside, allocation-fits}
use Rattle.case.specs.declared.Case.{Case}
use Rattle.case.specs.Cases.{case_after}
use Rattle.case.specs.View.{view}
use Rattle.case.proofs.Showing.{Shown, shown_by, case-ext}

module _ (c : Case) (roll : List Entry) (s : Sound c.stage c.book roll) (ok : CaseOk (view c roll)) where
  pub allocate-shown : (pool price : ℕ) → Passed (tests (some (view c roll)) (view c roll) (Wire.ALLOCATE pool price)) → Shown c roll (Wire.ALLOCATE pool price)
  unfolding tests not_in_case case_after accepted allocate_book after_allocate with_shares
  allocate-shown pool price t =
      let b = c.book in
      let x = b.members in
      let inside : pool < b.head.pools = leb-false b.head.pools pool t.1.0 in
      let low : pool < 4 = omega (arith, ok.head.pools-most) in
      let shares = allocation_in b pool in
      let same : shares ≡ allocation (view c roll) pool = allocation-shown c.stage b roll s ok pool inside in
      shown_by c roll (Wire.ALLOCATE pool price)
      (case-ext _ _ refl refl refl
      (X.view-allocate x b.head.set pool shares s.members low (λ m l e. allocation-outside c.stage b roll s ok pool inside m e) (allocation-fits c.stage b roll s ok pool inside)
      ∙ ap (λ (ns : List ℕ). map_from 0 (λ m y. also_allocated pool (get_or ns m 0) y) (view_members x)) same)
      refl refl refl)
      (record { set = s.set; pools = s.pools; members = X.allocate-long x b.head.set pool shares s.members; rounds = s.rounds; bids = s.bids; won = s.won })
      (rw same (allocate-right (view c roll) ok pool price t b.units s.units))

  pub tear-shown : (pool price : ℕ) → Passed (tests (some (view c roll)) (view c roll) (Wire.TEAR pool price)) → Shown c roll (Wire.TEAR pool price)
  unfolding case_after accepted tear_book after_tear
  tear-shown pool price t =
      shown_by c roll (Wire.TEAR pool price)
      refl
      (record { set = s.set; pools = s.pools; members = s.members; rounds = s.rounds; bids = s.bids; won = s.won })
      (tear-right (view c roll) ok pool price t c.book.units s.units)
