-- Document 02, C-12: "If no unit is open afterwards the stage becomes A1". In this A1, which has no round, every unit is sold by agreement, and by 17 the
-- requirement is within margin and defaulter's fund: so FINISH is accepted there, and no other call is. Assumes nothing.
use mathlib.Core.Path.{◌≡◌, refl, sym, ◌∙◌}
use mathlib.Core.Bool.{Bool, true, false, not, false≢true}
use mathlib.Core.Logic.{⊎_elim}
use mathlib.Core.List.{List, [], ◌∷◌}
use mathlib.Core.Option.{none, some}
use Prim.Native.Nat.{ℕ, zero, suc, ◌+◌, ◌-◌, ◌≤◌}
use native.Mathlib.Omega.{arith}
use lib.Dec.{eqb, ltb}
use lib.ListN.{length, get_or, drop}
use borrow.Author.Tests.{leb-false, ltb-false, le-leb, le-ltb, not-false}
use Rattle.lists.specs.Lists.{when◌then◌else◌, all}
use Rattle.lists.proofs.Bools.{cases}
use Rattle.lists.proofs.Counts.{each-any, any_false}
use Rattle.lists.proofs.Each.{Each, each_more, each_both, each-always, each-get}
use Rattle.lists.specs.Tests.{Passed, first_of}
use Rattle.auction.specs.Price.{price_ok}
use Rattle.waterfall.specs.Charging.{charged}
use Rattle.machine.specs.Wire.{Call, HEAD, POOL, MEMBER, ROUND, BID, CLOSE, ALLOCATE, TEAR, CALL, PAY, MOVE, MISS, FINISH, SALE, WITHDRAW}
use Rattle.machine.specs.Roll.{Entry, is_open, is_agreed, any_open, passed_to}
use Rattle.machine.specs.State.{Stage, Setup, Bidding, After, CallsOut, Finished, Member, Case, no_member, member_list, member_at, letter, letter_of, round_of}
use Rattle.machine.specs.Requirement.{requirement, prefunded, owes}
use Rattle.machine.specs.Calls.{accepted, after_pool, after_member, after_round, after_bid, after_close, after_allocate, after_tear, after_call, after_pay, after_move, after_miss, sold, after_sale, after_withdraw}
use Rattle.machine.specs.Refusals.{tests, refusal, none_open, none_passed, someone_owes}
use Rattle.machine.specs.Result.{limits, six_charges, charge}
use Rattle.machine.specs.Run.{run_from}
use Rattle.machine.proofs.Invariant.{StageOk, Uncalled, CaseOk}
use Rattle.machine.proofs.Stages.{letter-some, letter-is, bidding-stage}
use Rattle.machine.proofs.Setters.{all-shut}
use Rattle.machine.proofs.Reached.{reached-too}
use Rattle.machine.proofs.AgreedStay.{passed-free}
use Rattle.machine.proofs.Selling.{Early, sold-early, sale-by-requirement}

abbrev AllAgreed : List Entry → Type 0
AllAgreed = Each (λ e. is_agreed e.state ≡ true)

-- what holds in A without a round
abbrev pub SoldOut : Case → Type 0
SoldOut c = letter c.stage ≡ 3 → length c.rounds ≡ 0 → AllAgreed c.roll × (requirement c ≤ c.head.margin + c.head.fund)

-- ---- why calls are declined there

-- A without a round is A1
first-after : (s : Stage) (n : ℕ) → StageOk s n → letter s ≡ 3 → n ≡ 0 → round_of s ≡ 1
unfolding letter round_of
first-after Setup n o a z = absurd (omega arith)
first-after (Bidding r) n o a z = absurd (omega arith)
first-after (After r) n o a z = ⊎_elim (λ same. absurd (omega arith)) (λ none. none.1) o.0
first-after CallsOut n o a z = absurd (omega arith)
first-after Finished n o a z = absurd (omega arith)

-- a unit sold by agreement is neither allocated nor moved
agreed-not-passed : (m : ℕ) (e : Entry) → is_agreed e.state ≡ true → passed_to m e.state ≡ false
agreed-not-passed m e a = cases (passed_to m e.state) _ (λ h. absurd (false≢true (sym (passed-free m e.state h) ∙ a))) (λ h. h)

-- who was not called owes nothing
uncalled-owes : (ms : List Member) (m : ℕ) → Each Uncalled ms → owes ms m ≡ 0
unfolding owes member_at
uncalled-owes ms m h =
    let u = each-get Uncalled ms m no_member (refl, refl, refl) h in
    rw u.2 (omega (arith, u.0))

-- a loss of 0 is charged to no layer
none-charged : (loss : ℕ) (ls : List ℕ) (k : ℕ) → loss ≡ 0 → get_or (charged loss ls) k 0 ≡ 0
unfolding charged
none-charged loss [] k e = refl
none-charged loss (l ∷ ls) zero e = omega arith
none-charged loss (l ∷ ls) (suc k) e = none-charged (loss - l) ls k (omega arith)

module _ (c : Case) (ok : CaseOk c) (so : SoldOut c) (after : letter c.stage ≡ 3) (no-round : length c.rounds ≡ 0) where
  no-open : (pool : ℕ) → none_open c.roll pool ≡ true
  unfolding none_open
  no-open pool = rw (ok.units.sold-out after no-round pool)

  shut : any_open c.roll ≡ false
  shut = all-shut c.roll (ok.units.sold-out after no-round)

  covered : requirement c ≤ prefunded c
  unfolding prefunded
  covered = omega (arith, (so after no-round).1)

  -- a layer past margin and fund is charged nothing
  pub layers-unused : (layer : ℕ) → 2 ≤ layer → charge c layer ≡ 0
  unfolding charge six_charges limits charged
  layers-unused zero l = absurd (omega arith)
  layers-unused (suc zero) l = absurd (omega arith)
  layers-unused (suc (suc k)) l = none-charged (requirement c - c.head.margin - c.head.fund) (drop 2 (limits c)) k (omega (arith, (so after no-round).1))

  none_passed_lem : (m : ℕ) → none_passed c.roll m ≡ true
  unfolding none_passed
  none_passed_lem m = rw (any_false (λ e. passed_to m e.state) c.roll (each_more _ _ (agreed-not-passed m) c.roll (so after no-round).0))

  none_owes : someone_owes c ≡ false
  unfolding someone_owes
  none_owes =
      any_false (λ m. ltb 0 (owes c.members m)) (member_list c.head)
      (each-always (λ m. ltb 0 (owes c.members m) ≡ false) (λ m. rw (uncalled-owes c.members m (ok.members.uncalled (omega arith)))) (member_list c.head))

  -- ROUND is asked for its length and its range, and then finds no open unit
  pub round-answer : (reserves : List ℕ)
      → refusal (some c) (ROUND reserves) ≡ (when eqb (length reserves) c.head.pools then (when all price_ok reserves then 8 else 5) else 1)
  unfolding refusal tests first_of letter_of
  round-answer reserves =
      rw (after, shut, first-after c.stage (length c.rounds) ok.stage after no-round) (turned (eqb (length reserves) c.head.pools) (all price_ok reserves))
    where
      turned : (a b : Bool) → ◌≡◌ {A = ℕ} (when not a then 1 else (when not b then 5 else 8)) (when a then (when b then 8 else 5) else 1)
      turned true true = refl
      turned true false = refl
      turned false b = refl

  pub call-answer : refusal (some c) CALL ≡ 12
  unfolding refusal tests first_of letter_of
  call-answer = rw (after, shut, le-leb (requirement c) (prefunded c) covered)

  pub finish-answer : refusal (some c) FINISH ≡ 0
  unfolding refusal tests first_of letter_of
  finish-answer = rw (after, shut, le-ltb (prefunded c) (requirement c) covered, none_owes)

  -- no other call passes its tests
  pub only-finish : (call : Call) → Passed (tests (some c) c call) → call ≡ FINISH
  unfolding tests letter_of
  only-finish (HEAD h) t = absurd (false≢true (sym (letter-some c.stage) ∙ not-false _ t.0))
  only-finish (POOL pool units mark) t = absurd (omega (arith, letter-is c.stage 1 t.0))
  only-finish (MEMBER m contribution expected) t = absurd (omega (arith, letter-is c.stage 1 t.0))
  only-finish (ROUND reserves) t = absurd (false≢true (sym (rw (after, shut) at t.1.1.1.0)))
  only-finish (BID pool m units price) t = absurd (omega (arith, letter-is c.stage 2 t.0))
  only-finish CLOSE t = absurd (omega (arith, letter-is c.stage 2 t.0))
  only-finish (ALLOCATE pool price) t = absurd (false≢true (sym t.1.1.1.0 ∙ no-open pool))
  only-finish (TEAR pool price) t = absurd (false≢true (sym t.1.1.1.0 ∙ no-open pool))
  only-finish CALL t = absurd (omega (arith, leb-false (requirement c) (prefunded c) t.1.1.0, covered))
  only-finish (PAY m amount) t = absurd (omega (arith, letter-is c.stage 4 t.0))
  only-finish (MOVE m) t = absurd (omega (arith, letter-is c.stage 4 t.0))
  only-finish (MISS m price) t = absurd (false≢true (sym t.1.1.1.0 ∙ none_passed_lem m))
  only-finish FINISH t = refl
  only-finish (SALE pool m price) t = absurd (omega (arith, letter-is c.stage 1 t.0))
  only-finish (WITHDRAW m n) t = absurd (omega (arith, letter-is c.stage 2 t.0))

-- ---- every call keeps it

-- sold by agreement where no unit is open, and all are open or sold by agreement
none_left : (roll : List Entry) → Each Early roll → any_open roll ≡ false → AllAgreed roll
unfolding any_open
none_left roll early n =
    each_more _ (λ e. is_agreed e.state ≡ true) (λ e o. rw o.1 at o.0) roll (each_both Early (λ e. is_open e ≡ false) roll early (each-any is_open roll n))

module _ (c : Case) (ok : CaseOk c) (so : SoldOut c) where
  -- SALE makes A1 where it sells the last open pool, and its test of 17 has failed
  sold-sale : (pool m price : ℕ) → Passed (tests (some c) c (SALE pool m price)) → SoldOut (after_sale c pool m price)
  unfolding tests after_sale letter_of
  sold-sale pool m price t a z =
      let setup = letter-is c.stage 1 t.0 in
      let roll = sold pool m price c.roll in
      let shut : any_open roll ≡ false = cases (any_open roll) _ (λ e. absurd (omega (arith, setup, rw e at a))) (λ e. e) in (
        none_left roll (sold-early pool m price c.roll (ok.units.setup setup)) shut,
        ltb-false (c.head.margin + c.head.fund) (requirement (after_sale c pool m price)) (sym (sale-by-requirement c ok setup pool m price) ∙ t.1.1.1.1.1.1.0),
      )

  sold-call : (call : Call) → Passed (tests (some c) c call) → SoldOut (accepted c call)
  unfolding accepted tests letter_of letter after_pool after_member after_round after_bid after_close after_allocate after_tear after_call after_pay after_move after_miss after_withdraw
  sold-call (HEAD h) t a z = absurd (omega arith)
  sold-call (POOL pool units mark) t a z = absurd (omega (arith, letter-is c.stage 1 t.0))
  sold-call (MEMBER m contribution expected) t a z = absurd (omega (arith, letter-is c.stage 1 t.0))
  sold-call (ROUND reserves) t a z = absurd (omega arith)
  sold-call (BID pool m units price) t a z = absurd (omega (arith, letter-is c.stage 2 t.0))
  sold-call CLOSE t a z =
      let at = bidding-stage c.stage (length c.rounds) ok.stage (letter-is c.stage 2 t.0) in
      absurd (omega (arith, at.0, at.1))
  sold-call (ALLOCATE pool price) t a z = absurd (false≢true (sym t.1.1.1.0 ∙ no-open c ok so a z pool))
  sold-call (TEAR pool price) t a z = absurd (false≢true (sym t.1.1.1.0 ∙ no-open c ok so a z pool))
  sold-call CALL t a z = absurd (omega arith)
  sold-call (PAY m amount) t a z = absurd (omega (arith, letter-is c.stage 4 t.0))
  sold-call (MOVE m) t a z = absurd (omega (arith, letter-is c.stage 4 t.0))
  sold-call (MISS m price) t a z = absurd (false≢true (sym t.1.1.1.0 ∙ none_passed_lem c ok so a z m))
  sold-call FINISH t a z = absurd (omega arith)
  sold-call (SALE pool m price) t a z = sold-sale pool m price t a z
  sold-call (WITHDRAW m n) t a z = absurd (omega (arith, letter-is c.stage 2 t.0))

-- after every list of calls
pub sold-out : (calls : List (List ℕ)) (c : Case) → run_from none calls ≡ some c → SoldOut c
unfolding letter
sold-out = reached-too SoldOut (λ h a z. absurd (omega arith)) sold-call
