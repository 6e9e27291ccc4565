-- What the bytes of a call say of it, and that the program answers every such call as the machine does. Assumes nothing.
use mathlib.Core.Path.{◌≡◌, refl, sym, ap, ◌∙◌}
use mathlib.Core.Bool.{true, ◌&&◌}
use mathlib.Core.List.{List, [], ◌∷◌}
use mathlib.Core.Option.{Option, none, some}
use Prim.Native.Nat.{ℕ, ◌+◌, ◌*◌, ◌/◌, ◌%◌, ◌≤◌}
use native.Mathlib.Omega.{arith}
use lib.Dec.{leb, eqb}
use lib.ListN.{length, drop, get_or}
use borrow.Author.Tests.{leb-true}
use Rattle.lists.specs.Lists.{between, tab, Bytes}
use Rattle.lists.specs.Tests.{first_of}
use Rattle.lists.proofs.Bools.{either, by-test, and_left, and_right}
use Rattle.lists.proofs.Each.{each-drop}
use Rattle.lists.proofs.Places.{length-tab, tab-self}
use Rattle.machine.specs.Wire.{Head, Call, HEAD, POOL, MEMBER, ROUND, BID, CLOSE, ALLOCATE, TEAR, CALL, PAY, MOVE, MISS, FINISH, SALE, WITHDRAW, number, price, right_length, call_of, decode}
use Rattle.machine.specs.Roll.{Entry}
use Rattle.machine.specs.State as M
use Rattle.machine.specs.Refusals.{tests, refusal}
use Rattle.machine.proofs.Bytes.{Byte, four_bytes}
use Rattle.machine.proofs.Stages.{letter-some}
use Rattle.machine.proofs.Invariant.{CaseOk}
use Rattle.machine.proofs.Reached.{Fits}
use Rattle.book.proofs.Sound.{Sound}
use Rattle.case.specs.declared.Case.{Case}
use Rattle.case.specs.View.{view}
use Rattle.case.specs.Claim.{Read}
use Rattle.case.specs.Cases.{head_from, case_answer, first_answer}
use Rattle.refusals.proofs.AnswersShown.{head-answer, pool-answer, member-answer, round-answer, bid-answer, close-answer, allocate-answer, tear-answer, call-answer, pay-answer, move-answer, miss-answer, finish-answer, sale-answer, withdraw-answer}

-- ---- the bytes

-- what the machine's invariant asks of a call
pub read_fits : (call : Call) → Read call → Fits call
read_fits (HEAD h) r = tt
read_fits (POOL pool units mark) r = tt
read_fits (MEMBER m contribution expected) r = r
read_fits (ROUND reserves) r = tt
read_fits (BID pool m units price) r = tt
read_fits CLOSE r = tt
read_fits (ALLOCATE pool price) r = tt
read_fits (TEAR pool price) r = tt
read_fits CALL r = tt
read_fits (PAY m amount) r = tt
read_fits (MOVE m) r = tt
read_fits (MISS m price) r = tt
read_fits FINISH r = tt
read_fits (SALE pool m price) r = tt
read_fits (WITHDRAW m n) r = tt

-- a ROUND's length is at most 16
round-few : (tag : ℕ) (v : List ℕ) → right_length tag (length v) ≡ true → eqb tag 4 ≡ true → length v / 4 ≤ 4
unfolding right_length
round-few tag v right four =
    let r : (between 4 16 (length v) && eqb (length v % 4) 0) ≡ true = rw four at right in
    let most : length v ≤ 16 = leb-true (length v) 16 (and_right (leb 4 (length v)) _ (and_left (between 4 16 (length v)) _ r)) in
    omega (arith, most)

call-read : (tag : ℕ) (v : List ℕ) → Bytes v → right_length tag (length v) ≡ true → Read (call_of tag v)
unfolding call_of number
call-read tag v h right =
    either Read (eqb tag 1) (four_bytes (drop 3 v) (each-drop Byte 3 v h))
    (either Read (eqb tag 2) tt
    (either Read (eqb tag 3) (length-tab 4 (λ p. number (5 + 2 * p) 2 v))
    (by-test Read (eqb tag 4) (λ four. omega (arith, round-few tag v right four, length-tab (length v / 4) (λ p. price (4 * p) v))) (λ other.
    either Read (eqb tag 5) tt
    (either Read (eqb tag 6) tt
    (either Read (eqb tag 7) tt
    (either Read (eqb tag 8) tt
    (either Read (eqb tag 9) tt
    (either Read (eqb tag 10) tt
    (either Read (eqb tag 11) tt
    (either Read (eqb tag 12) tt
    (either Read (eqb tag 13) tt
    (either Read (eqb tag 14) tt tt)))))))))))))

abbrev pub AllRead : Option Call → Type 0
AllRead none = Unit {0}
AllRead (some call) = Read call

pub decoded-read : (bytes : List ℕ) → Bytes bytes → AllRead (decode bytes)
unfolding decode
decoded-read [] h = tt
decoded-read (tag ∷ []) h = tt
decoded-read (tag ∷ high ∷ []) h = tt
decoded-read (tag ∷ high ∷ low ∷ v) h =
    by-test AllRead (between 1 15 tag && eqb (high * 256 + low) (length v) && right_length tag (length v)) {x = some (call_of tag v)} {y = none}
    (λ t. call-read tag v h.1.1.1 (and_right (between 1 15 tag && eqb (high * 256 + low) (length v)) (right_length tag (length v)) t)) (λ f. tt)

-- ---- the answers

-- a list of four
four : (es : List ℕ) → length es ≡ 4 → (get_or es 0 0 ∷ get_or es 1 0 ∷ get_or es 2 0 ∷ get_or es 3 0 ∷ []) ≡ es
unfolding tab
four es long = sym (rw long at (tab-self 0 es))

-- HEAD is declined where a case is held
head-again : (c : M.Case) (h : Head) → refusal (some c) (HEAD h) ≡ 2
unfolding refusal tests first_of M.letter_of
head-again c h = rw (letter-some c.stage)

-- where a case is held
pub answer-shown : (c : Case) (roll : List Entry) → Sound c.stage c.book roll → CaseOk (view c roll) → (call : Call) → Read call → case_answer c call ≡ refusal (some (view c roll)) call
unfolding case_answer
answer-shown c roll sound ok (HEAD h) r = sym (head-again (view c roll) h)
answer-shown c roll sound ok (POOL pool units mark) r = pool-answer c.stage c.book roll sound ok pool units mark
answer-shown c roll sound ok (MEMBER m contribution es) r =
    member-answer c.stage c.book roll sound ok m contribution (get_or es 0 0) (get_or es 1 0) (get_or es 2 0) (get_or es 3 0)
    ∙ ap (λ (l : List ℕ). refusal (some (view c roll)) (MEMBER m contribution l)) (four es r)
answer-shown c roll sound ok (ROUND rs) r = round-answer c.stage c.book roll sound ok rs r
answer-shown c roll sound ok (BID pool m units price) r = bid-answer c.stage c.book roll sound ok pool m units price
answer-shown c roll sound ok CLOSE r = close-answer c.stage c.book roll sound ok
answer-shown c roll sound ok (ALLOCATE pool price) r = allocate-answer c.stage c.book roll sound ok pool price
answer-shown c roll sound ok (TEAR pool price) r = tear-answer c.stage c.book roll sound ok pool price
answer-shown c roll sound ok CALL r = call-answer c.stage c.book roll sound ok
answer-shown c roll sound ok (PAY m amount) r = pay-answer c.stage c.book roll sound ok m amount
answer-shown c roll sound ok (MOVE m) r = move-answer c.stage c.book roll sound ok m
answer-shown c roll sound ok (MISS m price) r = miss-answer c.stage c.book roll sound ok m price
answer-shown c roll sound ok FINISH r = finish-answer c.stage c.book roll sound ok
answer-shown c roll sound ok (SALE pool m price) r = sale-answer c.stage c.book roll sound ok pool m price
answer-shown c roll sound ok (WITHDRAW m n) r = withdraw-answer c.stage c.book roll sound ok m n

-- where none is held
pub first-shown : (call : Call) → first_answer call ≡ refusal none call
unfolding first_answer refusal tests first_of M.letter_of
first-shown (HEAD h) = head-answer (head_from h)
first-shown (POOL pool units mark) = refl
first-shown (MEMBER m contribution es) = refl
first-shown (ROUND rs) = refl
first-shown (BID pool m units price) = refl
first-shown CLOSE = refl
first-shown (ALLOCATE pool price) = refl
first-shown (TEAR pool price) = refl
first-shown CALL = refl
first-shown (PAY m amount) = refl
first-shown (MOVE m) = refl
first-shown (MISS m price) = refl
first-shown FINISH = refl
first-shown (SALE pool m price) = refl
first-shown (WITHDRAW m n) = refl
