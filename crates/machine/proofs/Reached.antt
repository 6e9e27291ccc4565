-- What holds of the case after every list of calls, any bytes: `reached`. Assumes nothing.
use mathlib.Core.Path.{◌≡◌, sym}
use mathlib.Core.Bool.{◌&&◌, false≢true}
use mathlib.Core.List.{List, [], ◌∷◌}
use mathlib.Core.Option.{Option, none, some}
use Prim.Native.Nat.{ℕ, ◌+◌, ◌*◌}
use lib.Dec.{eqb}
use lib.ListN.{length}
use borrow.Author.Tests.{not-false}
use Rattle.lists.specs.Lists.{between}
use Rattle.lists.proofs.Bools.{either}
use Rattle.lists.proofs.Places.{length-tab}
use Rattle.lists.specs.Tests.{Passed}
use Rattle.machine.specs.Wire.{Head, Call, HEAD, POOL, MEMBER, ROUND, BID, CLOSE, ALLOCATE, TEAR, CALL, PAY, MOVE, MISS, FINISH, SALE, WITHDRAW, number, right_length, call_of, decode}
use Rattle.machine.specs.State.{Case, State, new_case, the_case, letter_of}
use Rattle.machine.specs.Calls.{accepted}
use Rattle.machine.specs.Refusals.{tests}
use Rattle.machine.specs.Machine.{step}
use Rattle.machine.specs.Run.{run_from}
use Rattle.machine.proofs.Answers.{step-cases}
use Rattle.machine.proofs.Invariant.{CaseOk}
use Rattle.machine.proofs.CallsKept.{head_ok_lem, pool-ok, member-ok, round-ok, bid-ok, close-ok, allocate-ok, tear-ok, call_ok, pay-ok, move-ok, miss-ok, finish-ok, sale-ok, withdraw-ok}

-- ---- what the bytes' length says of a call: MEMBER expects units in four pools

abbrev pub Fits : Call → Type 0
Fits (HEAD h) = Unit {0}
Fits (POOL pool units mark) = Unit {0}
Fits (MEMBER m contribution expected) = length expected ≡ 4
Fits (ROUND reserves) = Unit {0}
Fits (BID pool m units price) = Unit {0}
Fits CLOSE = Unit {0}
Fits (ALLOCATE pool price) = Unit {0}
Fits (TEAR pool price) = Unit {0}
Fits CALL = Unit {0}
Fits (PAY m amount) = Unit {0}
Fits (MOVE m) = Unit {0}
Fits (MISS m price) = Unit {0}
Fits FINISH = Unit {0}
Fits (SALE pool m price) = Unit {0}
Fits (WITHDRAW m n) = Unit {0}

call_fits : (tag : ℕ) (v : List ℕ) → Fits (call_of tag v)
unfolding call_of
call_fits tag v =
    either Fits (eqb tag 1) tt
    (either Fits (eqb tag 2) tt
    (either Fits (eqb tag 3) (length-tab 4 (λ p. number (5 + 2 * p) 2 v))
    (either Fits (eqb tag 4) tt
    (either Fits (eqb tag 5) tt
    (either Fits (eqb tag 6) tt
    (either Fits (eqb tag 7) tt
    (either Fits (eqb tag 8) tt
    (either Fits (eqb tag 9) tt
    (either Fits (eqb tag 10) tt
    (either Fits (eqb tag 11) tt
    (either Fits (eqb tag 12) tt
    (either Fits (eqb tag 13) tt
    (either Fits (eqb tag 14) tt tt)))))))))))))

-- every call that bytes are fits
abbrev AllFit : Option Call → Type 0
AllFit none = Unit {0}
AllFit (some call) = Fits call

decoded-fits : (bytes : List ℕ) → AllFit (decode bytes)
unfolding decode
decoded-fits [] = tt
decoded-fits (tag ∷ []) = tt
decoded-fits (tag ∷ high ∷ []) = tt
decoded-fits (tag ∷ high ∷ low ∷ v) =
    either AllFit (between 1 15 tag && eqb (high * 256 + low) (length v) && right_length tag (length v)) {x = some (call_of tag v)} {y = none} (call_fits tag v) tt

pub decode-fits : (bytes : List ℕ) (call : Call) → decode bytes ≡ some call → Fits call
decode-fits bytes call e = rw e at (decoded-fits bytes)

-- ---- one call

abbrev pub StateOk : State → Type 0
StateOk none = Unit {0}
StateOk (some c) = CaseOk c

-- an accepted call, where there is a case
pub next-ok : (c : Case) → CaseOk c → (call : Call) → Fits call → Passed (tests (some c) c call) → CaseOk (accepted c call)
unfolding accepted tests
next-ok c ok (HEAD h) f t = head_ok_lem h (not-false _ t.1.0)
next-ok c ok (POOL pool units mark) f t = pool-ok c ok pool units mark t
next-ok c ok (MEMBER m contribution expected) f t = member-ok c ok m contribution expected f t
next-ok c ok (ROUND reserves) f t = round-ok c ok reserves t
next-ok c ok (BID pool m units price) f t = bid-ok c ok pool m units price t
next-ok c ok CLOSE f t = close-ok c ok t
next-ok c ok (ALLOCATE pool price) f t = allocate-ok c ok pool price t
next-ok c ok (TEAR pool price) f t = tear-ok c ok pool price t
next-ok c ok CALL f t = call_ok c ok t
next-ok c ok (PAY m amount) f t = pay-ok c ok m amount t
next-ok c ok (MOVE m) f t = move-ok c ok m t
next-ok c ok (MISS m price) f t = miss-ok c ok m price t
next-ok c ok FINISH f t = finish-ok c ok t
next-ok c ok (SALE pool m price) f t = sale-ok c ok pool m price t
next-ok c ok (WITHDRAW m n) f t = withdraw-ok c ok m n t

-- where there is no case, only HEAD is accepted
pub first-call : (P : Call → Type 0) → ((h : Head) → P (HEAD h)) → (call : Call) → Passed (tests none (the_case none) call) → P call
unfolding tests letter_of
first-call P head (HEAD h) t = head h
first-call P head (POOL pool units mark) t = absurd (false≢true (sym t.0))
first-call P head (MEMBER m contribution expected) t = absurd (false≢true (sym t.0))
first-call P head (ROUND reserves) t = absurd (false≢true (sym t.1.0))
first-call P head (BID pool m units price) t = absurd (false≢true (sym t.0))
first-call P head CLOSE t = absurd (false≢true (sym t.0))
first-call P head (ALLOCATE pool price) t = absurd (false≢true (sym t.0))
first-call P head (TEAR pool price) t = absurd (false≢true (sym t.0))
first-call P head CALL t = absurd (false≢true (sym t.0))
first-call P head (PAY m amount) t = absurd (false≢true (sym t.0))
first-call P head (MOVE m) t = absurd (false≢true (sym t.0))
first-call P head (MISS m price) t = absurd (false≢true (sym t.0))
first-call P head FINISH t = absurd (false≢true (sym t.0))
first-call P head (SALE pool m price) t = absurd (false≢true (sym t.0))
first-call P head (WITHDRAW m n) t = absurd (false≢true (sym t.0))

accepted-ok : (s : State) → StateOk s → (call : Call) → Fits call → Passed (tests s (the_case s) call) → CaseOk (accepted (the_case s) call)
unfolding accepted tests
accepted-ok none ok call f t =
    first-call (λ call. Passed (tests none (the_case none) call) → CaseOk (accepted (the_case none) call)) (λ h u. head_ok_lem h (not-false _ u.1.0)) call t t
accepted-ok (some c) ok call f t = next-ok c ok call f t

-- ---- any bytes

pub step_ok : (s : State) → StateOk s → (bytes : List ℕ) → StateOk (step s bytes).state
step_ok s ok bytes = step-cases (λ n. StateOk) s bytes (λ n h. ok) (λ call e t. accepted-ok s ok call (decode-fits bytes call e) t)

pub run_from-ok : (s : State) → StateOk s → (calls : List (List ℕ)) → StateOk (run_from s calls)
unfolding run_from
run_from-ok s ok [] = ok
run_from-ok s ok (bytes ∷ rest) = run_from-ok (step s bytes).state (step_ok s ok bytes) rest

-- after every list of calls, from no case on
pub reached : (calls : List (List ℕ)) → StateOk (run_from none calls)
reached calls = run_from-ok none tt calls

-- what holds of the case that HEAD makes, and is kept by every accepted call, holds after every list of calls too
module _
    (P : Case → Type 0)
    (first : (h : Head) → P (new_case h))
    (next : (c : Case) → CaseOk c → P c → (call : Call) → Passed (tests (some c) c call) → P (accepted c call))
  where
    abbrev Both : State → Type 0
    Both none = Unit {0}
    Both (some c) = CaseOk c × P c

    both-accepted : (s : State) → Both s → (call : Call) → Fits call → Passed (tests s (the_case s) call) → Both (some (accepted (the_case s) call))
    unfolding accepted tests
    both-accepted none b call f t =
        first-call (λ call. Passed (tests none (the_case none) call) → Both (some (accepted (the_case none) call))) (λ h u. (head_ok_lem h (not-false _ u.1.0), first h)) call t t
    both-accepted (some c) b call f t = (next-ok c b.0 call f t, next c b.0 b.1 call t)

    both_run : (s : State) → Both s → (calls : List (List ℕ)) → Both (run_from s calls)
    unfolding run_from
    both_run s b [] = b
    both_run s b (bytes ∷ rest) =
        both_run (step s bytes).state (step-cases (λ n. Both) s bytes (λ n h. b) (λ call e t. both-accepted s b call (decode-fits bytes call e) t)) rest

    pub reached-too : (calls : List (List ℕ)) (c : Case) → run_from none calls ≡ some c → P c
    reached-too calls c here = (rw here at (both_run none tt calls)).1
