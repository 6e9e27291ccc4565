-- The ledger and the roll's machine agree (specs/Claim.antt): over every list of calls, any bytes, the ledger's answers and what is read of
-- it after each call are the machine's. Assumes nothing.
use Rattle.std.specs.Prelude as R
use Rattle.std.specs.Prelude.{Some, is_some, Ok, Err}
use mathlib.Core.Path.{◌≡◌, refl, sym, ap, subst, ◌∙◌}
use mathlib.Core.Bool.{Bool, true, false}
use mathlib.Core.List.{List, [], ◌∷◌, ◌++◌, map}
use mathlib.Core.Option.{Option, none, some}
use Prim.Native.Nat.{ℕ, zero, suc, ◌+◌, ◌*◌}
use lib.Dec.{eqb}
use lib.ListN.{length, drop}
use borrow.Author.Tests.{eqb-true, not-false}
use Rattle.lists.specs.Lists.{when◌then◌else◌, Bytes}
use Rattle.lists.proofs.Bools.{same-choice}
use Rattle.lists.proofs.Each.{Each, each_take, each-drop}
use Rattle.lists.specs.Tests.{Passed}
use Rattle.machine.specs.Wire.{Head, Call, HEAD, decode}
use Rattle.machine.specs.State as M
use Rattle.machine.specs.Calls.{accepted}
use Rattle.machine.specs.Refusals.{tests, refusal}
use Rattle.machine.specs.Machine.{answered, step}
use Rattle.machine.specs.Requirement.{requirement, owes}
use Rattle.machine.specs.Run.{Observed, observed, run_from, observed_from, run}
use Rattle.machine.specs.Running.{left_sum}
use Rattle.machine.specs.Printed.{fields_in}
use Rattle.machine.proofs.Answers.{accepted-passed}
use Rattle.machine.proofs.Invariant.{CaseOk}
use Rattle.machine.proofs.CallsKept.{head_ok_lem}
use Rattle.machine.proofs.Reached.{next-ok, first-call}
use Rattle.machine.proofs.Running.{reading_of}
use Rattle.reserves.specs.Reserves.{outside_of}
use Rattle.reserves.proofs.Seen.{outside_at}
use Rattle.book.proofs.Sound.{Sound}
use Rattle.case.specs.Cases.{Held, case_in}
use Rattle.case.specs.declared.Ran.{Ran}
use Rattle.case.specs.View.{view}
use Rattle.case.specs.Cases.{case_after, case_answer_to, first_answer_to, answer_to, after_asked, take_asked, applied, no_held}
use Rattle.case.specs.Readings.{pool_prices_in, reading_in, as_read, called_in, owed_in, seen}
use Rattle.case.specs.Claim.{Read, Agrees, ledger_from, outside_in}
use Rattle.case.specs.Input.{Runs, ledger_after, ledger_answers}
use Rattle.case.proofs.Steps.{next-shown, head-shown}
use Rattle.case.proofs.Decoded.{AllRead, read_fits, decoded-read, answer-shown, first-shown}
use Rattle.case.proofs.Observations.{pool-sum-read, requirement-read, called-read, owed-read, case-observed, none-observed, none_left, none_read, none-called, none-owed}

-- ---- what is held, and the machine's state

-- a case is held that with the machine's roll shows the machine's case; its units are those of the roll (`Sound`)
pub record Holds (h : Held) (c : M.Case) : Type 0 where
  pub present : is_some h ≡ true
  pub shows : view (case_in h) c.roll ≡ c
  pub sound : Sound (case_in h).stage (case_in h).book c.roll
  pub ok : CaseOk (view (case_in h) c.roll)

abbrev pub Tied : Held → M.State → Type 0
Tied h none = is_some h ≡ false
Tied h (some c) = Holds h c

-- where a claim about the case that is shown holds, it holds of the machine's case
with-case : (h : Held) (P : M.State → Type 0) → ((c : M.Case) → Holds h c → P (some (view (case_in h) c.roll))) → (c : M.Case) → Holds h c → P (some c)
with-case h P claim c t = subst (λ (x : M.Case). P (some x)) t.shows (claim c t)

-- ---- one call

-- the answers are the same
same_answer : (h : Held) (s : M.State) → Tied h s → (call : Call) → Read call → answer_to h (some call) ≡ refusal s call
unfolding answer_to case_answer_to first_answer_to
same_answer h none t call r = rw t (first-shown call)
same_answer h (some c) t call r =
    rw t.present
    (with-case h (λ s. case_answer_to (case_in h) (some call) ≡ refusal s call) (λ x u. answer-shown (case_in h) x.roll u.sound u.ok call r) c t)

-- HEAD, where no case is held
head-tied : (h : Held) (head : Head) → Read (HEAD head) → Passed (tests none (M.the_case none) (HEAD head))
    → Holds (Some (case_after (case_in h) (HEAD head))) (accepted (M.the_case none) (HEAD head))
unfolding case_after accepted tests
head-tied h head small p =
    let shown = head-shown head small in
    record {
      present = refl;
      shows = shown.0;
      sound = shown.1;
      ok = subst CaseOk (sym shown.0) (head_ok_lem head (not-false _ p.1.0));
    }

-- what is held after an accepted call is tied to the machine's state
new-tied : (h : Held) (s : M.State) → Tied h s → (call : Call) → Read call → Passed (tests s (M.the_case s) call)
    → Tied (Some (case_after (case_in h) call)) (some (accepted (M.the_case s) call))
new-tied h none t call r p =
    first-call (λ x. Read x → Passed (tests none (M.the_case none) x) → Tied (Some (case_after (case_in h) x)) (some (accepted (M.the_case none) x)))
    (head-tied h) call p r p
new-tied h (some c) t call r p =
    with-case h (λ s. Passed (tests s (M.the_case s) call) → Holds (Some (case_after (case_in h) call)) (accepted (M.the_case s) call))
    (λ x u q.
    let shown = next-shown (case_in h) x.roll u.sound u.ok call (read_fits call r) q in
    record {
      present = refl;
      shows = shown.shows;
      sound = shown.sound;
      ok = subst CaseOk (sym shown.shows) (next-ok (view (case_in h) x.roll) u.ok call (read_fits call r) q);
    })
    c t p

pub record Taken (h : Held) (s : M.State) (asked : Option Call) : Type 0 where
  pub answer : (take_asked h asked).answer ≡ (answered s asked).answer
  pub tied : Tied (take_asked h asked).held (answered s asked).state

pub taken : (h : Held) (s : M.State) → Tied h s → (asked : Option Call) → AllRead asked → Taken h s asked
unfolding take_asked answered answer_to case_answer_to first_answer_to after_asked
taken h s t none r =
    let one = same-choice {A = ℕ} (is_some h) 1 in
    record { answer = one; tied = rw one t }
taken h s t (some call) r =
    let same = same_answer h s t call r in
    record { answer = same; tied = rw same (by_answer (eqb (refusal s call) 0) refl) }
  where
    by_answer : (b : Bool) → eqb (refusal s call) 0 ≡ b
        → Tied (when b then Some (case_after (case_in h) call) else h) (when b then some (accepted (M.the_case s) call) else s)
    by_answer true e = new-tied h s t call r (accepted-passed s call (eqb-true (refusal s call) 0 e))
    by_answer false e = t

-- any bytes
pub record Takes (h : Held) (s : M.State) (bytes : List ℕ) : Type 0 where
  pub answer : (applied h bytes).answer ≡ (step s bytes).answer
  pub tied : Tied (applied h bytes).held (step s bytes).state

-- bytes that are a call
pub takes-call : (h : Held) (s : M.State) → Tied h s → (bytes : List ℕ) (call : Call) → decode bytes ≡ some call → Read call → Takes h s bytes
unfolding applied step
takes-call h s t bytes call is r =
    let now = taken h s t (decode bytes) (rw is r) in
    record { answer = now.answer; tied = now.tied }

pub takes : (h : Held) (s : M.State) → Tied h s → (bytes : List ℕ) → Bytes bytes → Takes h s bytes
unfolding applied step
takes h s t bytes b =
    let now = taken h s t (decode bytes) (decoded-read bytes b) in
    record { answer = now.answer; tied = now.tied }

-- ---- what is observed

pub seen-observed : (n : ℕ) (h : Held) (s : M.State) → Tied h s → seen n h ≡ observed n s
seen-observed n h none t = none-observed n h t
seen-observed n h (some c) t =
    with-case h (λ s. seen n h ≡ observed n s) (λ x u. case-observed (case_in h) x.roll u.sound u.ok n h u.present refl) c t

-- ---- the running sums, and the requirement that is read

pub sums-seen : (h : Held) (s : M.State) → Tied h s → (pool : ℕ) → pool_prices_in h pool ≡ left_sum (M.the_case s) pool
sums-seen h none t pool = none_left h t pool
sums-seen h (some c) t pool =
    with-case h (λ s. pool_prices_in h pool ≡ left_sum (M.the_case s) pool) (λ x u. pool-sum-read (case_in h) x.roll u.sound u.ok h u.present refl pool) c t

-- the requirement of a case, and 2 where there is none
abbrev pub read_from : M.State → R.Result ℕ ℕ
read_from none = Err 2
read_from (some c) = Ok (requirement c)

pub requirement-told : (h : Held) (s : M.State) → Tied h s → reading_in h ≡ read_from s
requirement-told h none t = none_read h t
requirement-told h (some c) t =
    with-case h (λ s. reading_in h ≡ read_from s) (λ x u. requirement-read (case_in h) x.roll u.sound u.ok h u.present refl) c t

pub requirement-seen : (h : Held) (s : M.State) → Tied h s → ◌≡◌ {A = ℕ × ℕ} (as_read (reading_in h)) (reading_of s)
requirement-seen h none t = ap as_read (requirement-told h none t)
requirement-seen h (some c) t = ap as_read (requirement-told h (some c) t)

-- ---- document 02, C-17: all that is seen outside the house

called-seen : (h : Held) (s : M.State) → Tied h s → called_in h ≡ map (λ m. (M.member_at (M.the_case s).members m).called) (M.member_list (M.the_case s).head)
called-seen h none t = none-called h t
called-seen h (some c) t =
    with-case h (λ s. called_in h ≡ map (λ m. (M.member_at (M.the_case s).members m).called) (M.member_list (M.the_case s).head))
    (λ x u. called-read (case_in h) x.roll u.sound u.ok h u.present refl) c t

owed-seen : (h : Held) (s : M.State) → Tied h s → owed_in h ≡ map (owes (M.the_case s).members) (M.member_list (M.the_case s).head)
owed-seen h none t = none-owed h t
owed-seen h (some c) t =
    with-case h (λ s. owed_in h ≡ map (owes (M.the_case s).members) (M.member_list (M.the_case s).head))
    (λ x u. owed-read (case_in h) x.roll u.sound u.ok h u.present refl) c t

pub outside-seen : (h : Held) (s : M.State) → Tied h s → outside_in h ≡ outside_at s
unfolding outside_in
outside-seen h s t =
    λ i. outside_of (seen-observed 0 h s t i) (λ pool. sums-seen h s t pool i) (requirement-seen h s t i) (called-seen h s t i) (owed-seen h s t i)

-- ---- every list of calls

agrees_from : (h : Held) (s : M.State) → Tied h s → (calls : List (List ℕ)) → Each Bytes calls → ledger_from h calls ≡ observed_from s calls
unfolding ledger_from observed_from
agrees_from h s t [] b = refl
agrees_from h s t (call ∷ calls) b =
    let now = takes h s t call b.0 in
    let here : seen (applied h call).answer (applied h call).held ≡ observed (step s call).answer (step s call).state
    = rw now.answer (seen-observed (step s call).answer (applied h call).held (step s call).state now.tied) in
    let rest = agrees_from (applied h call).held (step s call).state now.tied calls b.1 in
    λ i. here i ∷ rest i

pub none-tied : Tied no_held none
none-tied = refl

pub agrees : Agrees
unfolding run
agrees calls b = agrees_from no_held none none-tied calls b

-- ---- a whole input

pub answers-from : (h : Held) (s : M.State) → Tied h s → (calls : List (List ℕ)) → Each Bytes calls
    → ledger_answers h calls ≡ map (λ (o : Observed). o.answer) (observed_from s calls)
unfolding ledger_answers observed_from observed
answers-from h s t [] b = refl
answers-from h s t (call ∷ calls) b =
    let now = takes h s t call b.0 in
    let rest = answers-from (applied h call).held (step s call).state now.tied calls b.1 in
    λ i. now.answer i ∷ rest i

pub tied-after : (h : Held) (s : M.State) → Tied h s → (calls : List (List ℕ)) → Each Bytes calls → Tied (ledger_after h calls) (run_from s calls)
unfolding ledger_after run_from
tied-after h s t [] b = t
tied-after h s t (call ∷ calls) b = tied-after (applied h call).held (step s call).state (takes h s t call b.0).tied calls b.1

module _ (calls : List (List ℕ)) (bytes : Each Bytes calls) where
  pub ledger-tied : Tied (ledger_after no_held calls) (run_from none calls)
  ledger-tied = tied-after no_held none none-tied calls bytes

  -- the answers to a list of calls
  pub ledger-answers : ledger_answers no_held calls ≡ map (λ (o : Observed). o.answer) (run calls)
  unfolding run
  ledger-answers = answers-from no_held none none-tied calls bytes

  -- what is shown after a list of calls
  pub ledger-shows : (n : ℕ) → seen n (ledger_after no_held calls) ≡ observed n (run_from none calls)
  ledger-shows n = seen-observed n (ledger_after no_held calls) (run_from none calls) ledger-tied

-- ---- the fields of bytes are bytes

pub fields-bytes : (k : ℕ) (input : List ℕ) → Bytes input → Each Bytes (fields_in k input)
unfolding fields_in
fields-bytes zero input b = tt
fields-bytes (suc k) [] b = tt
fields-bytes (suc k) (tag ∷ []) b = (b, tt)
fields-bytes (suc k) (tag ∷ high ∷ []) b = (b, tt)
fields-bytes (suc k) (tag ∷ high ∷ low ∷ rest) b =
    let n = high * 256 + low in
    ((b.0, (b.1.0, (b.1.1.0, each_take _ n rest b.1.1.1))), fields-bytes k (drop n rest) (each-drop _ n rest b.1.1.1))

-- ---- the contract of `run`

-- from as many answers of the program as there are fields, and what it then holds
pub runs : (input old new : List ℕ) (r : Ran) → Bytes input → r.count ≡ length (fields_in (length old) input)
    → new ≡ ledger_answers no_held (fields_in (length old) input) ++ drop r.count old
    → r.held ≡ ledger_after no_held (fields_in (length old) input)
    → Runs input old new r
runs input old new r bytes many written held =
    let fields = fields_in (length old) input in
    let each = fields-bytes (length old) input bytes in
    record {
      count = many;
      answers = written ∙ ap (λ (l : List ℕ). l ++ drop r.count old) (ledger-answers fields each);
      shows = λ n. ap (seen n) held ∙ ledger-shows fields each n;
    }
