-- THE CLAIM of document 01 about the ledger (specs/Claim.antt), whole. Assumes nothing.
use Rattle.std.specs.Prelude.{Some, None, is_some}
use mathlib.Core.Path.{◌≡◌, refl, sym, ap, ◌∙◌}
use mathlib.Core.Bool.{Bool, true, false, false≢true}
use mathlib.Core.List.{List, []}
use mathlib.Core.Option.{Option, none, some}
use Prim.Native.Nat.{ℕ, ◌<◌}
use lib.Dec.{eqb}
use lib.ListN.{length, get_or, take}
use borrow.Author.Tests.{lt-ltb, eqb-true, ne_eqb}
use Rattle.lists.specs.Lists.{when◌then◌else◌, sum, Bytes}
use Rattle.lists.proofs.Each.{each_take}
use Rattle.lists.proofs.Places.{get_or-tab}
use Rattle.machine.specs.Wire.{Call, HEAD}
use Rattle.machine.specs.State as M
use Rattle.machine.specs.Machine.{answered}
use Rattle.machine.specs.Result.{limits, charge, spent}
use Rattle.machine.specs.Run.{Observed, observed, five_counts, result_of, run_from}
use Rattle.machine.proofs.Claims as C
use Rattle.machine.proofs.Finish as F
use Rattle.machine.proofs.Running.{reading-is}
use Rattle.reserves.proofs.Seen.{outside-full}
use Rattle.reserves.proofs.Claims.{reserves-stay-inside}
use Rattle.wire.specs.Asked.{head_of}
use Rattle.units.specs.Shown.{agreed_of}
use Rattle.units.proofs.Shown as U
use Rattle.case.specs.Cases.{Held, case_in}
use Rattle.case.specs.Cases.{applied, no_held, case_answer_to, answer_to, first_answer_to, first_answer, after_asked, case_after, take_asked, head_outcome, outcome_of}
use Rattle.case.specs.Readings.{seen}
use Rattle.case.specs.Input.{ledger_after}
use Rattle.case.specs.Claim.{AnswersFirst, OneOfFive, MethodsAgree, HeadAgrees, KeepsSales, KeepsBids, KeepsSums, ReadsRequirement, ShowsOutside, KeepsReserves, Covers, Finished, Claim}
use Rattle.case.proofs.Claim.{Holds, taken, takes, none-tied, seen-observed, sums-seen, read_from, requirement-told, requirement-seen, outside-seen, agrees, ledger-tied, ledger-answers, ledger-shows}
use Rattle.case.proofs.Finishes.{after_finish}

-- ---- one call

-- a refused call leaves all as it was, whatever is held
unchanged : (h : Held) (bytes : List ℕ) → ((applied h bytes).answer ≡ 0 → ⊥) → (applied h bytes).held ≡ h
unfolding applied take_asked
unchanged h bytes n = rw (ne_eqb _ 0 n)

answers-first : AnswersFirst
answers-first calls each bytes b =
    let h = ledger_after no_held calls in
    let s = run_from none calls in
    let t = takes h s (ledger-tied calls each) bytes b in
    record {
      no_call = λ is. t.answer ∙ C.no_call s bytes is;
      passed-accepted = λ call is p. t.answer ∙ C.passed-accepted s bytes call is p;
      answer-first = λ call is n. rw t.answer (C.answer-first s bytes call is (λ e. n (t.answer ∙ e)));
      refused-unchanged = unchanged h bytes;
    }

-- ---- each unit is one of five

counts_of : (n pool : ℕ) (c : M.Case) → pool < length c.pools → get_or (observed n (some c)).counts pool [] ≡ five_counts c.roll pool
unfolding observed
counts_of n pool c l = get_or-tab (length c.pools) (five_counts c.roll) pool [] l

one-of-five : OneOfFive
one-of-five calls each c is n pool l =
    ap (λ (o : Observed). sum (get_or o.counts pool [])) (ledger-shows calls each n)
    ∙ ap (λ (s : M.State). sum (get_or (observed n s).counts pool [])) is
    ∙ ap sum (counts_of n pool c l)
    ∙ C.five-counts calls c is pool

-- ---- the methods

-- a case that is held, whatever a method makes of it, is held after the call is taken
as-taken : (h : Held) (a : Option Call) → is_some h ≡ true
    → seen (outcome_of (case_in h) a).answer (Some (outcome_of (case_in h) a).case) ≡ seen (take_asked h a).answer (take_asked h a).held
unfolding outcome_of take_asked answer_to
as-taken None a e = absurd (false≢true e)
as-taken (Some c) a e = by_answer (case_answer_to c a) (eqb (case_answer_to c a) 0)
  where
    by_answer : (n : ℕ) (b : Bool)
        → seen n (Some (when b then after_asked c a else c)) ≡ seen n (when b then Some (after_asked c a) else Some c)
    by_answer n true = refl
    by_answer n false = refl

methods-agree : MethodsAgree
methods-agree calls each c is call fits =
    let h = ledger_after no_held calls in
    let t : Holds h c = rw is at (ledger-tied calls each) in
    let k = taken h (some c) t (some call) fits in
    as-taken h (some call) t.present
    ∙ seen-observed (take_asked h (some call)).answer (take_asked h (some call)).held (answered (some c) (some call)).state k.tied
    ∙ ap (λ (n : ℕ). observed n (answered (some c) (some call)).state) k.answer

head-agrees : HeadAgrees
unfolding head_outcome answer_to first_answer_to first_answer after_asked case_after take_asked
head-agrees h small =
    let a = some (HEAD (head_of h)) in
    let k = taken no_held none none-tied a small in
    seen-observed (take_asked no_held a).answer (take_asked no_held a).held (answered none a).state k.tied
    ∙ ap (λ (n : ℕ). observed n (answered none a).state) k.answer

-- ---- units sold by agreement

keeps-sales : KeepsSales
unfolding agreed_of
keeps-sales calls each c is pool l =
    let h = ledger_after no_held calls in
    let t : Holds h c = rw is at (ledger-tied calls each) in
    let kept = t.sound.units.kept in
    let u = (case_in h).book.units in
    record {
      units = rw (lt-ltb pool 4 l) (sym (U.agreed-count u _ _ kept pool l));
      entries = U.agreed-entries u _ _ kept pool l;
    }

-- ---- the bids kept

keeps-bids : KeepsBids
keeps-bids calls each c is =
    let t : Holds (ledger_after no_held calls) c = rw is at (ledger-tied calls each) in
    ap (λ (x : M.Case). x.bids) t.shows

-- ---- the running sums, and the requirement that is read

keeps-sums : KeepsSums
keeps-sums calls each pool =
    let full = sums-seen (ledger_after no_held calls) (run_from none calls) (ledger-tied calls each) pool in
    record { running = full ∙ sym (C.running-sum calls pool); full = full }

reads-requirement : ReadsRequirement
reads-requirement calls each =
    let h = ledger_after no_held calls in
    let told = requirement-told h (run_from none calls) (ledger-tied calls each) in
    record {
      running = requirement-seen h (run_from none calls) (ledger-tied calls each) ∙ sym (reading-is calls);
      full = λ c here. told ∙ ap read_from here;
      declined = λ here. told ∙ ap read_from here;
    }

-- ---- reserves stay inside the house

shows-outside : ShowsOutside
shows-outside calls each = outside-seen (ledger_after no_held calls) (run_from none calls) (ledger-tied calls each) ∙ sym (outside-full calls)

keeps-reserves : KeepsReserves
keeps-reserves calls others each also same =
    let alike = reserves-stay-inside calls others same in
    record {
      answers = ledger-answers calls each ∙ alike.answers ∙ sym (ledger-answers others also);
      shown = λ k. shows-outside (take k calls) (each_take Bytes k calls each) ∙ alike.shown k ∙ sym (shows-outside (take k others) (each_take Bytes k others also));
    }

-- ---- a finished case

-- a layer that is spent is charged its limit
whole : (c : M.Case) (layer : ℕ) → spent c layer ≡ true → charge c layer ≡ get_or (limits c) layer 0
unfolding spent
whole c layer e = eqb-true (charge c layer) (get_or (limits c) layer 0) e

covers : (c : M.Case) → Covers (result_of c) c
unfolding result_of charge
covers c =
    record {
      loss = refl;
      add-up = F.layers-add-up c;
      within = F.layer-within c;
      in-turn = λ earlier later l some. whole c earlier (F.layers-in-turn c earlier later l some);
      uncovered-last = λ some layer. whole c layer (F.uncovered-last c some layer);
    }

result-of : (n : ℕ) (c : M.Case) → M.letter c.stage ≡ 5 → (observed n (some c)).result ≡ some (result_of c)
unfolding observed M.letter_of
result-of n c five = rw five

finished : Finished
finished calls each c is five =
    record {
      result = result_of c;
      shown = λ n.
          ap (λ (o : Observed). o.result) (ledger-shows calls each n) ∙ ap (λ (s : M.State). (observed n s).result) is ∙ result-of n c five;
      covers = covers c;
    }

-- ---- the claim

pub claim : Claim
claim =
    record {
      answers = answers-first;
      agrees = agrees;
      one-of-five = one-of-five;
      methods = methods-agree;
      head = head-agrees;
      sales = keeps-sales;
      bids = keeps-bids;
      sums = keeps-sums;
      requirement = reads-requirement;
      outside = shows-outside;
      reserves = keeps-reserves;
      finishes = after_finish;
      finished = finished;
    }
