-- What holds of the ledger after every list of calls and an accepted FINISH (specs/Claim.antt). Assumes nothing.
use Rattle.std.specs.Prelude.{is_some}
use mathlib.Core.Path.{◌≡◌, sym, ap, ◌∙◌}
use mathlib.Core.Bool.{true, false≢true}
use mathlib.Core.Logic.{⊎_elim}
use mathlib.Core.List.{List}
use mathlib.Core.Option.{none, some}
use Prim.Native.Nat.{ℕ, ◌<◌}
use lib.ListN.{get_or}
use borrow.Author.Tests.{eqb-true}
use Rattle.lists.proofs.Bools.{lt-or-le}
use Rattle.sets.specs.Set.{member}
use Rattle.sets.proofs.Bits.{member-high}
use Rattle.sets.proofs.Members.{sum-members-ext}
use Rattle.machine.specs.Wire.{FINISH}
use Rattle.machine.specs.Roll.{Entry}
use Rattle.machine.specs.State as M
use Rattle.machine.specs.Calls.{accepted}
use Rattle.machine.specs.Result.{limits, charge, spent, on_contribution, on_payments}
use Rattle.machine.specs.Run.{run_from}
use Rattle.machine.proofs.Answers.{call-answer, call-accepted}
use Rattle.machine.proofs.Invariant.{CaseOk}
use Rattle.machine.proofs.Finish as F
use Rattle.accounts.proofs.ViewMembers.{member-shown}
use Rattle.book.specs.Stages.{view_stage}
use Rattle.book.specs.Results.{limits_in, result_in}
use Rattle.book.proofs.Sound.{Sound}
use Rattle.case.specs.declared.Case.{Case}
use Rattle.case.specs.Cases.{Held, case_in}
use Rattle.case.specs.View.{view}
use Rattle.case.specs.Cases.{applied, no_held}
use Rattle.case.specs.Readings.{shown_result, seen}
use Rattle.case.specs.Claim.{Charges, AfterFinish, Finishes}
use Rattle.case.specs.Input.{ledger_after}
use Rattle.book.proofs.ResultShown.{loss-shown, limits-shown, charges-shown, uncovered-shown, rank-shown, on-contribution-shown, on-payments-shown}
use Rattle.case.proofs.Observations.{prices-shown}
use Rattle.case.proofs.Claim.{Holds, takes-call, ledger-tied}

-- ---- any case that is held

module _ (c : Case) (roll : List Entry) (sound : Sound c.stage c.book roll) (ok : CaseOk (view c roll)) where
  charge-shown : (layer : ℕ) → get_or (result_in c.book).charges layer 0 ≡ charge (view c roll) layer
  unfolding charge
  charge-shown layer = ap (λ (l : List ℕ). get_or l layer 0) (charges-shown c.stage c.book roll sound ok)

  limit-shown : (layer : ℕ) → get_or (limits_in c.book) layer 0 ≡ get_or (limits (view c roll)) layer 0
  limit-shown layer = ap (λ (l : List ℕ). get_or l layer 0) (limits-shown c.stage c.book roll sound ok)

  -- a layer that is spent is charged its whole limit
  whole : (layer : ℕ) → spent (view c roll) layer ≡ true → get_or (result_in c.book).charges layer 0 ≡ get_or (limits_in c.book) layer 0
  unfolding spent
  whole layer e = charge-shown layer ∙ eqb-true (charge (view c roll) layer) (get_or (limits (view c roll)) layer 0) e ∙ sym (limit-shown layer)

  -- a member of the set is one of the 32 places
  below : (m : ℕ) → member c.book.head.set m ≡ true → m < 32
  below m in-set = ⊎_elim (λ l. l) (λ high. absurd (false≢true (sym (member-high c.book.head.set m sound.set high) ∙ in-set))) (lt-or-le m 32)

  -- what it contributed and paid
  contribution-shown : (m : ℕ) → member c.book.head.set m ≡ true → (M.member_at (view c roll).members m).contribution ≡ get_or c.book.members.contribution m 0
  contribution-shown m in-set = ap (λ (x : M.Member). x.contribution) (member-shown c.book.members m (below m in-set))

  paid-shown : (m : ℕ) → member c.book.head.set m ≡ true → (M.member_at (view c roll).members m).paid ≡ get_or c.book.members.paid m 0
  paid-shown m in-set = ap (λ (x : M.Member). x.paid) (member-shown c.book.members m (below m in-set))

  pub charges-hold : Charges c
  charges-hold =
      let b = c.book in
      record {
        loss =
            loss-shown c.stage b roll sound ok ∙ F.requirement-in-cents (view c roll) ∙ rw (sym (prices-shown c roll sound ok));
        add-up = rw (charges-shown c.stage b roll sound ok, uncovered-shown c.stage b roll sound ok, loss-shown c.stage b roll sound ok) (F.layers-add-up (view c roll));
        on-contributions =
            sum-members-ext b.head.set _ (on_contribution (view c roll)) (λ m l in-set. on-contribution-shown c.stage b roll sound ok m in-set)
            ∙ F.on-contribution-sum (view c roll) ∙ sym (charge-shown 3);
        on-payments =
            sum-members-ext b.head.set _ (on_payments (view c roll)) (λ m l in-set. on-payments-shown c.stage b roll sound ok m)
            ∙ F.on-payments-sum (view c roll) ∙ sym (charge-shown 5);
        contribution-most = λ m in-set.
            rw (on-contribution-shown c.stage b roll sound ok m in-set, sym (contribution-shown m in-set)) (F.on-contribution-le (view c roll) m);
        payment-most = λ m in-set. rw (on-payments-shown c.stage b roll sound ok m, sym (paid-shown m in-set)) (F.on-payments-le (view c roll) m);
        juniors-first = λ senior junior s j ranked more.
            on-contribution-shown c.stage b roll sound ok junior j
            ∙ F.juniors-first (view c roll) senior junior (below junior j) j
            (rw (rank-shown c.stage b roll sound ok senior s, rank-shown c.stage b roll sound ok junior j) at ranked)
            (rw (on-contribution-shown c.stage b roll sound ok senior s) at more)
            ∙ contribution-shown junior j;
        within = λ layer. rw (charge-shown layer, limit-shown layer) (F.layer-within (view c roll) layer);
        in-turn = λ earlier later before more. whole earlier (F.layers-in-turn (view c roll) earlier later before (rw (charge-shown later) at more));
        uncovered-last = λ more layer. whole layer (F.uncovered-last (view c roll) (rw (uncovered-shown c.stage b roll sound ok) at more) layer);
      }

-- ---- the case that FINISH leaves

-- a case in stage F shows its result
result-seen : (n : ℕ) (h : Held) → is_some h ≡ true → M.letter (view_stage (case_in h).stage) ≡ 5 → (seen n h).result ≡ some (shown_result (case_in h).book)
unfolding seen
result-seen n h present five = rw (present, five)

finished : (h : Held) (c : M.Case) → Holds h (accepted c FINISH) → AfterFinish h
unfolding accepted M.letter
finished h c t =
    record {
      present = t.present;
      shown = λ n. result-seen n h t.present (ap (λ (x : M.Case). M.letter x.stage) t.shows);
      charges = charges-hold (case_in h) _ t.sound t.ok;
    }

pub after_finish : Finishes
after_finish calls bytes finish is accept =
    let h = ledger_after no_held calls in
    let s = run_from none calls in
    let now = takes-call h s (ledger-tied calls bytes) finish FINISH is tt in
    finished (applied h finish).held (M.the_case s)
    (rw (call-accepted s finish FINISH is (sym (call-answer s finish FINISH is) ∙ sym now.answer ∙ accept)) at now.tied)
