-- What is answered and shown after a list of calls is what the machine answers and shows. Assumes nothing.
use mathlib.Core.Path.{◌≡◌, sym, ap, ◌∙◌}
use mathlib.Core.Bool.{true}
use mathlib.Core.List.{List}
use mathlib.Core.Option.{none, some}
use Prim.Native.Nat.{ℕ, ◌<◌, ◌/◌, ◌%◌}
use native.Mathlib.Nat.{mod-lt}
use native.Mathlib.Omega.{arith}
use lib.Dec.{eqb}
use lib.ListN.{get_or}
use Rattle.lists.specs.Lists.{when◌then◌else◌, tab}
use Rattle.lists.proofs.Each.{Each}
use Rattle.lists.proofs.Places.{get_or-tab, tab-ext}
use Rattle.machine.specs.Roll.{Entry}
use Rattle.machine.specs.State as M
use Rattle.machine.specs.Requirement.{owes}
use Rattle.machine.specs.Run.{Observed, five_counts, run_from, observed}
use Rattle.machine.specs.Running.{left_sum}
use Rattle.machine.proofs.Invariant.{CaseOk}
use Rattle.units.specs.Shown.{count_of}
use Rattle.accounts.proofs.ViewPools as P
use Rattle.accounts.proofs.ViewBids as B
use Rattle.book.specs.declared.Result.{Result}
use Rattle.book.proofs.Sound.{Sound}
use Rattle.book.proofs.Shown.{requirement-shown, prefunded-shown, debt-shown}
use Rattle.case.specs.declared.Case.{Case}
use Rattle.case.specs.Cases.{Held, case_in}
use Rattle.std.specs.Prelude as R
use Rattle.case.specs.View.{view}
use Rattle.case.specs.Cases.{no_held}
use Rattle.case.specs.Readings.{counts_in, pool_prices_in, reading_in, as_read, seen}
use Rattle.input.specs.Strings.{strings_in, in_front}
use Rattle.case.specs.Input.{Replays, ledger_after}
use Rattle.lists.specs.Lists.{Bytes}
use Rattle.case.proofs.Observations.{counts-at, prices-shown}
use Rattle.input.proofs.Strings.{strings-bytes}
use Rattle.case.proofs.Claim.{Tied, sums-seen, requirement-seen, ledger-tied, ledger-answers, ledger-shows}
use Rattle.exports.specs.declared.Shown.{Shown}
use Rattle.exports.specs.declared.Reading.{Reading}
use Rattle.exports.specs.Showing.{count_table, owes_table, no_result, result_shown, case_shown, shown_of, holding_shown, asks, holdings_of}
use Rattle.exports.specs.Machine.{final_of, shown_in, shown_by, read_by}
use Rattle.exports.specs.Promises.{Called, holdings_after}
use Rattle.exports.proofs.Final.{final-shown}

-- ---- a case

module _ (c : Case) (roll : List Entry) (sound : Sound c.stage c.book roll) (ok : CaseOk (view c roll)) where
  abbrev counted : ℕ → ℕ → ℕ
  counted = count_of c.book.units c.book.bids.pool

  count_at : (k : ℕ) → k < 20 → counted (k / 5) (k % 5) ≡ get_or (five_counts roll (k / 5)) (k % 5) 0
  unfolding counts_in
  count_at k l =
      sym (get_or-tab 5 (counted (k / 5)) (k % 5) 0 (mod-lt k (omega arith)))
      ∙ ap (λ (xs : List ℕ). get_or xs (k % 5) 0) (counts-at c roll sound ok (k / 5) (omega arith))

  counts_all : count_table c ≡ tab 20 (λ k. get_or (five_counts roll (k / 5)) (k % 5) 0)
  unfolding count_table
  counts_all = tab-ext 20 _ _ count_at

  owes-all : owes_table c.book ≡ tab 32 (owes (view c roll).members)
  unfolding owes_table
  owes-all = tab-ext 32 _ _ (λ m l. debt-shown c.stage c.book roll sound ok m)

  result-all : result_shown c ≡ (when eqb (M.letter (view c roll).stage) 5 then final_of (view c roll) else no_result)
  unfolding result_shown
  result-all = ap (λ (r : Result). when eqb (M.letter (view c roll).stage) 5 then r else no_result) (final-shown c.stage c.book roll sound ok)

  pub shown-in : case_shown c ≡ shown_in (view c roll)
  unfolding case_shown shown_in
  shown-in =
      λ i. record {
        present = true;
        stage = M.letter (view c roll).stage;
        round = M.round_of (view c roll).stage;
        pools = sym (P.length-view c.book.pools) i;
        bids = sym (B.length-view c.book.bids) i;
        stands = B.marks-shown c.book.bids sound.bids i;
        counts = counts_all i;
        prices = prices-shown c roll sound ok i;
        requirement = requirement-shown c.stage c.book roll sound ok i;
        prefunded = prefunded-shown c.stage c.book roll sound ok i;
        owes = owes-all i;
        loss = (result-all i).loss;
        charges = (result-all i).charges;
        uncovered = (result-all i).uncovered;
        ranks = (result-all i).ranks;
        contributions = (result-all i).contributions;
        payments = (result-all i).payments;
      }

-- what is held, case or none
shown_by_lem : (h : Held) (s : M.State) → Tied h s → shown_of h ≡ shown_by s
unfolding shown_of shown_by
shown_by_lem h none t = rw t
shown_by_lem h (some c) t = rw t.present (shown-in (case_in h) c.roll t.sound t.ok ∙ ap shown_in t.shows)

-- a pair as what is shown
abbrev pub shown_reading : ℕ × ℕ → Reading
shown_reading p = record { answer = p.0; cents = p.1 }

read-by : (h : Held) (s : M.State) → Tied h s → ◌≡◌ {A = Reading} (shown_reading (as_read (reading_in h))) (read_by s)
unfolding read_by
read-by h none t = let e = requirement-seen h none t in λ i. record { answer = (e i).0; cents = (e i).1 }
read-by h (some c) t = let e = requirement-seen h (some c) t in λ i. record { answer = (e i).0; cents = (e i).1 }

-- ---- after a list of calls

module _ (bytes ends : List ℕ) (given : Bytes bytes) where
  each : Each Bytes (strings_in bytes ends)
  each = strings-bytes 0 bytes ends given

  pub called : (old new : List ℕ) (h : Held) → Replays no_held (strings_in bytes ends) old new h → (s : Shown) → s ≡ shown_of h → Called (strings_in bytes ends) old new s
  called old new h r s e =
      record {
        answers = r.answers ∙ ap (λ (l : List ℕ). in_front l old) (ledger-answers (strings_in bytes ends) each);
        shows = e ∙ ap shown_of r.held ∙ shown_by_lem _ _ (ledger-tied (strings_in bytes ends) each);
      }

  module _ (h : Held) (after : h ≡ ledger_after no_held (strings_in bytes ends)) where
    holds : holding_shown h ≡ (observed 0 (run_from none (strings_in bytes ends))).holdings
    unfolding holding_shown seen
    holds = ap (λ (k : Held). (seen 0 k).holdings) after ∙ ap (λ (o : Observed). o.holdings) (ledger-shows (strings_in bytes ends) each 0)

    pub held_after : (members pools prices units given_back : List ℕ) → given_back ≡ in_front (holdings_of h members pools prices) units
        → given_back ≡ in_front (holdings_after (strings_in bytes ends) members pools prices) units
    held_after members pools prices units given_back e = e ∙ ap (λ (f : ℕ → ℕ → ℕ → ℕ). in_front (asks f members pools prices) units) holds

    -- document 02, C-16
    pub requirement-after : (r : R.Result ℕ ℕ) → r ≡ reading_in h → ◌≡◌ {A = Reading} (shown_reading (as_read r)) (read_by (run_from none (strings_in bytes ends)))
    requirement-after r e = rw (e, after) (read-by _ (run_from none (strings_in bytes ends)) (ledger-tied (strings_in bytes ends) each))

    pub prices-after : (pool : ℕ) → pool_prices_in h pool ≡ left_sum (M.the_case (run_from none (strings_in bytes ends))) pool
    prices-after pool = rw after (sums-seen _ (run_from none (strings_in bytes ends)) (ledger-tied (strings_in bytes ends) each) pool)
