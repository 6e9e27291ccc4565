-- The result of a book, place by place, is the machine's. Assumes nothing.
use mathlib.Core.Path.{◌≡◌, refl, sym, ◌∙◌}
use mathlib.Core.List.{List}
use Prim.Native.Nat.{ℕ}
use lib.Dec.{eqb}
use lib.ListN.{length, replicate, length-replicate}
use Rattle.lists.specs.Lists.{tab}
use Rattle.lists.proofs.Bools.{by-test}
use Rattle.lists.proofs.Places.{tab-of}
use Rattle.splitting.specs.Limits.{split_into, refusal}
use Rattle.splitting.proofs.Shares.{split-length}
use Rattle.machine.specs.Roll.{Entry}
use Rattle.machine.specs.Result.{rank, on_payments}
use Rattle.machine.proofs.Invariant.{CaseOk}
use Rattle.book.specs.declared.Stage.{Stage}
use Rattle.book.specs.declared.Book.{Book}
use Rattle.book.specs.Results.{result_in}
use Rattle.book.specs.View.{view_of}
use Rattle.book.proofs.Sound.{Sound}
use Rattle.book.proofs.ResultShown.{loss-shown, charges-shown, uncovered-shown, ranks-shown, on-contributions-shown, on-payments-shown}
use Rattle.exports.specs.Machine.{final_of}

-- as many shares are written as there are places
split-into-length : (q : ℕ) (ws old : List ℕ) → length ws ≡ length old → length (split_into q ws old).1 ≡ length old
unfolding split_into
split-into-length q ws old e =
    by-test (λ (l : List ℕ). length l ≡ length old) (eqb (refusal q ws (length old)) 0) (λ t. split-length q ws ∙ e) (λ f. refl)

module _ (stage : Stage) (b : Book) (roll : List Entry) (s : Sound stage b roll) (ok : CaseOk (view_of stage b roll)) where
  ranks-all : (result_in b).ranks ≡ tab 32 (rank (view_of stage b roll))
  unfolding result_in
  ranks-all = ranks-shown stage b roll s ok

  payments-long : length (result_in b).payments ≡ 32
  unfolding result_in
  payments-long =
      split-into-length _ b.members.paid (replicate 32 0) (s.members.paid ∙ sym (length-replicate {A = ℕ} 32 0)) ∙ length-replicate {A = ℕ} 32 0

  payments-all : (result_in b).payments ≡ tab 32 (on_payments (view_of stage b roll))
  payments-all =
      tab-of 32 (on_payments (view_of stage b roll)) 0 (result_in b).payments payments-long (λ m l. on-payments-shown stage b roll s ok m)

  pub final-shown : result_in b ≡ final_of (view_of stage b roll)
  unfolding final_of
  final-shown =
      λ i. record {
        loss = loss-shown stage b roll s ok i;
        charges = charges-shown stage b roll s ok i;
        uncovered = uncovered-shown stage b roll s ok i;
        ranks = ranks-all i;
        contributions = on-contributions-shown stage b roll s ok i;
        payments = payments-all i;
      }
