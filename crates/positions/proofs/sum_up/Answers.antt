-- `positions::sum_up` meets its contract. Assumes nothing.
use Rattle.std.proofs.Common.{Err, ◌≡◌, sym, ap, ◌∙◌, rules}
use Rattle.lists.specs.Refusals.{answer_of}
use Rattle.positions.specs.Keeping.{Taken, no_days}
use Rattle.positions.proofs.sum_up.Goals as goal

pub returns-in_err-run : goal.returns-in_err-run
unfolding no_days
returns-in_err-run c =
    let is : c.from_residual.result ≡ Err c.in_err-run.field-0.0 = search rules in
    rw is (ap (λ (t : Taken). t.answer) (sym c.take_records-run.ensures) ∙ ap answer_of c.in_err-run.was)

pub returns : goal.returns
unfolding no_days
returns c =
    let run = sym c.take_records-run.ensures in
    (ap (λ (t : Taken). t.answer) run ∙ ap answer_of c.in_ok-run.was, ap (λ (t : Taken). t.kept.sums) run, ap (λ (t : Taken). t.used) run)
