-- `book::Book::result` meets its contract. The payments' shares are those that the split leaves in the run lent to it. Assumes nothing.
use mathlib.Core.Path.{ap, ◌∙◌}
use Rattle.splitting.specs.Limits.{Answer}
use Rattle.book.proofs.Parts.{result-of-parts}
use Rattle.book.proofs.Book.result.Goals as goal

pub returns : goal.returns
returns c = result-of-parts c.args.self c.requirement-loss.ensures c.limits.ensures c.charge_layers-charged.ensures c.ranks-ranks.ensures (c.charge_by_rank-contributions.ensures ∙ rw c.widened-funds.ensures) (ap (λ (r : Answer). r.1) c.split.ensures ∙ rw c.widened-weights.ensures)
