-- `book::Book::calls` meets its contract. The shares are those that the split leaves in the run lent to it. Assumes nothing.
use mathlib.Core.Path.{ap, ◌∙◌}
use Rattle.lists.specs.Adding.{most32, held_to}
use Rattle.splitting.specs.Limits.{Answer}
use Rattle.book.specs.Books.{calls_in}
use Rattle.book.proofs.Book.calls.Goals as goal

pub returns : goal.returns
unfolding calls_in held_to
returns c = c.narrowed.ensures ∙ ap (held_to most32) (ap (λ (r : Answer). r.1) c.split.ensures ∙ simp (c.min-q.ensures, c.contributions.ensures, c.saturating_sub-lack.ensures, c.prefunded.ensures, c.requirement.ensures, c.widened-weights.ensures))
