-- `book::Book::allocation` meets its contract. The shares are those that the split leaves in the run lent to it. Assumes nothing.
use mathlib.Core.Path.{ap, ◌∙◌}
use Rattle.lists.specs.Adding.{most16, held_to}
use Rattle.splitting.specs.Limits.{Answer}
use Rattle.book.specs.Books.{allocation_in}
use Rattle.book.proofs.Book.allocation.Goals as goal

pub returns : goal.returns
unfolding allocation_in held_to
returns c = c.narrowed.ensures ∙ ap (held_to most16) (ap (λ (r : Answer). r.1) c.split.ensures ∙ simp (c.min-q.ensures, c.from.ensures, c.open_units.ensures, c.short.ensures, c.shortfalls-weights.ensures.0))
