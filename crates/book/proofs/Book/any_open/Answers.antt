-- `book::Book::any_open` meets its contract. Assumes nothing.
use mathlib.Core.Path.{◌≡◌, ap, ◌∙◌}
use borrow.Author.Rules.{rules}
use Rattle.std.specs.List.{list_any}
use Rattle.std.proofs.iter.runs.Made.{chains}
use Rattle.lists.specs.Lists.{any, tab}
use Rattle.book.specs.Books.{any_open_in}
use Rattle.book.proofs.Book.any_open.Goals as goal
use Rattle.book.proofs.Book.any_open.Goals.{After-any}

any-opened : (c : After-any) → c.any.result ≡ list_any (λ b. b) c.opened.result
any-opened c = search (rules, chains)

pub returns : goal.returns
unfolding any_open_in any tab
returns c = any-opened c ∙ ap (list_any (λ b. b)) c.opened.ensures
