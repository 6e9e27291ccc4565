-- `exports::owes` meets its contract. Assumes nothing.
use borrow.Author.Rules.{rules}
use Rattle.lists.proofs.Made.{made}
use Rattle.accounts.specs.Members.{owes_of}
use Rattle.exports.specs.Showing.{owes_table}
use Rattle.exports.proofs.owes.Goals as goal

pub returns : goal.returns
unfolding owes_table
returns c = made _ (owes_of c.args.book.members) (λ k y f h. search rules) c.from_fn.result 32 0 c.from_fn.ensures.items
