-- `exports::counts` meets its contract. Assumes nothing.
use Prim.Native.Nat.{◌/◌, ◌%◌}
use borrow.Author.Rules.{rules}
use Rattle.lists.proofs.Made.{made}
use Rattle.units.specs.Shown.{count_of}
use Rattle.exports.specs.Showing.{count_table}
use Rattle.exports.proofs.counts.Goals as goal

pub returns : goal.returns
unfolding count_table
returns c = let case = c.args.case in made _ (λ k. count_of case.book.units case.book.bids.pool (k / 5) (k % 5)) (λ k y f h. search rules) c.from_fn.result 20 0 c.from_fn.ensures.items
