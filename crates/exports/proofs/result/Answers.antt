-- `exports::result` meets its contract. Assumes nothing.
use borrow.Author.Tests.{eq-eqb, ne_eqb}
use Rattle.exports.specs.Showing.{no_result, result_shown}
use Rattle.exports.proofs.result.Goals as goal

pub returns-then-letter-eq5 : goal.returns-then-letter-eq5
unfolding result_shown
returns-then-letter-eq5 c = rw (← c.letter.ensures, eq-eqb _ _ c.if-letter-eq5.true) c.result.ensures

pub returns : goal.returns
unfolding result_shown no_result
returns c = rw (← c.letter.ensures, ne_eqb _ _ c.if-letter-eq5.false)
