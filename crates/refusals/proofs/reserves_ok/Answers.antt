-- `refusals::reserves_ok` meets its contract. Assumes nothing.
use borrow.Author.Rules.{rules}
use Rattle.refusals.proofs.Ranges.{reserves-tested}
use Rattle.refusals.proofs.reserves_ok.Goals as goal

pub returns-then-n-le3 : goal.returns-then-n-le3
returns-then-n-le3 c = rw reserves-tested (search rules)

pub returns-else-n-le3 : goal.returns-else-n-le3
returns-else-n-le3 c = rw reserves-tested (search rules)

pub returns-else-price_ok-3 : goal.returns-else-price_ok-3
returns-else-price_ok-3 c = rw reserves-tested (search rules)
