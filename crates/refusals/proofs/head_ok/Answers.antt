-- `refusals::head_ok` meets its contract. The tests stand in the order of the definition. Assumes nothing.
use borrow.Author.Rules.{rules}
use Rattle.refusals.proofs.Ranges.{head-tested}
use Rattle.refusals.proofs.head_ok.Goals as goal

pub returns-then-h-ne-NO_MEMBER : goal.returns-then-h-ne-NO_MEMBER
returns-then-h-ne-NO_MEMBER c = rw head-tested (search rules)

pub returns-else-h-ne-NO_MEMBER : goal.returns-else-h-ne-NO_MEMBER
returns-else-h-ne-NO_MEMBER c = rw head-tested (search rules)
