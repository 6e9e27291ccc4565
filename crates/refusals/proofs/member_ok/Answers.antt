-- `refusals::member_ok` meets its contract. Assumes nothing.
use borrow.Author.Rules.{rules}
use Rattle.refusals.proofs.Ranges.{member-tested}
use Rattle.refusals.proofs.member_ok.Goals as goal

pub returns-then-expected_ok-3 : goal.returns-then-expected_ok-3
returns-then-expected_ok-3 c = rw member-tested (search rules)

pub returns-else-expected_ok-3 : goal.returns-else-expected_ok-3
returns-else-expected_ok-3 c = rw member-tested (search rules)
