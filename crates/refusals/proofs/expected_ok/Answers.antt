-- `refusals::expected_ok` meets its contract. Assumes nothing.
use Rattle.refusals.proofs.expected_ok.Goals as goal

pub returns-then-lies : goal.returns-then-lies
returns-then-lies c = rw c.if-lies.true

pub returns-else-lies : goal.returns-else-lies
returns-else-lies c = rw c.if-lies.false
