-- `accounts::rounds::worst_in` meets its contract. One case for each way out. Assumes nothing.
use Rattle.accounts.specs.Rounds.{worst_in}
use Rattle.accounts.proofs.rounds.worst_in.Goals as goal

pub returns-in-true-true : goal.returns-in-true-true
unfolding worst_in
returns-in-true-true c = rw (c.in-true-true.is-0, c.in-true-true.is-1) c.min.ensures

pub returns-in-true-false : goal.returns-in-true-false
unfolding worst_in
returns-in-true-false c = rw (c.in-true-false.is-0, c.in-true-false.is-1)

pub returns-in-false-true : goal.returns-in-false-true
unfolding worst_in
returns-in-false-true c = rw (c.in-false-true.is-0, c.in-false-true.is-1)

pub returns-in-false-false : goal.returns-in-false-false
unfolding worst_in
returns-in-false-false c = rw (c.in-false-false.is-0, c.in-false-false.is-1)
