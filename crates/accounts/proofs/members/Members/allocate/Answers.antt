-- `accounts::members::Members::allocate` meets its contract. The branch's test says whether there is such a pool. Assumes nothing.
use borrow.Author.Tests.{lt-ltb, le-ltb}
use Rattle.accounts.specs.Members.{with_shares}
use Rattle.accounts.proofs.members.Members.allocate.Goals as goal

pub returns-then-pool-ge4 : goal.returns-then-pool-ge4
unfolding with_shares
returns-then-pool-ge4 c = simp (le-ltb _ _ c.if-pool-ge4.true)

pub returns : goal.returns
unfolding with_shares
returns c = simp (lt-ltb _ _ c.if-pool-ge4.false, c.add_shares.ensures)
