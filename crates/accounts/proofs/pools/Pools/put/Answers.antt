-- `accounts::pools::Pools::put` meets its contract. The branch's test says whether there is room. Assumes nothing.
use borrow.Author.Tests.{lt-ltb, le-ltb}
use Rattle.accounts.specs.Pools.{put_pool}
use Rattle.accounts.proofs.pools.Pools.put.Goals as goal

pub returns-then-n-lt-MOST : goal.returns-then-n-lt-MOST
unfolding put_pool
returns-then-n-lt-MOST c = simp (lt-ltb _ _ c.if-n-lt-MOST.true, c.from-at.ensures)

pub returns : goal.returns
unfolding put_pool
returns c = simp (le-ltb _ _ c.if-n-lt-MOST.false)
