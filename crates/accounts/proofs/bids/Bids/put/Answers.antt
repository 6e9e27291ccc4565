-- `accounts::bids::Bids::put` meets its contract. The branch's test says whether there is room. Assumes nothing.
use borrow.Author.Tests.{lt-ltb, le-ltb}
use Rattle.accounts.specs.Bids.{put_bid}
use Rattle.accounts.proofs.bids.Bids.put.Goals as goal

pub returns-then-n-ge-MOST : goal.returns-then-n-ge-MOST
unfolding put_bid
returns-then-n-ge-MOST c = simp (le-ltb _ _ c.if-n-ge-MOST.true)

pub returns : goal.returns
unfolding put_bid
returns c = simp (lt-ltb _ _ c.if-n-ge-MOST.false)
