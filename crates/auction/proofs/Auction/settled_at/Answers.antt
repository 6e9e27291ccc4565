-- `auction::Auction::settled_at` meets its contract. Assumes nothing.
use mathlib.Core.Path.{sym}
use Rattle.auction.proofs.Edges.{settles, settles-not}
use Rattle.auction.proofs.Auction.settled_at.Goals as goal

pub returns-then-t-self : goal.returns-then-t-self
returns-then-t-self c = sym (settles _ _ _ _ c.if-t-self.true)

pub returns-else-t-self : goal.returns-else-t-self
returns-else-t-self c = sym (settles-not _ _ _ _ c.if-t-self.false)
