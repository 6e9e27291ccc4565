-- `auction::Auction::below_at` meets its contract. Assumes nothing.
use Rattle.auction.specs.Edge.{below_at}
use Rattle.auction.proofs.Auction.below_at.Goals as goal

pub returns : goal.returns
unfolding below_at
returns c = simp (
  c.number_if.ensures,
  c.both.ensures,
)
