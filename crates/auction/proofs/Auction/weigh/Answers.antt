use native.Mathlib.Omega.{arith}
use Rattle.lists.proofs.Places.{filled_next, tab-of}
use Rattle.auction.specs.Edge.{below}
use Rattle.auction.proofs.Auction.weigh.Goals as goal

pub below_at-requires : goal.below_at-requires
below_at-requires c = (omega arith, omega arith, c.requires.bids_fit.prices c.loop-i.i)

pub loop-i-preserved : goal.loop-i-preserved
loop-i-preserved c = filled_next _ 0 c.loop-i.weights c.loop-i.i _ (omega arith) c.loop-i.invariant c.below_at.ensures

pub returns : goal.returns
unfolding below
returns c = tab-of _ _ 0 c.loop-i.weights (omega arith) (λ k l. c.loop-i.invariant k (omega arith))
