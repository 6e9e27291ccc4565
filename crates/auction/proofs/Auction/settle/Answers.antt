use mathlib.Core.Path.{refl, ◌∙◌}
use native.Mathlib.Omega.{arith}
use lib.Seq.{get_or-set_other}
use borrow.Author.Count.{below_none}
use Rattle.lists.proofs.Places.{filled_next, tab-of}
use Rattle.auction.specs.Edge.{settled_at, settled}
use Rattle.auction.proofs.Auction.settle.Goals as goal

pub loop-i-init : goal.loop-i-init
loop-i-init c = (below_none _, λ k l. refl)

pub loop-i-preserved : goal.loop-i-preserved
unfolding settled_at
loop-i-preserved c =
    let at = c.loop-i in (
      filled_next _ 0 at.won at.i _ (omega arith) at.invariant.0 (rw (at.invariant.1 at.i (omega arith)) at c.settled_at.ensures),
      λ k l. get_or-set_other at.won at.i k _ 0 (omega arith) ∙ at.invariant.1 k (omega arith),
    )

pub returns : goal.returns
unfolding settled
returns c = tab-of _ _ 0 c.loop-i.won (omega arith) (λ k l. c.loop-i.invariant.0 k (omega arith))
