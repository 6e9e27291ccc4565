use Rattle.sets.proofs.Members.{Taken, given}
use Rattle.accounts.specs.Members.{add_shares}
use Rattle.accounts.proofs.members.add_shares.Goals as goal
use Rattle.accounts.proofs.members.add_shares.Goals.{After-from-m}

-- the next member, known and taken off
next-taken : (c : After-from-m) → Taken c.loop-m.m-iterator.left c.from-m.result c.next.new.self.left
next-taken c = rw c.from-m.ensures (given _ _ _ c.loop-m.m-iterator.fits c.in-Some.ensures.steps)

pub bounds-shares-m : goal.bounds-shares-m
bounds-shares-m c = (next-taken (goal.at.bounds-shares-m c).After-from-m).below

pub loop-m-preserved : goal.loop-m-preserved
unfolding add_shares
loop-m-preserved c = rw (c.add_at.ensures, c.from.ensures) (rw (next-taken (goal.at.loop-m-preserved c).After-from-m).cons at c.loop-m.invariant)

pub returns : goal.returns
unfolding add_shares
returns c = rw c.in-None.ensures.steps.0 at c.loop-m.invariant
