-- What is written so far, with the members still left written too, is the whole (`Rattle.sets.proofs.Writes`).
use mathlib.Core.Path.{ap, ◌∙◌}
use Rattle.sets.proofs.Members.{Taken, given}
use Rattle.sets.proofs.Writes.{written}
use Rattle.waterfall.proofs.Holdings.of_rank.Invariants.{weight}
use Rattle.waterfall.proofs.Holdings.of_rank.Goals as goal
use Rattle.waterfall.proofs.Holdings.of_rank.Goals.{After-from-m}

-- the next member, known and taken off
next-taken : (c : After-from-m) → Taken c.loop-m.m-iterator.left c.from-m.result c.next.new.self.left
next-taken c = rw c.from-m.ensures (given _ _ _ c.loop-m.m-iterator.fits c.in-Some.ensures.steps)

pub loop-m-init : goal.loop-m-init
loop-m-init c =
    rw (ap (λ s. s.left) c.into_iter-m-iterator.ensures.into_iter_gives ∙ c.members_of-m-items.ensures)
    (written c.args.self.now.set (weight c.args.self.now.ranks c.args.self.now.holds c.args.r))

pub bounds-self-m : goal.bounds-self-m
bounds-self-m c = (next-taken (goal.at.bounds-self-m c).After-from-m).below

pub bounds-self-m-in-loop-m : goal.bounds-self-m-in-loop-m
bounds-self-m-in-loop-m c = (next-taken (goal.at.bounds-self-m-in-loop-m c).After-from-m).below

pub bounds-out-m : goal.bounds-out-m
bounds-out-m c = (next-taken (goal.at.bounds-out-m c).After-from-m).below

pub loop-m-preserved : goal.loop-m-preserved
loop-m-preserved c = rw (c.holding_if.ensures, c.from.ensures) (rw (next-taken (goal.at.loop-m-preserved c).After-from-m).cons at c.loop-m.invariant)

pub returns : goal.returns
returns c = rw c.in-None.ensures.steps.0 at c.loop-m.invariant
