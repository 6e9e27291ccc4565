-- What is written so far, with the members still left written too, is the whole (`Rattle.sets.proofs.Writes`).
use mathlib.Core.Path.{ap, ◌∙◌}
use native.Mathlib.Omega.{arith}
use Rattle.sets.proofs.Members.{Taken, given}
use Rattle.sets.proofs.Writes.{written}
use Rattle.waterfall.specs.Limits.{charges_of}
use Rattle.waterfall.proofs.Steps.{charges-of-members}
use Rattle.waterfall.proofs.charge_by_rank.Invariants.{charge}
use Rattle.waterfall.proofs.charge_by_rank.Goals as goal
use Rattle.waterfall.proofs.charge_by_rank.Goals.{After-from-m}

-- the next member, known and taken off
next-taken : (c : After-from-m) → Taken c.loop-m.m-iterator.left c.from-m.result c.next.new.self.left
next-taken c = rw c.from-m.ensures (given _ _ _ c.loop-m.m-iterator.fits c.in-Some.ensures.steps)

pub loop-m-init : goal.loop-m-init
loop-m-init c =
    rw (ap (λ s. s.left) c.into_iter-m-iterator.ensures.into_iter_gives ∙ c.members_of-m-items.ensures)
    (written c.args.set (charge c.args.set c.args.ranks c.args.holds c.min-whole.result))

pub charge_of-requires : goal.charge_of-requires
charge_of-requires c = ((next-taken (goal.at.charge_of-requires c).After-from-m).below, omega (arith, c.min-whole.ensures))

pub bounds-out-m : goal.bounds-out-m
bounds-out-m c = (next-taken (goal.at.bounds-out-m c).After-from-m).below

pub loop-m-preserved : goal.loop-m-preserved
loop-m-preserved c = rw c.charge_of.ensures (rw (next-taken (goal.at.loop-m-preserved c).After-from-m).cons at c.loop-m.invariant)

pub returns : goal.returns
unfolding charges_of
returns c = (rw c.in-None.ensures.steps.0 at c.loop-m.invariant) ∙ charges-of-members c.args.set _ _ _ ∙ rw c.min-whole.ensures
