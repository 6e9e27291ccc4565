use mathlib.Core.Path.{refl, ap, ◌∙◌}
use native.Mathlib.Omega.{arith}
use borrow.Author.Tests.{lt-ltb, le-ltb}
use Rattle.sets.proofs.Members.{Taken, given}
use Rattle.units.specs.Steps.{shared_counts, shared_sums, allocate_units}
use Rattle.units.proofs.Units.allocate.Goals as goal
use Rattle.units.proofs.Units.allocate.Goals.{After-from-m}

-- the next member, known and taken off
next-taken : (c : After-from-m) → Taken c.loop-m.m-iterator.left c.from-m.result c.next.new.self.left
next-taken c = rw c.from-m.ensures (given _ _ _ c.loop-m.m-iterator.fits c.in-Some.ensures.steps)

pub returns-then-pool-ge4 : goal.returns-then-pool-ge4
unfolding allocate_units
returns-then-pool-ge4 c = rw (le-ltb c.args.pool 4 (omega arith))

pub loop-m-init : goal.loop-m-init
loop-m-init c = rw (ap (λ s. s.left) c.into_iter-m-iterator.ensures.into_iter_gives ∙ c.members_of-m-items.ensures) (refl, refl)

pub bounds-shares-m : goal.bounds-shares-m
bounds-shares-m c = (next-taken (goal.at.bounds-shares-m c).After-from-m).below

pub loop-m-preserved : goal.loop-m-preserved
unfolding shared_counts shared_sums
loop-m-preserved c = let k = next-taken (goal.at.loop-m-preserved c).After-from-m in
    let l = c.loop-m in
    (rw c.transfer.ensures (rw k.cons at l.invariant.0), rw c.reprice.ensures (rw k.cons at l.invariant.1))

pub returns : goal.returns
unfolding allocate_units shared_counts shared_sums
returns c = let l = c.loop-m in
    let done = rw c.in-None.ensures.steps.0 at l.invariant.0 in
    let summed = rw c.in-None.ensures.steps.0 at l.invariant.1 in
    rw (lt-ltb c.args.pool 4 (omega arith), ← c.from-at.ensures, ← done, ← summed)
