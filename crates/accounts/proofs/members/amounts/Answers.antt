use mathlib.Core.Path.{ap, ◌∙◌}
use native.Mathlib.Omega.{arith}
use Rattle.sets.proofs.Members.{Taken, given, given-none, members-few}
use Rattle.sets.proofs.Adding.{start, turn, end}
use Rattle.accounts.proofs.members.amounts.Goals as goal
use Rattle.accounts.proofs.members.amounts.Goals.{After-from}

-- the next member, known and taken off
next-taken : (c : After-from) → Taken c.loop-m.m-iterator.left c.from.result c.next.new.self.left
next-taken c = rw c.from.ensures (given _ _ _ c.loop-m.m-iterator.fits c.in-Some.ensures.steps)

pub loop-m-init : goal.loop-m-init
loop-m-init c =
    rw (ap (λ s. s.left) c.into_iter-m-iterator.ensures.into_iter_gives ∙ c.members_of-m-items.ensures)
    (start _ c.args.set c.ranges.set.fits, omega (arith, members-few c.args.set))

pub amount_at-total-requires : goal.amount_at-total-requires
amount_at-total-requires c = (next-taken (goal.at.amount_at-total-requires c).After-from).below

pub loop-m-preserved : goal.loop-m-preserved
loop-m-preserved c =
    let t = next-taken (goal.at.loop-m-preserved c).After-from in
    (rw c.amount_at-total.ensures.0 (turn _ _ _ _ _ _ c.loop-m.invariant.0 t c.next.new.self.fits), omega (arith, t.shorter))

pub returns : goal.returns
returns c = (end _ _ _ _ (given-none _ c.loop-m.invariant.0.left-fits c.in-None.ensures.steps.0) c.loop-m.invariant.0, omega (arith, c.loop-m.invariant.1))
