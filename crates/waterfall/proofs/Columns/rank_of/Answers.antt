-- Those found and those still left that are senior are as many as are senior in all (`Rattle.sets.proofs.Gathering`).
use mathlib.Core.Path.{ap, ◌∙◌}
use Prim.Native.Nat.{◌+◌}
use native.Mathlib.Omega.{arith}
use Rattle.sets.proofs.Members.{Taken, given, given-none, members-few}
use Rattle.sets.proofs.Gathering.{start, turn, end}
use Rattle.waterfall.specs.Seniority.{rank_in}
use Rattle.waterfall.specs.Limits.{capped}
use Rattle.waterfall.proofs.Columns.rank_of.Goals as goal
use Rattle.waterfall.proofs.Columns.rank_of.Goals.{In-Some}

-- the next member, known and taken off
next-taken : (c : In-Some) → Taken c.loop-o.o-iterator.left c.in-Some.o c.next.new.self.left
next-taken c = given _ _ _ c.loop-o.o-iterator.fits c.in-Some.ensures.steps

pub loop-o-init : goal.loop-o-init
loop-o-init c =
    rw (ap (λ s. s.left) c.into_iter-o-iterator.ensures.into_iter_gives ∙ c.members_of-o-items.ensures) (start _ c.args.set c.ranges.set.fits)

pub performance_at-requires : goal.performance_at-requires
performance_at-requires c = rw c.from.ensures (next-taken (goal.at.performance_at-requires c).In-Some).below

pub with_senior-seniors-requires : goal.with_senior-seniors-requires
with_senior-seniors-requires c = (rw c.performance_at.ensures (omega arith), rw c.performance_at-mine.ensures (omega arith))

pub loop-o-preserved : goal.loop-o-preserved
unfolding capped
loop-o-preserved c = rw (c.with_senior-seniors.ensures, c.performance_at.ensures, c.from.ensures)
    (turn _ c.args.set _ _ _ _ c.loop-o.invariant (next-taken (goal.at.loop-o-preserved c).In-Some) c.next.new.self.fits)

pub overflow_cast-result : goal.overflow_cast-result
overflow_cast-result c = omega (arith, c.count.ensures, members-few c.loop-o.seniors)

pub overflow_add-result : goal.overflow_add-result
overflow_add-result c = omega (arith, c.count.ensures, members-few c.loop-o.seniors)

pub returns : goal.returns
unfolding rank_in capped
returns c = let whole = end _ _ _ _ (given-none _ c.loop-o.o-iterator.fits c.in-None.ensures.steps.0) c.loop-o.invariant in
    ap (λ n. 1 + n) (c.count.ensures ∙ rw c.performance_at-mine.ensures at whole)
