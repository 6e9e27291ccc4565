-- `waterfall::is_senior` meets its contract, by the two categories. Assumes nothing.
use borrow.Author.Tests.{le-leb, lt-leb}
use Rattle.waterfall.specs.Seniority.{senior}
use Rattle.waterfall.proofs.is_senior.Goals as goal

pub returns-then-b : goal.returns-then-b
unfolding senior
returns-then-b c = rw c.senior_in_a.ensures (simp (le-leb _ _ c.if-a.true, le-leb _ _ c.if-b.true))

pub returns-else-b : goal.returns-else-b
unfolding senior
returns-else-b c = simp (le-leb _ _ c.if-a.true, lt-leb _ _ c.if-b.false)

pub returns-then-b-2 : goal.returns-then-b-2
unfolding senior
returns-then-b-2 c = simp (lt-leb _ _ c.if-a.false, le-leb _ _ c.if-b-2.true)

pub returns-else-b-2 : goal.returns-else-b-2
unfolding senior
returns-else-b-2 c = rw c.senior_in_b.ensures (simp (lt-leb _ _ c.if-a.false, lt-leb _ _ c.if-b-2.false))
