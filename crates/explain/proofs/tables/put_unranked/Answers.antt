-- `explain::tables::put_unranked` is safe: a member is below 32. Assumes nothing.
use native.Mathlib.Omega.{arith}
use Rattle.sets.proofs.Members.{Taken, given}
use Rattle.explain.proofs.tables.put_unranked.Goals as goal
use Rattle.explain.proofs.tables.put_unranked.Goals.{After-from-i}

-- the next member, known and taken off
next-taken : (c : After-from-i) → Taken c.loop-m.m-iterator.left c.from-i.result c.next.new.self.left
next-taken c = rw c.from-i.ensures (given _ _ _ c.loop-m.m-iterator.fits c.in-Some.ensures.steps)

pub bounds-won-i : goal.bounds-won-i
bounds-won-i c = omega (arith, next-taken (goal.at.bounds-won-i c).After-from-i)

pub bounds-expected-i : goal.bounds-expected-i
bounds-expected-i c = omega (arith, next-taken (goal.at.bounds-expected-i c).After-from-i)

pub bounds-won-i-in-loop-m : goal.bounds-won-i-in-loop-m
bounds-won-i-in-loop-m c = omega (arith, next-taken (goal.at.bounds-won-i-in-loop-m c).After-from-i)

pub bounds-expected-i-in-loop-m : goal.bounds-expected-i-in-loop-m
bounds-expected-i-in-loop-m c = omega (arith, next-taken (goal.at.bounds-expected-i-in-loop-m c).After-from-i)

pub bounds-members-i : goal.bounds-members-i
bounds-members-i c = omega (arith, next-taken (goal.at.bounds-members-i c).After-from-i)

pub bounds-members-i-in-loop-m : goal.bounds-members-i-in-loop-m
bounds-members-i-in-loop-m c = omega (arith, next-taken (goal.at.bounds-members-i-in-loop-m c).After-from-i)

pub bounds-members-i-in-loop-m-2 : goal.bounds-members-i-in-loop-m-2
bounds-members-i-in-loop-m-2 c = omega (arith, next-taken (goal.at.bounds-members-i-in-loop-m-2 c).After-from-i)
