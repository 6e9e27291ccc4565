use mathlib.Core.Path.{sym, ap, ◌∙◌}
use Prim.Native.Nat.{ℕ, ◌≤◌}
use native.Mathlib.Omega.{arith}
use borrow.Author.Tests.{lt-ltb, le-ltb}
use Rattle.lists.specs.Adding.{most16}
use Rattle.lists.proofs.Bools.{same-choice}
use Rattle.lists.proofs.Each.{set_cases}
use Rattle.lists.proofs.Places.{tab-ext, tab-same, get_or-same}
use Rattle.sets.specs.Set.{member, of_members}
use Rattle.sets.proofs.Members.{Taken, given}
use Rattle.sets.proofs.Writes.{written}
use Rattle.accounts.specs.Members.{shortfall_at, shortfalls_of}
use Rattle.accounts.proofs.members.shortfalls.Goals as goal
use Rattle.accounts.proofs.members.shortfalls.Goals.{After-from-m}

-- the next member, known and taken off
next-taken : (c : After-from-m) → Taken c.loop-m.m-iterator.left c.from-m.result c.next.new.self.left
next-taken c = rw c.from-m.ensures (given _ _ _ c.loop-m.m-iterator.fits c.in-Some.ensures.steps)

pub returns-then-pool-ge4 : goal.returns-then-pool-ge4
unfolding shortfalls_of of_members
returns-then-pool-ge4 c = (
  rw (le-ltb _ _ c.if-pool-ge4.true) (sym (tab-ext 32 _ (λ m. 0) (λ m l. same-choice (member c.args.set m) 0) ∙ tab-same 32 0)),
  λ k. omega (arith, get_or-same {A = ℕ} 32 k 0),
)

pub loop-m-init : goal.loop-m-init
loop-m-init c = let a = c.args in (
  rw (ap (λ s. s.left) c.into_iter-m-iterator.ensures.into_iter_gives ∙ c.members_of-m-items.ensures)
      (written a.set (shortfall_at a.expected a.won a.allocated a.pool)),
  λ k. omega (arith, get_or-same {A = ℕ} 32 k 0),
)

pub bounds-expected-k : goal.bounds-expected-k
bounds-expected-k c = omega (arith, next-taken (goal.at.bounds-expected-k c).After-from-m)

pub bounds-won-k : goal.bounds-won-k
bounds-won-k c = omega (arith, next-taken (goal.at.bounds-won-k c).After-from-m)

pub bounds-allocated-k : goal.bounds-allocated-k
bounds-allocated-k c = omega (arith, next-taken (goal.at.bounds-allocated-k c).After-from-m)

pub bounds-out-m : goal.bounds-out-m
bounds-out-m c = (next-taken (goal.at.bounds-out-m c).After-from-m).below

pub loop-m-preserved : goal.loop-m-preserved
unfolding shortfall_at
loop-m-preserved c = (
  rw (c.shortfall.ensures.0, c.from.ensures) (rw (next-taken (goal.at.loop-m-preserved c).After-from-m).cons at c.loop-m.invariant.0),
  λ i. set_cases (λ (x : ℕ). x ≤ most16) c.loop-m.out _ c.shortfall.result 0 i (λ e. c.shortfall.ensures.1) (c.loop-m.invariant.1 i),
)

pub returns : goal.returns
unfolding shortfalls_of
returns c = (rw (lt-ltb _ _ c.if-pool-ge4.false) (rw c.in-None.ensures.steps.0 at c.loop-m.invariant.0), c.loop-m.invariant.1)
