-- The invariant and its laws are those of a sum over members (`Rattle.sets.proofs.Adding`), and no sum passes 32 times the limit of a holding.
use mathlib.Core.Path.{◌≡◌, sym, ap, ◌∙◌}
use mathlib.Core.List.{List}
use Prim.Native.Nat.{ℕ, ◌≤◌}
use native.Mathlib.Omega.{arith}
use lib.Dec.{leb}
use Rattle.lists.specs.Lists.{when◌then◌else◌}
use Rattle.lists.proofs.Bools.{either}
use Rattle.sets.proofs.Members.{Taken, given, given-none}
use Rattle.sets.proofs.Adding.{turn, at_most, end, sum-members-le}
use Rattle.splitting.specs.Limits.{weight_limit}
use Rattle.waterfall.specs.Limits.{rank_at, held_at}
use Rattle.waterfall.proofs.ByRank.{held-adds}
use Rattle.waterfall.proofs.Holdings.held_from.Invariants.{adds}
use Rattle.waterfall.proofs.Holdings.held_from.Goals as goal
use Rattle.waterfall.proofs.Holdings.held_from.Goals.{After-from-m, After-holding_if-total}

adds-le : (ranks holds : List ℕ) (r m : ℕ) → adds ranks holds r m ≤ weight_limit
adds-le ranks holds r m = either (λ x. x ≤ weight_limit) (leb r (rank_at ranks m)) {x = held_at holds m} {y = 0} (omega arith) (omega arith)

-- the next member, known and taken off
next-taken : (c : After-from-m) → Taken c.loop-m.m-iterator.left c.from-m.result c.next.new.self.left
next-taken c = rw c.from-m.ensures (given _ _ _ c.loop-m.invariant.left-fits c.in-Some.ensures.steps)

-- what it adds
added : (c : After-holding_if-total) → c.holding_if-total.result ≡ adds c.args.self.now.ranks c.args.self.now.holds c.args.r c.from-m.result
added c = c.holding_if-total.ensures ∙ ap (λ x. when leb c.args.r x then held_at c.args.self.now.holds c.from-m.result else 0) c.from.ensures

pub bounds-self-m : goal.bounds-self-m
bounds-self-m c = (next-taken (goal.at.bounds-self-m c).After-from-m).below

pub bounds-self-m-in-loop-m : goal.bounds-self-m-in-loop-m
bounds-self-m-in-loop-m c = (next-taken (goal.at.bounds-self-m-in-loop-m c).After-from-m).below

pub overflow_add-total : goal.overflow_add-total
overflow_add-total c =
    omega (
      arith,
      added c,
      at_most _ _ _ _ _ _ c.loop-m.invariant (next-taken (goal.at.overflow_add-total c).After-from-m),
      sum-members-le c.args.self.now.set (adds c.args.self.now.ranks c.args.self.now.holds c.args.r) weight_limit (adds-le c.args.self.now.ranks c.args.self.now.holds c.args.r),
    )

pub loop-m-preserved : goal.loop-m-preserved
loop-m-preserved c = rw (added c) (turn _ _ _ _ _ _ c.loop-m.invariant (next-taken (goal.at.loop-m-preserved c).After-from-m) c.next.new.self.fits)

pub returns : goal.returns
returns c = end _ _ _ _ (given-none _ c.loop-m.invariant.left-fits c.in-None.ensures.steps.0) c.loop-m.invariant ∙ sym (held-adds c.args.self.now.set _ _ _)
