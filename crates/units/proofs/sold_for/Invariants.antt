-- `units::sold_for` meets its contract. The invariant: the sum is that of the bids passed. Assumes nothing.
use mathlib.Core.Path.{◌≡◌}
use mathlib.Core.Bool.{◌&&◌}
use Prim.Native.Nat.{◌+◌, ◌*◌, ◌≤◌}
use lib.ListN.{get_or}
use lib.Dec.{eqb}
use Rattle.lists.specs.Lists.{when◌then◌else◌, sum_to}
use Rattle.lists.specs.Adding.{most16}
use Rattle.units.proofs.sold_for.Given as goal

abbrev pub invariant-loop-b : goal.invariant-loop-b
invariant-loop-b l = (l.sum ≡ sum_to l.b (λ k. when eqb (get_or l.members k 0) l.m && eqb (get_or l.pools k 0) l.pool && eqb (get_or l.prices k 0) l.price then get_or l.counts (132 + k) 0 else 0)) × (l.sum ≤ l.b * most16)
