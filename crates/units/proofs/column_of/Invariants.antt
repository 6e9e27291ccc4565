-- `units::column_of` meets its contract. The invariant: the sum is that of the counts passed. Assumes nothing.
use mathlib.Core.Path.{◌≡◌}
use Prim.Native.Nat.{◌+◌, ◌*◌, ◌≤◌}
use lib.ListN.{get_or}
use Rattle.lists.specs.Lists.{sum_to}
use Rattle.lists.specs.Adding.{most16}
use Rattle.units.proofs.column_of.Given as goal

abbrev pub invariant-loop-r : goal.invariant-loop-r
invariant-loop-r l = (l.sum ≡ sum_to l.r (λ k. get_or l.counts (l.first + 4 * k) 0)) × (l.sum ≤ l.r * most16)
