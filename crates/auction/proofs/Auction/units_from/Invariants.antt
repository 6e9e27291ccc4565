-- `auction::Auction::units_from` meets its contract. The invariant: the units counted so far, at most 1000 for each place. Assumes nothing.
use mathlib.Core.Path.{◌≡◌}
use Prim.Native.Nat.{◌*◌, ◌≤◌}
use Rattle.lists.specs.Lists.{sum_to}
use Rattle.auction.specs.Edge.{counted_at}
use Rattle.auction.proofs.Auction.units_from.Given as goal

abbrev pub invariant-loop-i : goal.invariant-loop-i
invariant-loop-i l = (l.sum ≡ sum_to l.i (counted_at l.self.units.now l.self.prices.now l.t)) × (l.sum ≤ 1000 * l.i)
