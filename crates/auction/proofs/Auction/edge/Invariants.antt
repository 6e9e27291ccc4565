-- `auction::Auction::edge` meets its contract. The invariant: the units from `high` are at most n, and those from any price below `low` are more. Assumes nothing.
use Prim.Native.Nat.{ℕ, ◌-◌, ◌≤◌, ◌<◌}
use Rattle.auction.specs.Edge.{from}
use Rattle.auction.proofs.Auction.edge.Given as goal

abbrev pub invariant-loop-low : goal.invariant-loop-low
invariant-loop-low l =
    (l.self.reserve ≤ l.low)
    × (l.low ≤ l.high)
    × (l.high ≤ 2000001)
    × (from l.self.units.now l.self.prices.now l.high ≤ l.self.open_units)
    × ((p : ℕ) → l.self.reserve ≤ p → p < l.low → l.self.open_units < from l.self.units.now l.self.prices.now p)

abbrev pub decreases-loop-low : goal.decreases-loop-low
decreases-loop-low l = l.high - l.low
