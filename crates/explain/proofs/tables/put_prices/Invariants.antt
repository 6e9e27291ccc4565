-- `explain::tables::put_prices` is safe and ends. Assumes nothing.
use Rattle.std.proofs.Common.{◌-◌, ◌≤◌}
use Rattle.explain.proofs.tables.put_prices.Given as goal

abbrev pub invariant-loop-price : goal.invariant-loop-price
invariant-loop-price l = l.first ≤ 2000001

abbrev pub decreases-loop-price : goal.decreases-loop-price
decreases-loop-price l = 2000001 - l.first
