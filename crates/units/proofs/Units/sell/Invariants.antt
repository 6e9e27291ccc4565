-- `units::Units::sell` meets its contract. The invariant: the bids passed have their units. Assumes nothing.
use mathlib.Core.Path.{◌≡◌}
use Rattle.units.specs.Steps.{sold_counts, sold_sums}
use Rattle.units.proofs.Units.sell.Given as goal

abbrev pub invariant-loop-b : goal.invariant-loop-b
invariant-loop-b l = (l.counts ≡ sold_counts l.round l.rounds l.pools l.won l.b l.initial.counts) × (l.sums ≡ sold_sums l.round l.rounds l.pools l.won l.prices l.b l.initial.sums)
