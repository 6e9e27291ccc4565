-- `units::Units::miss` meets its contract. The invariant: the pools passed are done. Assumes nothing.
use mathlib.Core.Path.{◌≡◌}
use Rattle.units.specs.Steps.{missed_to}
use Rattle.units.proofs.Units.miss.Given as goal

abbrev pub invariant-loop-pool : goal.invariant-loop-pool
invariant-loop-pool l = l.out ≡ missed_to l.m l.price l.pool l.initial.out
