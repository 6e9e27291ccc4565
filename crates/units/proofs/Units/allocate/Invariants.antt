-- `units::Units::allocate` meets its contract. The invariant: what is done, with the members still left done too, is the whole. Assumes nothing.
use mathlib.Core.Path.{◌≡◌}
use Rattle.sets.specs.Set.{members}
use Rattle.units.specs.Steps.{shared_counts, shared_sums}
use Rattle.units.proofs.Units.allocate.Given as goal

abbrev pub invariant-loop-m : goal.invariant-loop-m
invariant-loop-m l = (shared_counts l.at l.shares (members l.m-iterator.left) l.counts ≡ shared_counts l.at l.shares (members l.set) l.initial.counts) × (shared_sums l.at l.price l.shares (members l.m-iterator.left) l.sums ≡ shared_sums l.at l.price l.shares (members l.set) l.initial.sums)
