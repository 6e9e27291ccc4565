-- `units::Units::move_to` meets its contract. The invariant: what is left to do leads to the same. Assumes nothing.
use mathlib.Core.Path.{◌≡◌}
use Prim.Native.Nat.{◌-◌}
use lib.ListN.{length}
use Rattle.units.specs.Groups.{pass_groups}
use Rattle.units.proofs.Units.move_to.Given as goal

abbrev pub invariant-loop : goal.invariant-loop
invariant-loop l = (length l.keys ≡ 384) × (pass_groups l.pools l.member (384 - l.counter) l.left l.keys l.counts l.sums ≡ pass_groups l.pools l.member 384 l.owed l.initial.keys l.initial.counts l.initial.sums)
