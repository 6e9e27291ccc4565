-- `positions::take_day` meets its contract. The invariant: the positions passed stand in their row, and their sums have rolled. Assumes nothing.
use Rattle.std.proofs.Common.{◌≡◌, ◌+◌, ◌*◌}
use lib.Seq.{sets}
use Rattle.lists.specs.Lists.{tab}
use Rattle.machine.specs.Wire.{number}
use Rattle.positions.specs.Days.{day_at}
use Rattle.positions.specs.Keeping.{rolled_at}
use Rattle.positions.proofs.take_day.Given as goal

abbrev pub invariant-loop-m : goal.invariant-loop-m
invariant-loop-m l =
    (l.ring ≡ sets l.initial.ring (32 * l.row) (tab l.m (λ j. number (l.at + 4 * j) 4 l.bytes)))
    × (l.sums ≡ sets l.initial.sums 0 (tab l.m (rolled_at l.initial.sums l.initial.ring l.row (day_at l.n l.bytes l.at))))
