-- `positions::take_records` meets its contract. The invariant: what is left of the records goes on from what is kept. Assumes nothing.
use Rattle.std.proofs.Common.{◌≡◌, ◌*◌, drop}
use Rattle.positions.specs.Days.{size, days_of}
use Rattle.positions.specs.Keeping.{keeping, taken}
use Rattle.positions.proofs.take_records.Given as goal

abbrev pub invariant-loop-d : goal.invariant-loop-d
invariant-loop-d l =
    taken l.n (keeping l.initial.next l.initial.ring l.initial.sums) 0 (days_of l.n l.bytes)
    ≡ taken l.n (keeping l.next l.ring l.sums) (size l.n * l.d) (drop l.d (days_of l.n l.bytes))
