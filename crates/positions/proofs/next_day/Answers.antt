-- `positions::next_day` meets its contract. Assumes nothing.
use Rattle.positions.proofs.Reached.{takes-row}
use Rattle.positions.proofs.next_day.Goals as goal

pub returns : goal.returns
returns c =
    takes-row c.args.n c.requires.0 _ c.args.row _ c.args.ring.now c.args.sums.now _ _ c.row_of-k.ensures.0 c.take_day.ensures.ring_after c.take_day.ensures.sums_after
