-- `positions::take_days` meets its contract. Assumes nothing.
use Rattle.positions.proofs.Parts.{part_none, part-some}
use Rattle.positions.proofs.take_days.Goals as goal

pub returns-then-n-eq0 : goal.returns-then-n-eq0
returns-then-n-eq0 c = rw c.number.ensures (part_none _ _ _ _ c.count_of-n.ensures.0 c.if-n-eq0.true)

pub returns : goal.returns
returns c = rw c.answer.ensures (part-some _ _ _ _ c.count_of-n.ensures.0 c.if-n-eq0.false _ c.take_records-run.ensures)
