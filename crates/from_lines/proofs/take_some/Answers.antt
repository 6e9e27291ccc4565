-- `from_lines::take_some` meets its contract. Assumes nothing.
use Rattle.from_lines.proofs.Turning.{same_count}
use Rattle.from_lines.proofs.take_some.Goals as goal

pub returns : goal.returns
returns c = same_count _ _ _ _ _ _ c.take_lines.result c.count_of-n.ensures.0 c.take_lines.ensures
