-- `stream::take_turn` meets its contract. Assumes nothing.
use Rattle.std.proofs.Common.{refl}
use Rattle.stream.proofs.Turning.{turns}
use Rattle.stream.proofs.take_turn.Goals as goal

pub returns : goal.returns
returns c =
    let a = c.args in
    let pre = c.requires in
    turns a.held a.buf.now _ a.out.now _ _ a.end c.take_part-taken.result c.slide.result pre.0 pre.1 refl c.take_part-taken.ensures c.slide.ensures
