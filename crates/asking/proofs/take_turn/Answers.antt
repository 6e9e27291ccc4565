-- `asking::take_turn` meets its contract. Assumes nothing.
use Rattle.std.proofs.Common.{refl}
use Rattle.case_feed.proofs.Turning.{turns}
use Rattle.asking.proofs.take_turn.Goals as goal

pub returns : goal.returns
returns c =
    let t = c.take_part-taken in
    let a = c.args in
    turns a.held a.buf.now _ _ a.end t.result.held t.result.used c.slide.result c.requires refl
    t.ensures c.slide.ensures
