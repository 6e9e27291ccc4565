-- `explain::take_turn` meets its contract. Assumes nothing.
use Rattle.feed.proofs.Turning.{lent}
use Rattle.case_feed.proofs.Turning.{turns}
use Rattle.explain.proofs.take_turn.Goals as goal

pub returns : goal.returns
returns c =
    let t = c.take_part-taken in
    let a = c.args in
    turns a.held a.buf.now _ _ a.end t.result.held t.result.used c.slide.result c.requires (lent a.end a.buf.now)
    t.ensures c.slide.ensures
