-- `from_lines::take_turn` meets its contract. Assumes nothing.
use Rattle.std.proofs.Common.{refl}
use Rattle.from_lines.proofs.Turning.{turns}
use Rattle.from_lines.proofs.take_turn.Goals as goal

pub returns : goal.returns
returns c =
    let w = c.take_all-took in
    turns _ c.args.lines c.args.buf.now _ _ _ _ c.args.end c.slide.result w.result c.requires.0 refl w.ensures c.slide.ensures
