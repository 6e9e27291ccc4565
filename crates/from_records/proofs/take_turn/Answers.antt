-- `from_records::take_turn` meets its contract. Assumes nothing.
use Rattle.std.proofs.Common.{refl}
use Rattle.from_records.proofs.Turning.{turns}
use Rattle.from_records.proofs.take_turn.Goals as goal

pub returns : goal.returns
returns c =
    let a = c.args in
    turns _ _ _ a.buf.now _ _ a.end _ _ _ _ _ c.requires refl c.take_days-part.ensures c.slide.ensures
