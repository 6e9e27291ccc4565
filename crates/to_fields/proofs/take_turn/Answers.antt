-- `to_fields::take_turn` meets its contract. Assumes nothing.
use Rattle.std.proofs.Common.{refl}
use Rattle.to_fields.proofs.Turning.{turns}
use Rattle.to_fields.proofs.take_turn.Goals as goal

pub returns : goal.returns
returns c = turns c.args.lines c.args.buf.now _ _ c.args.end c.slide.result c.in_ok-wrote.wrote c.requires.0 refl c.in_ok-wrote.ensures c.slide.ensures
