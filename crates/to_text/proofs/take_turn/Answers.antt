-- `to_text::take_turn` meets its contract. Assumes nothing.
use Rattle.std.proofs.Common.{false, refl}
use Rattle.input.specs.Fields.{front_size}
use Rattle.input.proofs.Fronts.{front-most}
use Rattle.translation.proofs.Turning.{turn-keeps}
use Rattle.to_text.proofs.take_turn.Goals as goal

pub returns : goal.returns
returns c =
    turn-keeps (front_size false) (front-most false) c.args.buf.now _ _ c.args.end c.in_ok-used.used c.slide.result false c.requires.0
    refl c.in_ok-used.ensures c.slide.ensures refl
