-- `to_text::put_byte` meets its contract. Assumes nothing.
use Rattle.forms.proofs.Puts.{put_then}
use Rattle.to_text.proofs.put_byte.Goals as goal

pub returns : goal.returns
returns c =
    put_then _ _ c.put_break-to.ensures c.put_hex.ensures
