-- `to_text::put_hex` meets its contract. Assumes nothing.
use native.Mathlib.Omega.{arith}
use Rattle.forms.proofs.Puts.{put_as, put-placed}
use Rattle.to_text.proofs.Texts.{hex-is}
use Rattle.to_text.proofs.put_hex.Goals as goal

pub returns : goal.returns
returns c =
    put_as 3 (omega arith) (hex-is c.args.b _ _ c.digit.ensures c.digit-2.ensures)
    (put-placed 3 _ (omega arith) (omega (arith, c.requires)) c.put.ensures)
