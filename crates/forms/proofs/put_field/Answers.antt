-- `forms::put_field` meets its contract. Assumes nothing.
use Rattle.std.proofs.Common.{arith, length-take, length-drop}
use Rattle.forms.proofs.Puts.{put_as}
use Rattle.forms.proofs.Values.{field-is}
use Rattle.forms.proofs.put_field.Goals as goal

pub returns : goal.returns
returns c =
    let a = c.args in
    let e = field-is a.kind a.n _ _ _ c.raw.ensures c.to_be_bytes-bytes.ensures c.width.ensures.0 in
    put_as 4 (simp (length-take, length-drop) (omega arith)) e c.put.ensures
