-- `forms::put_form` meets its contract. Assumes nothing.
use Rattle.std.proofs.Common.{◌≡◌, ◌+◌, ◌-◌, length, refl, arith}
use Rattle.forms.proofs.Puts.{put-before, put_byte, put-one, put_as}
use Rattle.forms.specs.Encode.{value_from}
use Rattle.forms.proofs.put_form.Goals as goal

pub returns : goal.returns
returns c =
    let a = c.args in
    let f = c.put_fields-end in
    let p = f.ensures in
    let v = value_from a.tag 0 a.numbers.now in
    let n : f.result - (a.at + 3) ≡ length v = omega (arith, p.behind) in
    put_as 35 (omega arith) refl
    (put-before _ _ (omega arith)
    (put-before _ _ (omega arith) (put-before _ _ (omega arith) p (put_byte (length v) n (put-one _ _ _))) (put-one _ _ _))
    (put-one _ _ _))
