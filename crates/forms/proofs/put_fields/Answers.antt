use Rattle.std.proofs.Common.{ℕ, ◌+◌, ◌*◌, get_or, ap, arith}
use Rattle.forms.proofs.Puts.{putting-start, putting-turn, putting-end, putting-most, put_as}
use Rattle.forms.specs.Encode.{field_bytes}
use Rattle.forms.proofs.Values.{value-next, value_none}
use Rattle.forms.proofs.put_fields.Goals as goal

pub loop-i-init : goal.loop-i-init
loop-i-init c = putting-start _ _ _

pub put_field-to-requires : goal.put_field-to-requires
put_field-to-requires c =
    let l = c.loop-i.invariant in
    omega (arith, l.put.behind, l.put.short, l.put.same)

pub loop-i-preserved : goal.loop-i-preserved
loop-i-preserved c =
    let l = c.loop-i in
    let a = c.args in
    let q = put_as 4 (omega arith) (ap (λ (k : ℕ). field_bytes k (get_or a.numbers.now l.i 0)) c.kind.ensures) c.put_field-to.ensures in
    let e = value-next a.tag l.i a.numbers.now (omega arith) in
    putting-most ((l.i + 1) * 4) (omega arith) (putting-turn _ _ l.invariant e q)

pub shape_of-out : goal.shape_of-out
shape_of-out c = c.loop-i.invariant.put.same

pub returns : goal.returns
returns c =
    let l = c.loop-i in
    let a = c.args in
    putting-end 32 (omega arith) (value_none a.tag l.i a.numbers.now (omega arith)) l.invariant
