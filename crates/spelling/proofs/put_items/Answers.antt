use mathlib.Core.Path.{refl, ◌∙◌}
use Prim.Native.Nat.{◌+◌, ◌*◌}
use native.Mathlib.Omega.{arith}
use Rattle.forms.proofs.Puts.{putting-start, putting-turn, putting-last, putting-most, put_as}
use Rattle.spelling.proofs.Texts.{items-next, items-none}
use Rattle.spelling.proofs.put_items.Goals as goal

pub loop-i-init : goal.loop-i-init
loop-i-init c = putting-start _ _ _

pub put_item-to-requires : goal.put_item-to-requires
put_item-to-requires c =
    let p = c.loop-i.invariant.put in
    (c.requires.0, omega arith, omega (arith, p.behind, p.short, p.same))

pub loop-i-preserved : goal.loop-i-preserved
loop-i-preserved c =
    let l = c.loop-i in
    let e = items-next c.args.tag l.i c.args.numbers.now (omega arith) in
    putting-most ((l.i + 1) * 708) (omega arith) (putting-turn _ _ l.invariant e c.put_item-to.ensures)

pub put-requires : goal.put-requires
put-requires c =
    let p = c.loop-i.invariant.put in
    omega (arith, p.behind, p.short, p.same)

pub shape_of-out : goal.shape_of-out
shape_of-out c = c.put.ensures.same ∙ c.loop-i.invariant.put.same

pub returns : goal.returns
returns c =
    let l = c.loop-i in
    let e = items-none c.args.tag l.i c.args.numbers.now (omega arith) in
    put_as 5665 (omega arith) refl (putting-last l.invariant (put_as 1 (omega arith) e c.put.ensures))
