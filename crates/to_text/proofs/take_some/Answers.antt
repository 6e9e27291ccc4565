use mathlib.Core.Path.{refl, ap, ◌∙◌}
use mathlib.Core.Bool.{false}
use Prim.Native.Nat.{◌+◌}
use native.Mathlib.Omega.{arith}
use Rattle.input.specs.Fields.{front_size}
use Rattle.input.proofs.Fronts.{front-most, rest_all}
use Rattle.translation.proofs.Writing.{writing-starts}
use Rattle.to_text.specs.Texts.{field_text}
use Rattle.to_text.specs.Turns.{size_within}
use Rattle.to_text.proofs.Sizes.{size-first, taking-within, taking-room, taking-behind, taking-goes, taking-few, taking-ends}
use borrow.Author.Rules.{rules}
use Rattle.to_text.proofs.take_some.Goals as goal

pub loop-size-init : goal.loop-size-init
loop-size-init c = (writing-starts (front_size false) (front-most false) field_text _ _, size-first _ c.args.input.now c.args.out.now c.next_size-size.ensures, refl)

pub overflow_add-end : goal.overflow_add-end
overflow_add-end c =
    let l = c.loop-size in let w = taking-within _ _ _ _ _ _ _ l.invariant.0 l.invariant.1 c.loop-size-test.true in search (rules, w)

pub slice_bounds-put_field-end : goal.slice_bounds-put_field-end
slice_bounds-put_field-end c = let l = c.loop-size in taking-within _ _ _ _ _ _ _ l.invariant.0 l.invariant.1 c.loop-size-test.true

pub put_field-to-requires : goal.put_field-to-requires
put_field-to-requires c =
    let l = c.loop-size in taking-room _ _ _ _ _ _ _ l.invariant.0 l.invariant.1 c.loop-size-test.true

pub overflow_add-count : goal.overflow_add-count
overflow_add-count c =
    let l = c.loop-size in let w = taking-few _ _ _ _ _ _ _ l.invariant.0 l.invariant.1 in search (rules, w)

pub slice_bounds-next_size-count : goal.slice_bounds-next_size-count
slice_bounds-next_size-count c =
    let l = c.loop-size in taking-within _ _ _ _ _ _ _ l.invariant.0 l.invariant.1 c.loop-size-test.true

pub slice_bounds-next_size-start : goal.slice_bounds-next_size-start
slice_bounds-next_size-start c =
    let l = c.loop-size in let w = taking-within _ _ _ _ _ _ _ l.invariant.0 l.invariant.1 c.loop-size-test.true in search (rules, w)

pub overflow_sub-out : goal.overflow_sub-out
overflow_sub-out c =
    let l = c.loop-size in taking-behind _ _ _ _ _ _ _ l.invariant.0 l.invariant.1 c.loop-size-test.true _ _ _ c.put_field-to.ensures

pub loop-size-smaller : goal.loop-size-smaller
loop-size-smaller c =
    let l = c.loop-size in
    let t = c.loop-size-test.true in
    omega (arith, taking-within _ _ _ _ _ _ _ l.invariant.0 l.invariant.1 t, t)

pub loop-size-preserved : goal.loop-size-preserved
loop-size-preserved c =
    let l = c.loop-size in
    let p = c.put_field-to in (
      taking-goes _ _ _ _ _ _ _ l.invariant.0 l.invariant.1 c.loop-size-test.true _ _ p.ensures,
      c.next_size-size-in-loop-size.ensures ∙ ap (size_within _) (rest_all _ (l.used + l.size)),
      p.auto.out ∙ l.invariant.2,
    )

pub returns : goal.returns
returns c = taking-ends _ _ _ _ _ _ _ c.loop-size.invariant.0 c.loop-size.invariant.1 c.loop-size-test.false
