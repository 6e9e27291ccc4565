use Rattle.std.proofs.Common.{◌+◌, refl, ◌∙◌, arith, rules}
use Rattle.to_fields.proofs.Sizes.{taking-starts, next-first, next-lent, lines-few, lines-within, lines-behind, lines-go, lines_end}
use Rattle.to_fields.proofs.take_some.Goals as goal

pub loop-line-init : goal.loop-line-init
loop-line-init c =
    (taking-starts _ _ _, next-first _ c.args.input.now c.args.out.now _ c.next_line-line.ensures, refl)

pub overflow_add-used : goal.overflow_add-used
overflow_add-used c =
    let l = c.loop-line in let w = lines-within _ _ _ _ _ _ _ l.line l.invariant.0 l.invariant.1 c.loop-line-test.true in search (rules, w)

pub overflow_add-count : goal.overflow_add-count
overflow_add-count c =
    let l = c.loop-line in let w = lines-few _ _ _ _ _ _ _ l.line l.invariant.0 l.invariant.1 in search (rules, w)

pub slice_bounds-next_line-count : goal.slice_bounds-next_line-count
slice_bounds-next_line-count c =
    let l = c.loop-line in lines-within _ _ _ _ _ _ _ l.line l.invariant.0 l.invariant.1 c.loop-line-test.true

pub slice_bounds-next_line-start : goal.slice_bounds-next_line-start
slice_bounds-next_line-start c =
    let l = c.loop-line in let w = lines-within _ _ _ _ _ _ _ l.line l.invariant.0 l.invariant.1 c.loop-line-test.true in search (rules, w)

pub overflow_sub-out : goal.overflow_sub-out
overflow_sub-out c =
    let l = c.loop-line in lines-behind _ _ _ _ _ _ _ l.line l.invariant.0 l.invariant.1 c.loop-line-test.true _ _ c.write_call-to.ensures

pub loop-line-smaller : goal.loop-line-smaller
loop-line-smaller c =
    let l = c.loop-line in
    let t = c.loop-line-test.true in
    omega (arith, lines-within _ _ _ _ _ _ _ l.line l.invariant.0 l.invariant.1 t, t)

pub loop-line-preserved : goal.loop-line-preserved
loop-line-preserved c =
    let l = c.loop-line in
    let w = c.write_call-to in (
      lines-go _ _ _ _ _ _ _ l.line l.invariant.0 l.invariant.1 c.loop-line-test.true _ _ w.ensures,
      next-lent _ _ _ (l.used + l.line.size) _ c.next_line-line-in-loop-line.ensures,
      w.auto.out ∙ l.invariant.2,
    )

pub returns : goal.returns
returns c =
    lines_end _ _ _ _ _ _ _ c.loop-line.line c.loop-line.invariant.0 c.loop-line.invariant.1 c.loop-line-test.false
