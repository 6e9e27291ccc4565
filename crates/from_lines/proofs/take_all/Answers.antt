use Rattle.std.proofs.Common.{refl, arith, rules}
use Rattle.input.proofs.Fronts.{rest_all}
use Rattle.from_lines.proofs.Turning.{passed_none, passed-within, passed-some, passed-goes, passed-all}
use Rattle.from_lines.proofs.take_all.Goals as goal

pub loop-part-init : goal.loop-part-init
loop-part-init c = passed_none _ _ _ _

pub slice_bounds-take_some-count : goal.slice_bounds-take_some-count
slice_bounds-take_some-count c = c.loop-part.invariant.passes.place

pub slice_bounds-take_some-start : goal.slice_bounds-take_some-start
slice_bounds-take_some-start c = let w = c.loop-part.invariant.passes.place in search (rules, w)

pub slice_bounds-line_size-count : goal.slice_bounds-line_size-count
slice_bounds-line_size-count c = c.loop-part.invariant.passes.place

pub slice_bounds-line_size-start : goal.slice_bounds-line_size-start
slice_bounds-line_size-start c = let w = c.loop-part.invariant.passes.place in search (rules, w)

pub returns-then-count-eq0 : goal.returns-then-count-eq0
returns-then-count-eq0 c =
    let l = c.loop-part in
    let t = c.take_some-part in
    passed-all _ _ _ _ _ _ _ _ _ _ t.result l.invariant (rest_all _ l.used) t.ensures (omega (arith, c.requires, l.auto.out)) c.if-count-eq0.true _ c.line_size-next.ensures

pub overflow_add-used : goal.overflow_add-used
overflow_add-used c =
    let l = c.loop-part in
    let t = c.take_some-part in
    let w = passed-within _ _ _ _ _ _ _ _ _ _ t.result l.invariant (rest_all _ l.used) t.ensures in search (rules, w)

pub slice_bounds-take_days-end : goal.slice_bounds-take_days-end
slice_bounds-take_days-end c = let p = c.take_some-part.ensures.put in omega (arith, p.behind, p.short, p.same)

pub loop-part-smaller : goal.loop-part-smaller
loop-part-smaller c =
    let l = c.loop-part in
    let t = c.take_some-part in
    omega (arith, passed-within _ _ _ _ _ _ _ _ _ _ t.result l.invariant (rest_all _ l.used) t.ensures, passed-some _ _ _ _ _ _ _ _ _ _ t.result l.invariant (rest_all _ l.used) t.ensures, c.if-count-eq0.false)

pub loop-part-preserved : goal.loop-part-preserved
loop-part-preserved c =
    let l = c.loop-part in
    let t = c.take_some-part in
    passed-goes _ _ _ _ _ _ _ _ _ _ t.result l.invariant (rest_all _ l.used) t.ensures _ _ _ refl refl c.take_days.ensures
