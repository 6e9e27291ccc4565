use mathlib.Core.Path.{refl, ◌∙◌}
use mathlib.Core.Bool.{false}
use native.Mathlib.Omega.{arith}
use Rattle.input.specs.Fields.{front_size}
use Rattle.input.proofs.Fronts.{front-most}
use Rattle.input.proofs.Pieces.{passing-starts}
use Rattle.case.proofs.Taking.{lent, within, goes, none_left, none-behind, finished}
use borrow.Author.Rules.{rules}
use Rattle.asking.proofs.take_part.Goals as goal

pub loop-used-init : goal.loop-used-init
loop-used-init c = (passing-starts (front_size false) (front-most false) _ _ _, refl, refl)

pub slice_bounds-take_fields-count : goal.slice_bounds-take_fields-count
slice_bounds-take_fields-count c = let w = c.loop-used.invariant.0.place in search (rules, w)

pub slice_bounds-take_fields-start : goal.slice_bounds-take_fields-start
slice_bounds-take_fields-start c = let w = c.loop-used.invariant.0.place in search (rules, w)

pub slice_bounds-take_fields-end-in-loop-used : goal.slice_bounds-take_fields-end-in-loop-used
slice_bounds-take_fields-end-in-loop-used c = let w = c.loop-used.invariant.1 in search (rules, w)

pub slice_bounds-take_fields-end-in-loop-used-2 : goal.slice_bounds-take_fields-end-in-loop-used-2
slice_bounds-take_fields-end-in-loop-used-2 c = let w = c.loop-used.invariant.2 in search (rules, w)

pub overflow_add-used : goal.overflow_add-used
overflow_add-used c = let l = c.loop-used in omega (arith, within _ _ _ _ l.invariant.0 _ _ _ _ _ (lent _ c.args.input.now l.used _ _ _ _ _ _ c.take_fields-front.ensures))

pub loop-used-smaller : goal.loop-used-smaller
loop-used-smaller c = let l = c.loop-used in omega (arith, within _ _ _ _ l.invariant.0 _ _ _ _ _ (lent _ c.args.input.now l.used _ _ _ _ _ _ c.take_fields-front.ensures), c.if-front-eq0.false)

pub loop-used-preserved : goal.loop-used-preserved
loop-used-preserved c =
    let l = c.loop-used in
    let t = c.take_fields-front in
    (goes _ _ _ _ l.invariant.0 _ _ _ _ _ (lent _ c.args.input.now l.used _ _ _ _ _ _ t.ensures), t.auto.ends ∙ l.invariant.1, t.auto.answers ∙ l.invariant.2)

pub returns-after-loop-used : goal.returns-after-loop-used
returns-after-loop-used c = finished _ _ _ _ c.loop-used.invariant.0 (none-behind _ _ c.loop-used-test.false)

pub returns-then-front-eq0 : goal.returns-then-front-eq0
returns-then-front-eq0 c =
    let l = c.loop-used in
    finished _ _ _ _ l.invariant.0 (none_left _ _ _ _ l.invariant.0 _ _ _ _ _ (lent _ c.args.input.now l.used _ _ _ _ _ _ c.take_fields-front.ensures) (omega (arith, l.invariant.2)) (omega (arith, l.invariant.1)) c.if-front-eq0.true)
