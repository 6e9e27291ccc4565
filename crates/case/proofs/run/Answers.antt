use mathlib.Core.Path.{refl, ap, ◌∙◌}
use Prim.Native.Nat.{ℕ, ◌≤◌, ◌<◌}
use native.Mathlib.Omega.{arith}
use lib.ListN.{length}
use Rattle.lists.proofs.Each.{each_of}
use Rattle.case.proofs.Running.{starts, goes-lent, taken-rest, taken-within, counts_all, answers-all, holds-all, none-behind, none-taken, none_written}
use Rattle.case.proofs.Claim.{runs}
use borrow.Author.Rules.{rules}
use Rattle.case.proofs.run.Goals as goal

pub loop-at-init : goal.loop-at-init
loop-at-init c = (starts _ _ _ refl, refl)

pub slice_bounds-take_fields-count : goal.slice_bounds-take_fields-count
slice_bounds-take_fields-count c = let w = c.loop-at.invariant.0.place in search (rules, w)

pub slice_bounds-take_fields-start : goal.slice_bounds-take_fields-start
slice_bounds-take_fields-start c = let w = c.loop-at.invariant.0.place in search (rules, w)

pub slice_bounds-take_fields-end-in-loop-at : goal.slice_bounds-take_fields-end-in-loop-at
slice_bounds-take_fields-end-in-loop-at c = let w = c.loop-at.invariant.1 in search (rules, w)

pub slice_bounds-take_fields-count-in-loop-at : goal.slice_bounds-take_fields-count-in-loop-at
slice_bounds-take_fields-count-in-loop-at c = let g = c.loop-at.invariant.0 in omega (arith, g.room, g.size)

pub slice_bounds-take_fields-start-in-loop-at : goal.slice_bounds-take_fields-start-in-loop-at
slice_bounds-take_fields-start-in-loop-at c = let g = c.loop-at.invariant.0 in let w : c.loop-at.count ≤ length c.loop-at.answers = omega (arith, g.room, g.size) in search (rules, w)

pub overflow_add-at : goal.overflow_add-at
overflow_add-at c = let l = c.loop-at in omega (arith, (taken-within _ _ _ _ _ _ l.invariant.0 _ _ _ _ (taken-rest _ _ _ _ _ _ l.invariant.0 _ _ _ _ c.take_fields-front.ensures)).0, c.well_formed.0.0)

pub overflow_add-count : goal.overflow_add-count
overflow_add-count c = let l = c.loop-at in omega (arith, (taken-within _ _ _ _ _ _ l.invariant.0 _ _ _ _ (taken-rest _ _ _ _ _ _ l.invariant.0 _ _ _ _ c.take_fields-front.ensures)).1, c.well_formed.1.0.0)

pub loop-at-smaller : goal.loop-at-smaller
loop-at-smaller c = let l = c.loop-at in omega (arith, taken-within _ _ _ _ _ _ l.invariant.0 _ _ _ _ (taken-rest _ _ _ _ _ _ l.invariant.0 _ _ _ _ c.take_fields-front.ensures), c.if-front-eq0.false)

pub loop-at-preserved : goal.loop-at-preserved
loop-at-preserved c = let l = c.loop-at in (goes-lent _ _ _ _ _ _ l.invariant.0 _ _ _ _ c.take_fields-front.ensures, c.take_fields-front.auto.ends ∙ l.invariant.1)

pub shape_of-answers-after-loop-at : goal.shape_of-answers-after-loop-at
shape_of-answers-after-loop-at c = c.loop-at.invariant.0.size

pub returns-after-loop-at : goal.returns-after-loop-at
returns-after-loop-at c =
    let a = c.args in
    let l = c.loop-at in
    let stop = none-behind a.input.now a.answers.now l.at l.count c.loop-at-test.false in
    runs _ _ _ _ (each_of (λ (b : ℕ). b < 256) a.input.now 0 (λ i h. omega (arith, c.type_inv.input i)))
    (counts_all _ _ _ _ _ _ l.invariant.0 stop) (answers-all _ _ _ _ _ _ l.invariant.0 stop) (holds-all _ _ _ _ _ _ l.invariant.0 stop)

pub shape_of-answers-then-front-eq0 : goal.shape_of-answers-then-front-eq0
shape_of-answers-then-front-eq0 c =
    let l = c.loop-at in
    let taken = taken-rest _ _ _ _ _ _ l.invariant.0 _ _ _ _ c.take_fields-front.ensures in
    ap length (none_written _ _ _ _ _ _ l.invariant.0 _ _ _ _ taken c.if-front-eq0.true) ∙ l.invariant.0.size

pub returns-then-front-eq0 : goal.returns-then-front-eq0
returns-then-front-eq0 c =
    let a = c.args in
    let l = c.loop-at in
    let taken = taken-rest _ _ _ _ _ _ l.invariant.0 _ _ _ _ c.take_fields-front.ensures in
    let stop = none-taken _ _ _ _ _ _ l.invariant.0 _ _ _ _ taken (omega (arith, l.invariant.1)) c.if-front-eq0.true in
    rw (none_written _ _ _ _ _ _ l.invariant.0 _ _ _ _ taken c.if-front-eq0.true)
    (runs _ _ _ _ (each_of (λ (b : ℕ). b < 256) a.input.now 0 (λ i h. omega (arith, c.type_inv.input i)))
    (counts_all _ _ _ _ _ _ l.invariant.0 stop) (answers-all _ _ _ _ _ _ l.invariant.0 stop) (holds-all _ _ _ _ _ _ l.invariant.0 stop))
