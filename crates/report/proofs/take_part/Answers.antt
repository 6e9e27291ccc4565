use mathlib.Core.Path.{refl, sym, ◌∙◌}
use Prim.Native.Nat.{ℕ, ◌≤◌, ◌<◌}
use mathlib.Core.List.{List}
use mir.Syntax.{w8}
use mir.Val.{Fits}
use lib.ListN.{length, get_or}
use Rattle.std.proofs.lemmas.List.{length-take-le}
use native.Mathlib.Omega.{arith}
use Rattle.lists.proofs.Each.{each_of}
use Rattle.lists.specs.Lists.{Bytes}
use Rattle.case.proofs.Taking.{lent}
use Rattle.report.proofs.Taking.{starts, goes, used-within, counted, lines_front, none_left, takes_none, takes, none-behind}
use borrow.Author.Rules.{rules}
use Rattle.report.proofs.take_part.Goals as goal
use Rattle.report.proofs.take_part.Goals.{After-take_fields-front}

-- what is read are bytes
bytes : (s : List ℕ) → ((i : ℕ) → Fits w8 (get_or s i 0)) → Bytes s
bytes s fits = each_of (λ (b : ℕ). b < 256) s 0 (λ i h. omega (arith, fits i))

-- there was room for all fields taken
in_room : (c : After-take_fields-front) → (c.take_fields-front.result.count ≤ length c.take_fields-front.new.ends) × (c.take_fields-front.result.count ≤ length c.take_fields-front.new.answers)
in_room c =
    let l = c.loop-used in
    let few = counted _ _ _ _ _ _ _ _ (lent _ c.args.input.now l.used _ _ _ _ _ _ c.take_fields-front.ensures) in
    (omega (arith, few, c.take_fields-front.auto.ends), omega (arith, few, c.take_fields-front.auto.answers))

pub returns-then-out-input : goal.returns-then-out-input
returns-then-out-input c = takes_none _ _ _ c.if-out-input.true

pub loop-used-init : goal.loop-used-init
loop-used-init c = (starts _ _ _ (omega (arith, c.if-out-input.false)), refl, refl)

pub slice_bounds-rest-count : goal.slice_bounds-rest-count
slice_bounds-rest-count c = let w = c.loop-used.invariant.0.passed.place in search (rules, w)

pub slice_bounds-rest-start : goal.slice_bounds-rest-start
slice_bounds-rest-start c = let w = c.loop-used.invariant.0.passed.place in search (rules, w)

pub slice_bounds-take_fields-end : goal.slice_bounds-take_fields-end
slice_bounds-take_fields-end c = let w = c.loop-used.invariant.1 in search (rules, w)

pub slice_bounds-take_fields-end-in-loop-used : goal.slice_bounds-take_fields-end-in-loop-used
slice_bounds-take_fields-end-in-loop-used c = let w = c.loop-used.invariant.2 in search (rules, w)

pub slice_bounds-ends-end : goal.slice_bounds-ends-end
slice_bounds-ends-end c = let w = (in_room (goal.at.slice_bounds-ends-end c).After-take_fields-front).0 in search (rules, w)

pub slice_bounds-answers-end : goal.slice_bounds-answers-end
slice_bounds-answers-end c = let w = (in_room (goal.at.slice_bounds-answers-end c).After-take_fields-front).1 in search (rules, w)

pub slice_bounds-write_answers-end : goal.slice_bounds-write_answers-end
slice_bounds-write_answers-end c = sym (length-take-le _ _ (in_room (goal.at.slice_bounds-write_answers-end c).After-take_fields-front).0)

pub slice_bounds-write_answers-end-in-loop-used : goal.slice_bounds-write_answers-end-in-loop-used
slice_bounds-write_answers-end-in-loop-used c = sym (length-take-le _ _ (in_room (goal.at.slice_bounds-write_answers-end-in-loop-used c).After-take_fields-front).1)

pub write_answers-written-requires : goal.write_answers-written-requires
write_answers-written-requires c =
    let w = in_room (goal.at.write_answers-written-requires c).After-take_fields-front in
    let n = c.take_fields-front.result.count in
    length-take-le n c.take_fields-front.new.ends w.0 ∙ sym (length-take-le n c.take_fields-front.new.answers w.1)

pub overflow_add-used : goal.overflow_add-used
overflow_add-used c = let l = c.loop-used in omega (arith, (used-within _ _ _ _ _ _ _ l.invariant.0 (bytes _ c.type_inv.input) _ _ _ _ _ (lent _ c.args.input.now l.used _ _ _ _ _ _ c.take_fields-front.ensures)).0, c.well_formed.1.0.0)

pub loop-used-smaller : goal.loop-used-smaller
loop-used-smaller c = let l = c.loop-used in omega (arith, used-within _ _ _ _ _ _ _ l.invariant.0 (bytes _ c.type_inv.input) _ _ _ _ _ (lent _ c.args.input.now l.used _ _ _ _ _ _ c.take_fields-front.ensures), c.if-n-eq0.false)

pub loop-used-preserved : goal.loop-used-preserved
loop-used-preserved c =
    let l = c.loop-used in (
      goes _ _ _ _ _ _ _ l.invariant.0 (bytes _ c.type_inv.input) _ _ _ _ _ (lent _ c.args.input.now l.used _ _ _ _ _ _ c.take_fields-front.ensures) _ _
          (rw (lines_front _ _ _ _ (in_room (goal.at.loop-used-preserved c).After-take_fields-front).0) at c.write_answers-written.ensures),
      c.take_fields-front.auto.ends ∙ l.invariant.1,
      c.take_fields-front.auto.answers ∙ l.invariant.2,
    )

pub shape_of-out-after-loop-used : goal.shape_of-out-after-loop-used
shape_of-out-after-loop-used c = c.loop-used.invariant.0.size

pub returns-after-loop-used : goal.returns-after-loop-used
returns-after-loop-used c = takes _ _ _ _ _ _ _ c.loop-used.invariant.0 (none-behind _ _ c.loop-used-test.false)

pub shape_of-out-then-n-eq0 : goal.shape_of-out-then-n-eq0
shape_of-out-then-n-eq0 c = c.loop-used.invariant.0.size

pub returns-then-n-eq0 : goal.returns-then-n-eq0
returns-then-n-eq0 c =
    let l = c.loop-used in
    takes _ _ _ _ _ _ _ l.invariant.0 (none_left _ _ _ _ _ _ _ l.invariant.0 (bytes _ c.type_inv.input) _ _ _ _ _ (lent _ c.args.input.now l.used _ _ _ _ _ _ c.take_fields-front.ensures) (omega (arith, l.invariant.2)) (omega (arith, l.invariant.1)) c.if-n-eq0.true)
