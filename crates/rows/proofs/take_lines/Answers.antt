use mathlib.Core.Path.{refl, ◌∙◌}
use Prim.Native.Nat.{◌+◌, ◌-◌, ◌≤◌, ◌<◌}
use native.Mathlib.Omega.{arith}
use lib.ListN.{length, drop, length-take}
use borrow.Author.Rules.{rules}
use Rattle.rows.specs.Days.{NextDay}
use Rattle.rows.proofs.Days.{days-start, next-lent, days-few, days-within, days-room, days-go, days-end}
use Rattle.rows.proofs.take_lines.Goals as goal
use Rattle.rows.proofs.take_lines.Goals.{In-Some}

-- the line that is taken, of the rest of the text
taken : (c : In-Some) → NextDay c.args.n (length c.loop-day.out - c.loop-day.to) c.args.last (drop c.loop-day.used c.args.input.now) c.in-Some.day
taken c = next-lent _ _ _ c.args.input.now c.loop-day.used _ c.in-Some.ensures.0

within : (c : In-Some) → c.loop-day.used + c.in-Some.day.size ≤ length c.args.input.now
within c = days-within _ _ _ _ _ _ _ _ c.loop-day.invariant.0 _ (taken c) c.in-Some.ensures.1

pub loop-day-init : goal.loop-day-init
loop-day-init c = (days-start _ _ _ _, refl)

pub put_numbers-to-requires : goal.put_numbers-to-requires
put_numbers-to-requires c =
    let d = taken (goal.at.put_numbers-to-requires c).In-Some in
    (simp length-take (omega (arith, d.few)), days-room _ _ _ _ _ _ _ _ c.loop-day.invariant.0 _ d c.in-Some.ensures.1)

pub overflow_add-used : goal.overflow_add-used
overflow_add-used c = let w = within (goal.at.overflow_add-used c).In-Some in search (rules, w)

pub overflow_add-count : goal.overflow_add-count
overflow_add-count c =
    let w = days-few _ _ _ _ _ _ _ _ c.loop-day.invariant.0 _ (taken (goal.at.overflow_add-count c).In-Some) in search (rules, w)

pub loop-day-smaller : goal.loop-day-smaller
loop-day-smaller c =
    let w = within (goal.at.loop-day-smaller c).In-Some in
    let some : 0 < c.in-Some.day.size = omega (arith, c.in-Some.ensures.1) in
    omega arith

pub loop-day-preserved : goal.loop-day-preserved
loop-day-preserved c =
    let w = c.put_numbers-to in
    (days-go _ _ _ _ _ _ _ _ c.loop-day.invariant.0 _ (taken (goal.at.loop-day-preserved c).In-Some) c.in-Some.ensures.1 _ _ w.ensures, w.auto.out ∙ c.loop-day.invariant.1)

pub shape_of-out : goal.shape_of-out
shape_of-out c = c.loop-day.invariant.1

pub returns : goal.returns
returns c = days-end _ _ _ _ _ _ _ _ c.loop-day.invariant.0 c.in_default.ensures
