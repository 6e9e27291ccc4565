use Rattle.std.proofs.Common.{◌≡◌, ℕ, ◌+◌, ◌-◌, false, List, take, drop, ap, ◌∙◌, arith, rules}
use Rattle.input.specs.Fields.{front_size}
use Rattle.input.proofs.Fronts.{front-most, rest_all}
use Rattle.input.proofs.Pieces.{passing-starts, passing-within, passing-goes, passing-ends}
use Rattle.case.specs.Cases.{Held}
use Rattle.case.specs.Cases.{applied}
use Rattle.case.specs.Input.{ledger_after}
use Rattle.case.proofs.Parts.{after-cons, after_none}
use Rattle.explain.proofs.take_part.Goals as goal

-- what is held after a field
abbrev taken : Held → List ℕ → Held
taken h f = (applied h f).held

pub loop-size-init : goal.loop-size-init
loop-size-init c = (passing-starts (front_size false) (front-most false) _ _ _, c.front_size-size.ensures)

pub overflow_add-end : goal.overflow_add-end
overflow_add-end c = let w = passing-within (front_size false) (front-most false) ledger_after _ _ taken after-cons _ _ c.loop-size.invariant.0 _ c.loop-size.invariant.1 in search (rules, w)

pub slice_bounds-take_field-end : goal.slice_bounds-take_field-end
slice_bounds-take_field-end c = let w = passing-within (front_size false) (front-most false) ledger_after _ _ taken after-cons _ _ c.loop-size.invariant.0 _ c.loop-size.invariant.1 in search (rules, w)

pub slice_bounds-front_size-count : goal.slice_bounds-front_size-count
slice_bounds-front_size-count c = passing-within (front_size false) (front-most false) ledger_after _ _ taken after-cons _ _ c.loop-size.invariant.0 _ c.loop-size.invariant.1

pub slice_bounds-front_size-start : goal.slice_bounds-front_size-start
slice_bounds-front_size-start c = let w = passing-within (front_size false) (front-most false) ledger_after _ _ taken after-cons _ _ c.loop-size.invariant.0 _ c.loop-size.invariant.1 in search (rules, w)

pub loop-size-smaller : goal.loop-size-smaller
loop-size-smaller c = let l = c.loop-size in omega (arith, passing-within (front_size false) (front-most false) ledger_after _ _ taken after-cons _ _ c.loop-size.invariant.0 _ c.loop-size.invariant.1, c.loop-size-test.true)

pub loop-size-preserved : goal.loop-size-preserved
loop-size-preserved c =
    let l = c.loop-size in
    let t = c.take_field-next in
    let input = c.args.input.now in
    let gap : l.used + l.size - l.used ≡ l.size = omega arith in (
      passing-goes (front_size false) (front-most false) ledger_after _ _ taken after-cons _ _ l.invariant.0 _ l.invariant.1 c.loop-size-test.true _
          (t.ensures ∙ ap (λ (n : ℕ). taken l.next (take n (drop l.used input))) gap),
      c.front_size-size-in-loop-size.ensures ∙ ap (front_size false) (rest_all input (l.used + l.size)),
    )

pub returns : goal.returns
returns c = passing-ends (front_size false) (front-most false) ledger_after _ _ taken after-cons _ _ c.loop-size.invariant.0 _ c.loop-size.invariant.1 after_none c.loop-size-test.false
