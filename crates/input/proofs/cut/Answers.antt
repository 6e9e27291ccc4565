use mathlib.Core.Path.{◌≡◌, refl, ap, ◌∙◌}
use mathlib.Core.Logic.{inl, inr}
use native.Mathlib.Omega.{arith}
use lib.ListN.{drop, length-drop}
use Rattle.input.specs.Fields.{front_size}
use Rattle.input.proofs.Fronts.{front-most, cutting-starts, cutting-goes, cuts, rest_all}
use Rattle.input.proofs.cut.Goals as goal
use Rattle.input.proofs.cut.Goals.{After-front_size-size}

-- what `front_size` is asked of is the rest of the input
sized : (c : After-front_size-size)
    → let a = c.args in
    c.front_size-size.result ≡ front_size a.last (drop c.loop-k.at a.input.now)
sized c =
    let a = c.args in
    c.front_size-size.ensures ∙ ap (front_size a.last) (rest_all a.input.now c.loop-k.at)

pub loop-k-init : goal.loop-k-init
loop-k-init c = (c.min-most.ensures, cutting-starts _ _ _ _)

pub returns-then-size-eq0 : goal.returns-then-size-eq0
returns-then-size-eq0 c = cuts _ _ _ _ _ _ _ _ c.loop-k.invariant.0 c.loop-k.invariant.1 _ (sized (goal.at.returns-then-size-eq0 c).After-front_size-size) (inl c.if-size-eq0.true)

pub overflow_add-at : goal.overflow_add-at
overflow_add-at c = let at = c.loop-k.at in let input = c.args.input.now in omega (arith, sized (goal.at.overflow_add-at c).After-front_size-size, front-most c.args.last (drop at input), length-drop at input, c.well_formed.1.0.0)

pub loop-k-preserved : goal.loop-k-preserved
loop-k-preserved c = (c.loop-k.invariant.0, cutting-goes _ _ _ _ _ _ _ c.loop-k.invariant.1 _ (sized (goal.at.loop-k-preserved c).After-front_size-size) c.loop-k-test.true c.if-size-eq0.false)

pub returns : goal.returns
returns c =
    let all : c.loop-k.k ≡ c.min-most.result = omega arith in
    rw (← all) (cuts _ _ _ _ _ _ _ _ c.loop-k.invariant.0 c.loop-k.invariant.1 _ refl (inr c.loop-k-test.false))
