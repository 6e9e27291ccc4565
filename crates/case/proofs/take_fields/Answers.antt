-- `case::take_fields` meets its contract. Assumes nothing.
use mathlib.Core.Path.{refl}
use Prim.Native.Nat.{◌≤◌}
use native.Mathlib.Omega.{arith}
use lib.ListN.{length}
use Rattle.case.proofs.Fronts.{ends-few, taken_none, taken-some}
use borrow.Author.Rules.{rules}
use Rattle.case.proofs.take_fields.Goals as goal
use Rattle.case.proofs.take_fields.Goals.{After-cut-count}

-- as many ends as were asked for at most
few : (c : After-cut-count) → c.cut-count.result ≤ length c.cut-count.new.ends
few c = let a = c.args in ends-few a.held a.last a.input.now a.ends.now a.answers.now _ _ c.cut-count.ensures

pub returns-then-count-eq0 : goal.returns-then-count-eq0
returns-then-count-eq0 c = taken_none _ _ _ _ _ _ _ c.cut-count.ensures c.if-count-eq0.true

pub slice_bounds-replay-end : goal.slice_bounds-replay-end
slice_bounds-replay-end c = let w = few (goal.at.slice_bounds-replay-end c).After-cut-count in search (rules, w)

pub offset_bounds-ends-count : goal.offset_bounds-ends-count
offset_bounds-ends-count c = omega (arith, few (goal.at.offset_bounds-ends-count c).After-cut-count, c.cut-count.auto, c.well_formed.1.1.1.0.1)

pub bounds-ends-count : goal.bounds-ends-count
bounds-ends-count c = omega (arith, few (goal.at.bounds-ends-count c).After-cut-count, c.if-count-eq0.false)

pub returns : goal.returns
returns c = taken-some _ _ _ _ _ _ _ c.cut-count.ensures c.if-count-eq0.false _ _ c.replay-next.ensures _ refl
