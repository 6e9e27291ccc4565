use mathlib.Core.Path.{sym, ◌∙◌}
use Rattle.lists.proofs.Sums.{sum_to-none}
use Rattle.units.proofs.Numbers.{if-le}
use mathlib.Core.Path.{◌≡◌}
use Prim.Native.Nat.{◌+◌}
use native.Mathlib.Omega.{arith}
use lib.ListN.{get_or}
use lib.Dec.{eqb}
use Rattle.lists.specs.Lists.{when◌then◌else◌}
use Rattle.lists.specs.Adding.{most16}
use Rattle.lists.proofs.Sums.{sum_to-next}
use Rattle.units.specs.Shown.{sold_in}
use Rattle.units.proofs.sold_in.Goals as goal

pub loop-b-init : goal.loop-b-init
loop-b-init c = (sym (sum_to-none _), omega arith)

pub overflow_add-sum : goal.overflow_add-sum
overflow_add-sum c = let a = c.args in
    let small = if-le (eqb (get_or a.pools.now c.loop-b.b 0) a.pool) _ _ most16 c.number_if-sum.ensures (omega (arith, c.from.ensures, c.fits-counts (132 + c.loop-b.b))) in
    record { fits = omega arith }

pub loop-b-preserved : goal.loop-b-preserved
loop-b-preserved c = let l = c.loop-b in
    let a = c.args in
    let next = sum_to-next l.b (λ k. when eqb (get_or a.pools.now k 0) a.pool then get_or a.counts.now (132 + k) 0 else 0) in
    let is : c.number_if-sum.result ≡ (when eqb (get_or a.pools.now l.b 0) a.pool then get_or a.counts.now (132 + l.b) 0 else 0) = c.number_if-sum.ensures ∙ rw c.from.ensures in
    let small = if-le (eqb (get_or a.pools.now l.b 0) a.pool) _ _ most16 c.number_if-sum.ensures (omega (arith, c.from.ensures, c.fits-counts (132 + c.loop-b.b))) in
    (omega arith, omega arith)

pub returns : goal.returns
unfolding sold_in
returns c = let n : c.loop-b.b ≡ 256 = omega arith in (rw (← n) c.loop-b.invariant.0, omega (arith, c.loop-b.invariant.1))
