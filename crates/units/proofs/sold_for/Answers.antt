use mathlib.Core.Path.{◌≡◌, sym, ◌∙◌}
use mathlib.Core.Bool.{◌&&◌}
use Prim.Native.Nat.{◌+◌}
use native.Mathlib.Omega.{arith}
use lib.ListN.{get_or}
use lib.Dec.{eqb}
use Rattle.lists.specs.Lists.{when◌then◌else◌}
use Rattle.lists.specs.Adding.{most16}
use Rattle.lists.proofs.Sums.{sum_to-next, sum_to-none}
use Rattle.units.specs.Shown.{sold_for}
use Rattle.units.proofs.Numbers.{if-le}
use Rattle.units.proofs.sold_for.Goals as goal

pub loop-b-init : goal.loop-b-init
loop-b-init c = (sym (sum_to-none _), omega arith)

pub overflow_add-sum : goal.overflow_add-sum
overflow_add-sum c = let a = c.args in
    let l = c.loop-b in
    let here : c.both-here.result ≡ (eqb (get_or a.members.now l.b 0) a.m && eqb (get_or a.pools.now l.b 0) a.pool && eqb (get_or a.prices.now l.b 0) a.price) = c.both-here.ensures ∙ rw c.both.ensures in
    let small = if-le c.both-here.result _ _ most16 c.number_if-sum.ensures (omega (arith, c.from.ensures, c.fits-counts (132 + c.loop-b.b))) in
    record { fits = omega arith }

pub loop-b-preserved : goal.loop-b-preserved
loop-b-preserved c = let a = c.args in
    let l = c.loop-b in
    let next = sum_to-next l.b (λ k. when eqb (get_or a.members.now k 0) a.m && eqb (get_or a.pools.now k 0) a.pool && eqb (get_or a.prices.now k 0) a.price then get_or a.counts.now (132 + k) 0 else 0) in
    let is : c.number_if-sum.result ≡ (when eqb (get_or a.members.now l.b 0) a.m && eqb (get_or a.pools.now l.b 0) a.pool && eqb (get_or a.prices.now l.b 0) a.price then get_or a.counts.now (132 + l.b) 0 else 0) =
    c.number_if-sum.ensures ∙ rw (c.from.ensures, c.both-here.ensures, c.both.ensures) in
    let small = if-le c.both-here.result _ _ most16 c.number_if-sum.ensures (omega (arith, c.from.ensures, c.fits-counts (132 + c.loop-b.b))) in
    (omega arith, omega arith)

pub returns : goal.returns
unfolding sold_for
returns c = let n : c.loop-b.b ≡ 256 = omega arith in (rw (← n) c.loop-b.invariant.0, omega (arith, c.loop-b.invariant.1))
