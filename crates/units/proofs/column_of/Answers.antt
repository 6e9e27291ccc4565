use mathlib.Core.Path.{sym}
use Rattle.lists.proofs.Sums.{sum_to-none}
use mathlib.Core.Path.{◌≡◌}
use Prim.Native.Nat.{◌+◌, ◌*◌}
use native.Mathlib.Omega.{arith}
use lib.ListN.{get_or}
use Rattle.lists.proofs.Sums.{sum_to-next}
use Rattle.units.specs.Shown.{column}
use Rattle.units.proofs.column_of.Goals as goal

pub loop-r-init : goal.loop-r-init
loop-r-init c = (sym (sum_to-none _), omega arith)

pub loop-r-preserved : goal.loop-r-preserved
loop-r-preserved c = let l = c.loop-r in
    let a = c.args in
    let next = sum_to-next l.r (λ k. get_or a.counts.now (a.first + 4 * k) 0) in
    let small = c.fits-counts (a.first + 4 * l.r) in
    (omega arith, omega arith)

pub returns : goal.returns
unfolding column
returns c = let n : c.loop-r.r ≡ c.args.n = omega arith in rw (← n) c.loop-r.invariant.0
