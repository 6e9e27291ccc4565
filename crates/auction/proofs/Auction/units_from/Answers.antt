use mathlib.Core.Path.{◌≡◌}
use native.Mathlib.Omega.{arith}
use lib.ListN.{length}
use Rattle.lists.proofs.Sums.{sum_to-none, sum_to-next}
use Rattle.auction.specs.Edge.{counted_at, from}
use Rattle.auction.proofs.Levels.{counted-le}
use Rattle.auction.proofs.Auction.units_from.Goals as goal

pub loop-i-init : goal.loop-i-init
loop-i-init c = omega (arith, sum_to-none (counted_at c.args.self.units.now c.args.self.prices.now c.args.t))

pub overflow_add-sum : goal.overflow_add-sum
overflow_add-sum c =
    let a = c.args.self in
    omega (arith, c.number_if-sum.ensures, counted-le a.units.now a.prices.now c.args.t c.loop-i.i, c.requires.units c.loop-i.i, c.requires.few)

pub loop-i-preserved : goal.loop-i-preserved
loop-i-preserved c =
    let i = c.loop-i.i in
    let a = c.args.self in
    omega (arith, c.number_if-sum.ensures, counted-le a.units.now a.prices.now c.args.t i, c.requires.units i, sum_to-next i (counted_at a.units.now a.prices.now c.args.t))

pub returns : goal.returns
unfolding from
returns c =
    let all : c.loop-i.i ≡ length c.args.self.units.now = omega arith in
    cc
