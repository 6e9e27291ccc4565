use Prim.Native.Nat.{◌+◌, ◌-◌, ◌/◌}
use mathlib.Core.Path.{◌≡◌}
use native.Mathlib.Omega.{arith}
use Rattle.auction.proofs.Levels.{from_le, from_nothing}
use Rattle.auction.proofs.Auction.edge.Goals as goal

pub loop-low-init : goal.loop-low-init
loop-low-init c = (
  omega arith,
  omega arith,
  omega arith,
  omega (arith, from_nothing c.args.self.units.now c.args.self.prices.now 2000001 (λ i. omega (arith, c.requires.bids.prices i))),
  λ p h l. absurd (omega arith),
)

pub loop-low-smaller-then-units_from-self : goal.loop-low-smaller-then-units_from-self
loop-low-smaller-then-units_from-self c = omega arith

pub loop-low-preserved-then-units_from-self : goal.loop-low-preserved-then-units_from-self
loop-low-preserved-then-units_from-self c = (omega arith, omega arith, omega arith, omega arith, c.loop-low.invariant.4)

pub loop-low-smaller : goal.loop-low-smaller
loop-low-smaller c = omega arith

pub loop-low-preserved : goal.loop-low-preserved
loop-low-preserved c =
    let at = c.loop-low in (
      omega arith,
      omega arith,
      omega arith,
      omega arith,
      λ p h l. omega (arith, from_le c.args.self.units.now c.args.self.prices.now p (at.low + (at.high - at.low) / 2) (omega arith)),
    )

pub returns : goal.returns
returns c =
    let at = c.loop-low in
    let met : at.low ≡ at.high = omega arith in
    record { valid = omega arith; enough = rw met at.invariant.3; least = at.invariant.4 }
