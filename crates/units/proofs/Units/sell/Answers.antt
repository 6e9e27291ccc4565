use mathlib.Core.Path.{◌≡◌, refl}
use native.Mathlib.Numerals.{add-one}
use native.Mathlib.Omega.{arith}
use lib.Dec.{eqb}
use lib.ListN.{get_or}
use borrow.Author.Tests.{eq-eqb, ne_eqb}
use Rattle.lists.specs.Lists.{when◌then◌else◌}
use Rattle.units.specs.Steps.{sold_counts, sold_sums, sell_units}
use Rattle.units.proofs.Units.sell.Goals as goal
use Rattle.units.proofs.Units.sell.Goals.{After-reprice, then-rounds-b, else-rounds-b}

-- what a bid of the round won, and 0 for the others
won-is : (c : After-reprice) → c.if-rounds-b.n ≡ (when eqb (get_or c.args.rounds.now c.loop-b.b 0) c.args.round then get_or c.args.won.now c.loop-b.b 0 else 0)
won-is c =
    elim c.if-rounds-b.branch [
      | then-rounds-b w ↦ rw (eq-eqb _ _ w.if-rounds-b.true) w.n-is
      | else-rounds-b w ↦ rw (ne_eqb _ _ w.if-rounds-b.false) w.n-is
    ]

pub loop-b-init : goal.loop-b-init
unfolding sold_counts sold_sums
loop-b-init c = (refl, refl)

pub loop-b-preserved : goal.loop-b-preserved
unfolding sold_counts sold_sums
loop-b-preserved c = let l = c.loop-b in
    let n = won-is c in
    let p = rw c.from.ensures at c.min-pool.ensures in (
      rw (add-one l.b, ← l.invariant.0, ← n, ← p) c.transfer.ensures,
      rw (add-one l.b, ← l.invariant.1, ← n, ← p) c.reprice.ensures,
    )

pub returns : goal.returns
unfolding sell_units
returns c = let all : c.loop-b.b ≡ c.min-b-end.result = omega arith in
    rw (← c.min-b-end.ensures, ← all, ← c.loop-b.invariant.0, ← c.loop-b.invariant.1)
