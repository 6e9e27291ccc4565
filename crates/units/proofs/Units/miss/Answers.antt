use mathlib.Core.Path.{◌≡◌, refl}
use native.Mathlib.Numerals.{add-one}
use native.Mathlib.Omega.{arith}
use borrow.Author.Tests.{lt-ltb, le-ltb}
use Rattle.units.specs.Steps.{missed_to, miss_units}
use Rattle.units.proofs.Units.miss.Goals as goal

pub returns-then-member-ge32 : goal.returns-then-member-ge32
unfolding miss_units
returns-then-member-ge32 c = rw (le-ltb c.args.member 32 (omega arith))

pub loop-pool-init : goal.loop-pool-init
unfolding missed_to
loop-pool-init c = refl

pub loop-pool-preserved : goal.loop-pool-preserved
unfolding missed_to
loop-pool-preserved c = let l = c.loop-pool in rw (add-one l.pool, ← l.invariant) c.missed_in-out.ensures

pub returns : goal.returns
unfolding miss_units
returns c = let all : c.loop-pool.pool ≡ 4 = omega arith in
    rw (lt-ltb c.args.member 32 (omega arith), ← all, ← c.from-m.ensures) c.loop-pool.invariant
