use Rattle.std.proofs.Common.{◌≡◌, sym, ◌∙◌, arith}
use Rattle.positions.specs.Days.{day_at}
use Rattle.positions.proofs.Taking.{begin, ring-turn, sums-turn}
use Rattle.positions.proofs.take_day.Goals as goal

pub loop-m-init : goal.loop-m-init
loop-m-init c = (sym (begin _ _ _), sym (begin _ _ _))

pub loop-m-preserved : goal.loop-m-preserved
loop-m-preserved c =
    let a = c.args in
    let at = c.loop-m in
    let comes = c.position-comes.ensures in (
      c.roll.ensures.ring_after ∙ ring-turn _ _ a.row a.bytes.now a.at a.n at.m at.ring at.sums _ at.invariant.0 at.invariant.1 comes,
      c.roll.ensures.sums_after ∙ sums-turn _ _ a.row a.bytes.now a.at a.n at.m at.ring at.sums _ at.invariant.0 at.invariant.1 comes (omega arith),
    )

pub returns : goal.returns
unfolding day_at
returns c =
    let at = c.loop-m in
    let all : at.m ≡ c.args.n = omega arith in
    record { ring_after = rw all at at.invariant.0; sums_after = rw all at at.invariant.1 }
