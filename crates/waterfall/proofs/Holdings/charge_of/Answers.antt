-- `waterfall::Holdings::charge_of` meets its contract. What its calls give is put together in `proofs/Steps.antt`. Assumes nothing.
use mathlib.Core.Path.{refl}
use native.Mathlib.Omega.{arith}
use Rattle.lists.specs.Refusals.{answer_of}
use Rattle.waterfall.specs.Limits.{rank_at, held_at}
use Rattle.waterfall.proofs.Steps.{juniors-le, charge-is}
use Rattle.waterfall.proofs.Holdings.charge_of.Goals as goal

pub overflow_sub-equal : goal.overflow_sub-equal
overflow_sub-equal c = let s = c.args.self.now in
    omega (arith, c.held_from.ensures, c.held_from-junior.ensures, juniors-le s.set (rank_at s.ranks) (held_at s.holds) c.from-r.result)

pub returns : goal.returns
returns c = charge-is c.args.self.now.set c.args.amount c.args.m c.args.self.now.ranks c.args.self.now.holds c.from-r.result
    c.held_from-junior.result
    c.held_from.result
    _
    (answer_of c.split.result)
    _
    _
    _
    record {
      small = c.requires.1;
      rank_is = c.from-r.ensures;
      junior-is = c.held_from-junior.ensures;
      from_is = c.held_from.ensures;
      due-is = omega (arith, c.min-due.ensures, c.saturating_sub.ensures);
      weights-is = c.of_rank.ensures;
      long = refl;
      split-is = c.split.ensures;
    }
