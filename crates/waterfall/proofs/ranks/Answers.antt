use native.Mathlib.Omega.{arith}
use Rattle.lists.proofs.Places.{tab-of, filled_next}
use Rattle.waterfall.specs.Limits.{ranks_of}
use Rattle.waterfall.proofs.ranks.Goals as goal

pub loop-m-preserved : goal.loop-m-preserved
loop-m-preserved c = filled_next _ 0 c.loop-m.rank-items c.loop-m.m _ (omega arith) c.loop-m.invariant c.rank_of.ensures

pub returns : goal.returns
unfolding ranks_of
returns c = tab-of 32 _ 0 c.loop-m.rank-items c.loop-m-test.array_long (λ k l. c.loop-m.invariant k (omega arith))
