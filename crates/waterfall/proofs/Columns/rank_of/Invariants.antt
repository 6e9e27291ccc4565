-- `waterfall::Columns::rank_of` meets its contract. The invariant and its laws are in `Rattle.sets.proofs.Gathering`: those found and those still left that are
-- senior are as many as are senior in all. Assumes nothing.
use Rattle.waterfall.specs.Seniority.{senior}
use Rattle.waterfall.specs.Limits.{standing_at, capped, standing_of}
use Rattle.sets.proofs.Gathering.{Gathered}
use Rattle.waterfall.proofs.Columns.rank_of.Given as goal

abbrev pub invariant-loop-o : goal.invariant-loop-o
invariant-loop-o l = Gathered (λ o. senior (capped (standing_at l.self.d l.self.won l.self.expected o)) (standing_of l.mine)) l.set l.seniors l.o-iterator.left
