-- `to_text::write_all` meets its contract. Assumes nothing.
use Rattle.std.proofs.Common.{◌-◌, length}
use Rattle.to_text.proofs.Turning.{Passed}
use Rattle.to_text.proofs.write_all.Given as goal

abbrev pub invariant-loop-streams : goal.invariant-loop-streams
invariant-loop-streams l = Passed l.input l.used

abbrev pub decreases-loop-streams : goal.decreases-loop-streams
decreases-loop-streams l = length l.input - l.used
