-- `to_fields::write_all` meets its contract. Assumes nothing.
use Rattle.std.proofs.Common.{◌-◌, length}
use Rattle.to_fields.proofs.Turning.{Passed}
use Rattle.to_fields.proofs.write_all.Given as goal

abbrev pub invariant-loop-streams : goal.invariant-loop-streams
invariant-loop-streams l = Passed l.first l.input l.lines l.used

abbrev pub decreases-loop-streams : goal.decreases-loop-streams
decreases-loop-streams l = length l.input - l.used
