-- `from_lines::take_all` meets its contract. Assumes nothing.
use Rattle.std.proofs.Common.{◌-◌, length}
use Rattle.from_lines.specs.Turns.{count, kept_in}
use Rattle.from_lines.proofs.Turning.{Passed}
use Rattle.from_lines.proofs.take_all.Given as goal

abbrev pub invariant-loop-part : goal.invariant-loop-part
invariant-loop-part l = Passed (count l.set) l.first l.input (kept_in l.initial.days) (kept_in l.days) l.lines l.used

abbrev pub decreases-loop-part : goal.decreases-loop-part
decreases-loop-part l = length l.input - l.used
