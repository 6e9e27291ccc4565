-- `cases::read_all` meets its contract. Assumes nothing.
use Rattle.std.proofs.Common.{◌-◌, ◌≤◌, length}
use Rattle.cases.proofs.read_all.Given as goal

abbrev pub invariant-loop-done : goal.invariant-loop-done
invariant-loop-done l = l.done ≤ length l.all

abbrev pub decreases-loop-done : goal.decreases-loop-done
decreases-loop-done l = length l.all - l.done
