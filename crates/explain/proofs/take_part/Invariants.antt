-- `explain::take_part` meets its contract: the fields are taken one by one, as `Passing` says. Assumes nothing.
use Rattle.std.proofs.Common.{◌≡◌, ◌-◌, false, length, drop}
use Rattle.input.specs.Fields.{front_size}
use Rattle.input.proofs.Fronts.{front-most}
use Rattle.input.proofs.Pieces.{Passing}
use Rattle.case.specs.Input.{ledger_after}
use Rattle.explain.proofs.take_part.Given as goal

abbrev pub invariant-loop-size : goal.invariant-loop-size
invariant-loop-size l =
    Passing (front_size false) (front-most false) ledger_after l.initial.next l.input l.next l.used × (l.size ≡ front_size false (drop l.used l.input))

abbrev pub decreases-loop-size : goal.decreases-loop-size
decreases-loop-size l = length l.input - l.used
