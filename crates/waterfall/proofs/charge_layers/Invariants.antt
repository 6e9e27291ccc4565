-- `waterfall::charge_layers` meets its contract. The invariant and its three laws are in `proofs/InTurn.antt`. Assumes nothing.
use Rattle.waterfall.proofs.InTurn.{Done}
use Rattle.waterfall.proofs.charge_layers.Given as goal

abbrev pub invariant-loop-i : goal.invariant-loop-i
invariant-loop-i l = Done l.loss l.limit-items l.charges l.rest l.i
