-- `timing::each` meets its contract. The invariant is `Going`; its laws begin, keep and end it. Assumes nothing.
use Rattle.timing.proofs.Turns.{Going}
use Rattle.timing.proofs.each.Given as goal

abbrev pub invariant-loop-k : goal.invariant-loop-k
invariant-loop-k l = Going l.held l.res l.bytes l.ends l.initial.numbers l.numbers l.next l.at l.k
