-- `case::replay` meets its contract. The invariant is `Going`; its laws begin, keep and end it. Assumes nothing.
use Rattle.case.proofs.Replaying.{Going}
use Rattle.case.proofs.replay.Given as goal

abbrev pub invariant-loop-k : goal.invariant-loop-k
invariant-loop-k l = Going l.initial.next l.bytes l.ends l.initial.answers l.answers l.next l.at l.k
