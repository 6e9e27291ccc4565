-- `lines::digits` meets its contract. The invariant: what is counted are the digits spelled from the last on, and one more. Assumes nothing.
use Rattle.lines.proofs.Decimals.{Counted}
use Rattle.lines.proofs.digits.Given as goal

abbrev pub invariant-loop-rest : goal.invariant-loop-rest
invariant-loop-rest l = Counted l.n l.rest l.k

abbrev pub decreases-loop-rest : goal.decreases-loop-rest
decreases-loop-rest l = l.rest
