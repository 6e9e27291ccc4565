-- `exports::ask` meets its contract. The invariant: the questions passed are answered in front. Assumes nothing.
use Rattle.exports.proofs.Asking.{Asking}
use Rattle.exports.proofs.ask.Given as goal

abbrev pub invariant-loop-k : goal.invariant-loop-k
invariant-loop-k l = Asking l.held l.members l.pools l.prices l.initial.units l.units l.n l.k
