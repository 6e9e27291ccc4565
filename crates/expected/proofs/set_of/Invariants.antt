-- `expected::set_of` meets its contract. The invariant: the set is that of the numbers passed. Assumes nothing.
use Rattle.std.proofs.Common.{◌≡◌, take}
use Rattle.expected.specs.Words.{set_of}
use Rattle.expected.proofs.set_of.Given as goal

abbrev pub invariant-loop-n : goal.invariant-loop-n
invariant-loop-n l = l.set ≡ set_of (take l.n-index l.numbers)
