-- `units::pool_at` meets its contract. Assumes nothing.
use native.Mathlib.Omega.{arith}
use borrow.Author.Tests.{lt-ltb, le-ltb}
use Rattle.units.specs.Groups.{pool_at}
use Rattle.units.proofs.pool_at.Goals as goal

pub returns-then-j-lt128 : goal.returns-then-j-lt128
unfolding pool_at
returns-then-j-lt128 c = (rw (lt-ltb c.args.j 128 (omega arith)), omega arith)

pub returns-else-j-lt128 : goal.returns-else-j-lt128
unfolding pool_at
returns-else-j-lt128 c = (rw (le-ltb c.args.j 128 (omega arith)) (rw c.from.ensures at c.min.ensures), omega arith)
