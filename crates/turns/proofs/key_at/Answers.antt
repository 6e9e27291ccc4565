-- `turns::key_at` meets its contract. Assumes nothing.
use native.Mathlib.Omega.{arith}
use borrow.Author.Tests.{lt-ltb, le-ltb}
use Rattle.turns.specs.Keys.{key_at}
use Rattle.turns.proofs.key_at.Goals as goal

pub returns-then-j-lt128 : goal.returns-then-j-lt128
unfolding key_at
returns-then-j-lt128 c = rw (lt-ltb c.args.j 128 (omega arith)) c.allocated_key.ensures

pub returns-else-j-lt128 : goal.returns-else-j-lt128
unfolding key_at
returns-else-j-lt128 c = rw (le-ltb c.args.j 128 (omega arith)) c.sold_key.ensures
