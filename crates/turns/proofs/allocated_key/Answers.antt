-- `turns::allocated_key` meets its contract. Assumes nothing.
use native.Mathlib.Omega.{arith}
use borrow.Author.Tests.{lt-ltb, le-ltb}
use Rattle.turns.specs.Keys.{allocated_key}
use Rattle.turns.proofs.allocated_key.Goals as goal

pub returns-then-price-lt1000000 : goal.returns-then-price-lt1000000
unfolding allocated_key
returns-then-price-lt1000000 c = rw (lt-ltb c.args.price 1000000 (omega arith))

pub returns-else-price-lt1000000 : goal.returns-else-price-lt1000000
unfolding allocated_key
returns-else-price-lt1000000 c = rw (le-ltb c.args.price 1000000 (omega arith))
