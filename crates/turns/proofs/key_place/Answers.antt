-- `turns::key_place` meets its contract. Assumes nothing.
use native.Mathlib.Omega.{arith}
use borrow.Author.Tests.{lt-ltb, le-ltb}
use Rattle.turns.specs.Keys.{key_place}
use Rattle.turns.proofs.key_place.Goals as goal

pub returns-then-key-lt-SOLD_KEYS : goal.returns-then-key-lt-SOLD_KEYS
unfolding key_place
returns-then-key-lt-SOLD_KEYS c = (rw (lt-ltb c.args.key 268435456 (omega arith)) (omega arith), omega arith)

pub returns-else-key-lt-SOLD_KEYS : goal.returns-else-key-lt-SOLD_KEYS
unfolding key_place
returns-else-key-lt-SOLD_KEYS c = (rw (le-ltb c.args.key 268435456 (omega arith)) (omega arith), omega arith)
