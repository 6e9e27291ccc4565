-- `turns::key_price` meets its contract. Assumes nothing.
use native.Mathlib.Omega.{arith}
use mathlib.Core.Path.{refl}
use Rattle.turns.specs.Keys.{key_price}
use Rattle.turns.proofs.key_price.Goals as goal

pub returns : goal.returns
unfolding key_price
returns c = (refl, omega arith)
