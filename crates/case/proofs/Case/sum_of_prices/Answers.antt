-- `case::Case::sum_of_prices` meets its contract. Assumes nothing.
use mathlib.Core.Path.{◌∙◌, ap}
use native.Mathlib.Omega.{arith}
use lib.IntN.{ℤ}
use mir.Syntax.{w64}
use mir.Val.{to_z, of_z}
use mir.Facts.{to_z-of_z}
use Rattle.case.specs.Readings.{sum_of_prices_in}
use Rattle.case.proofs.Signed.{sub-fits}
use Rattle.case.proofs.Case.sum_of_prices.Goals as goal

pub difference-requires : goal.difference-requires
difference-requires c = (omega (arith, c.prices.ensures.1), omega arith)

pub returns : goal.returns
unfolding sum_of_prices_in
returns c = ap (λ (z : ℤ). to_z w64 (of_z w64 z)) c.difference.ensures ∙ to_z-of_z (sub-fits c.prices.result 4_000_000_000 (omega (arith, c.prices.ensures.1)) (omega arith)) ∙ rw c.prices.ensures.0
