-- `case::prices_in` meets its contract. Assumes nothing.
use mathlib.Core.Path.{◌∙◌, ap}
use native.Mathlib.Omega.{arith}
use lib.IntN.{ℤ}
use mir.Syntax.{w64}
use mir.Val.{to_z, of_z}
use mir.Facts.{to_z-of_z}
use Rattle.case.specs.Readings.{pool_prices_in}
use Rattle.case.proofs.Signed.{sub-fits}
use Rattle.case.proofs.prices_in.Goals as goal

pub returns-in-Some : goal.returns-in-Some
unfolding pool_prices_in
returns-in-Some c =
    rw c.in-Some.is
    (ap (λ (z : ℤ). to_z w64 (of_z w64 z)) (rw (c.from.ensures, c.from-in-Some.ensures) at c.difference.ensures)
    ∙ to_z-of_z (sub-fits c.prices_in.result 1_000_000_000 (omega arith) (omega arith))
    ∙ rw c.prices_in.ensures)
