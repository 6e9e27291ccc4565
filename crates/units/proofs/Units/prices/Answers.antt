-- `units::Units::prices` meets its contract. Assumes nothing.
use native.Mathlib.Omega.{arith}
use Rattle.lists.specs.Lists.{sum_to}
use Rattle.units.specs.Shown.{prices_of}
use Rattle.units.proofs.Units.prices.Goals as goal

pub returns : goal.returns
unfolding prices_of sum_to
returns c = (omega arith, omega arith)
