-- `units::Units::new` meets its contract. Assumes nothing.
use mathlib.Core.Path.{refl}
use Rattle.units.specs.Steps.{no_units}
use Rattle.units.proofs.Units.new.Goals as goal

pub returns : goal.returns
unfolding no_units
returns c = refl
