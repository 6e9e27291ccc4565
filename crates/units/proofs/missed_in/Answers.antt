-- `units::missed_in` meets its contract. Assumes nothing.
use mathlib.Core.Path.{refl}
use Rattle.units.proofs.Results.{torn-twice}
use Rattle.units.proofs.missed_in.Goals as goal

pub returns : goal.returns
returns c = torn-twice _ _ _ _ _ _ _ _ _ _ _ refl c.noted_at-next.ensures c.noted_at.ensures
