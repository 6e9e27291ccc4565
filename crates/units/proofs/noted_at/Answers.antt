-- `units::noted_at` meets its contract. Assumes nothing.
use mathlib.Core.Path.{refl}
use Rattle.units.proofs.Results.{torn-none, torn-some}
use Rattle.units.proofs.noted_at.Goals as goal

pub returns-then-n-eq0 : goal.returns-then-n-eq0
returns-then-n-eq0 c = torn-none _ _ _ _ _ _ _ _ refl c.transfer.ensures c.reprice.ensures c.if-n-eq0.true

pub returns : goal.returns
returns c = torn-some _ _ _ _ _ _ _ _ refl c.transfer.ensures c.reprice.ensures c.if-n-eq0.false
