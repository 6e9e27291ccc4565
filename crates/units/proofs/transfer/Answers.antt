-- `units::transfer` meets its contract. Assumes nothing.
use mathlib.Core.Path.{◌≡◌, ◌∙◌}
use Prim.Native.Nat.{◌-◌}
use lib.ListN.{get_or}
use native.Mathlib.Omega.{arith}
use Rattle.units.specs.Steps.{transferred}
use Rattle.units.proofs.transfer.Goals as goal

pub returns : goal.returns
unfolding transferred
returns c = let e : c.saturating_sub.result ≡ get_or c.args.counts.now c.args.from 0 - c.args.n = omega arith in c.add_at.ensures ∙ rw e
