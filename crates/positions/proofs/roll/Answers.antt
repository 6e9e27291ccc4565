-- `positions::roll` meets its contract. Assumes nothing.
use Rattle.std.proofs.Common.{set, refl, ap}
use Rattle.positions.proofs.roll.Goals as goal

pub returns : goal.returns
returns c = record { ring_after = refl; sums_after = ap (set c.args.sums.now c.args.m) c.rolled.ensures }
