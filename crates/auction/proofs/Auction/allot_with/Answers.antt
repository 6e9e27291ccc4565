-- `auction::Auction::allot_with` meets its contract. The steps of the code are those of `steps`. Assumes nothing.
use mathlib.Core.Path.{ap}
use Prim.Native.Nat.{ℕ, ◌-◌}
use Rattle.auction.proofs.Edges.{steps}
use Rattle.auction.proofs.Auction.allot_with.Goals as goal

pub returns : goal.returns
returns c =
    steps _ _ _ _ _ c.edge-t.ensures c.requires.ready _ _ _ _ _ _
    (ap (λ (x : ℕ). c.args.self.open_units - x) c.units_from.ensures)
    c.weigh.ensures
    c.requires.weights_len.1
    c.split.ensures
    c.settle.ensures
