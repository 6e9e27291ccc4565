-- `auction::Auction::weigh` meets its contract. The invariant: the places passed hold their weights. Assumes nothing.
use mathlib.Core.Path.{◌≡◌}
use Prim.Native.Nat.{ℕ, ◌<◌}
use lib.ListN.{get_or}
use Rattle.auction.specs.Edge.{below_at}
use Rattle.auction.proofs.Auction.weigh.Given as goal

abbrev pub invariant-loop-i : goal.invariant-loop-i
invariant-loop-i l = (k : ℕ) → k < l.i → get_or l.weights k 0 ≡ below_at l.self.reserve l.self.units.now l.self.prices.now l.t k
