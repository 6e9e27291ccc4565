-- `auction::Auction::settle` meets its contract. The invariant: the places passed are settled, the others hold their shares. Assumes nothing.
use mathlib.Core.Path.{◌≡◌}
use Prim.Native.Nat.{ℕ, ◌≤◌, ◌<◌}
use lib.ListN.{get_or}
use Rattle.auction.specs.Edge.{settled_at}
use Rattle.auction.proofs.Auction.settle.Given as goal

abbrev pub invariant-loop-i : goal.invariant-loop-i
invariant-loop-i l =
    ((k : ℕ) → k < l.i → get_or l.won k 0 ≡ settled_at l.self.units.now l.self.prices.now l.t l.initial.won k)
    × ((k : ℕ) → l.i ≤ k → get_or l.won k 0 ≡ get_or l.initial.won k 0)
