-- `auction::gather` meets its contract. The invariant: the bids that are read, with those that are left laid behind them, are the bids of the run. Assumes nothing.
use mathlib.Core.Path.{◌≡◌}
use mathlib.Core.List.{foldl}
use lib.ListN.{length, drop}
use Rattle.auction.specs.Limits.{bid_limit}
use Rattle.auction.specs.Gathered.{with_bid, gathered}
use Rattle.auction.proofs.Lending.{taken, bids_in}
use Rattle.auction.proofs.gather.Given as goal

abbrev pub invariant-loop-i : goal.invariant-loop-i
invariant-loop-i l =
    (length l.units ≡ bid_limit)
    × (length l.prices ≡ bid_limit)
    × (foldl with_bid (bids_in l.units l.prices l.i) (drop l.i (taken l.bids)) ≡ gathered l.bids)
