-- `auction::Auction::allot_within` meets its contract. The room for the weights is a part of a local array. Assumes nothing.
use mathlib.Core.Path.{sym}
use lib.Seq.{length-take-le}
use Rattle.auction.proofs.Auction.allot_within.Goals as goal

pub slice_bounds-allot_with-end : goal.slice_bounds-allot_with-end
slice_bounds-allot_with-end c = sym (length-take-le _ _ c.requires.ready.bids.few)

pub allot_with-requires : goal.allot_with-requires
allot_with-requires c =
    record { ready = c.requires.ready; weights_len = (length-take-le _ _ c.requires.ready.bids.few, c.requires.won_len) }
