-- Written by tools/computing.py. Under the line `unfolding computing` every definition of these specs computes.
use Rattle.auction.specs.Price.{cents as Price·cents, sum_cents as Price·sum_cents}
use Rattle.auction.specs.Auction.{valid_at as Auction·valid_at, valid_units as Auction·valid_units, shares_at as Auction·shares_at, won_at as Auction·won_at, allot as Auction·allot}
use Rattle.auction.specs.Limits.{refusal as Limits·refusal, allot_into as Limits·allot_into}
use Rattle.auction.specs.Edge.{from as Edge·from, below_at as Edge·below_at, below as Edge·below, settled_at as Edge·settled_at, settled as Edge·settled}
use Rattle.auction.specs.Lent.{bits as Lent·bits, held as Lent·held, alone_lent as Lent·alone_lent}
use Rattle.auction.specs.Gathered.{no_bids as Gathered·no_bids, with_bid as Gathered·with_bid, bids_of as Gathered·bids_of, gathered as Gathered·gathered, alone_over as Gathered·alone_over}
use Rattle.lists.specs.Computing.{computing as lists·computing}
use Rattle.splitting.specs.Computing.{computing as splitting·computing}

unfoldable pub computing : Unit {0}
unfolding Price·cents Price·sum_cents Auction·valid_at Auction·valid_units Auction·shares_at Auction·won_at Auction·allot Limits·refusal Limits·allot_into Edge·from Edge·below_at Edge·below Edge·settled_at Edge·settled Lent·bits Lent·held Lent·alone_lent Gathered·no_bids Gathered·with_bid Gathered·bids_of Gathered·gathered Gathered·alone_over lists·computing splitting·computing
computing = tt
