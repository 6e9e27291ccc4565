-- About the code: a lent run of bid records in flat arrays, and the auction run alone over these.
use mathlib.Core.List.{List, foldl}
use Rattle.std.specs.Prelude.{ℕ, ◌+◌, ltb, leb, ℤ, take, replicate, set}
use Rattle.lists.specs.Lists.{when◌then◌else◌}
use Rattle.splitting.specs.Limits.{Answer}
use Rattle.auction.specs.Limits.{bid_limit, allot_into}
use Rattle.auction.specs.Lent.{held}
use Rattle.auction.specs.declared.BidRecord.{BidRecord}
use Rattle.auction.specs.declared.Bids.{Bids}

-- no bid yet
unfoldable pub no_bids : Bids
no_bids = record { units = replicate bid_limit 0; prices = replicate bid_limit 0; n = 0 }

-- one bid more, where there is room for it
unfoldable pub with_bid : Bids → BidRecord → Bids
with_bid f b =
    when ltb f.n bid_limit then record {
      units = set f.units f.n b.units;
      prices = set f.prices f.n (held b.price);
      n = f.n + 1;
    }
    else f

-- every bid of a run, in order
unfoldable pub bids_of : List BidRecord → Bids
bids_of bs = foldl with_bid no_bids bs

-- the bids of a lent run: of a run that is too long, which is refused, no more than fit are read
unfoldable pub gathered : List BidRecord → Bids
gathered bs = bids_of (take bid_limit bs)

-- the auction run alone over the first n of the bids
unfoldable pub alone_over : Bids → ℕ → ℕ → ℤ → List ℕ → Answer
alone_over f n units reserve counts =
    when leb n bid_limit then allot_into 1 bid_limit units (held reserve) (take n f.units) (take n f.prices) counts
    else (1, counts)
