-- Document 01, "Parts above one another": "An auction can also be run alone, over a lent run of bid records (units, price), with open units 0 to
-- 1,000, a reserve and a lent run of counts: 1 if the runs differ in length or pass 256, 5 if a number is out of range, counts then untouched."
use Rattle.std.specs.Prelude.{List, map, ℕ, suc, ◌+◌, ◌-◌, ◌%◌, ◌^◌, ℤ, pos, negsuc}
use Rattle.splitting.specs.Limits.{Answer}
use Rattle.auction.specs.Price.{zero_price}
use Rattle.auction.specs.Limits.{bid_limit, allot_into}
use Rattle.auction.specs.declared.BidRecord.{BidRecord}

-- the 32 bits of a signed number: "prices are signed two's complement"
unfoldable pub bits : ℤ → ℕ
bits (pos n) = n
bits (negsuc n) = 2 ^ 32 - suc n

-- a signed price as it is held, the same as of its 4 bytes on the wire: a price out of range is above 2,000,000
unfoldable pub held : ℤ → ℕ
held price = (bits price + zero_price) % 2 ^ 32

-- the auction run alone over a lent run of bid records
unfoldable pub alone_lent : List BidRecord → ℕ → ℤ → List ℕ → Answer
alone_lent bs n reserve counts =
    allot_into 1 bid_limit n (held reserve) (map (λ b. b.units) bs) (map (λ b. held b.price) bs) counts
