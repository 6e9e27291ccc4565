-- The auction as a function: its limits, what it answers, and what it leaves in the counts that are lent to it.
use Rattle.std.specs.Prelude.{◌&&◌, not, List, [], ◌∷◌, ℕ, leb, eqb, length}
use Rattle.lists.specs.Lists.{between, all}
use Rattle.lists.specs.Tests.{first_of}
use Rattle.splitting.specs.Limits.{Answer, answered}
use Rattle.auction.specs.Price.{price_ok}
use Rattle.auction.specs.Auction.{allot}

-- "open units 0 to 1,000"; "bid units 1 to 1,000"
abbrev pub unit_limit : ℕ
unit_limit = 1_000

-- "1 if the runs differ in length or pass 256"
abbrev pub bid_limit : ℕ
bid_limit = 256

-- the most places of an auction that is not run alone: a case's bids, and two more
abbrev pub place_limit : ℕ
place_limit = 258

-- why an auction of n open units with c counts is declined, where each bid must have `least` units and there may be `places` bids:
-- "1 if the runs differ in length or pass 256, 5 if a number is out of range"
unfoldable pub refusal : (least places n reserve : ℕ) (us ps : List ℕ) (c : ℕ) → ℕ
refusal least places n reserve us ps c =
    first_of
    ((1, not (eqb (length ps) (length us) && eqb c (length us) && leb c places))
    ∷ (5, not (leb n unit_limit && price_ok reserve && all (between least unit_limit) us && all price_ok ps))
    ∷ [])

-- the units won, written into the counts; "counts then untouched"
unfoldable pub allot_into : (least places n reserve : ℕ) (us ps counts : List ℕ) → Answer
allot_into least places n reserve us ps counts =
    answered (refusal least places n reserve us ps (length counts)) (allot n reserve us ps) counts
