-- K4, K5 and the allotment of the worked example of document 01, and the ties of document 02, C-15, by computation, with prices held as cents + 1,000,000.
-- Assumes nothing.
use mathlib.Core.Path.{◌≡◌, refl}
use mathlib.Core.Bool.{true, false}
use mathlib.Core.List.{[], ◌∷◌, map}
use Prim.Native.Nat.{ℕ}
use lib.IntN.{ℤ, pos, negsuc}
use lib.ListN.{replicate}
use Rattle.auction.specs.Computing.{computing}
use Rattle.auction.specs.Auction.{valid_at, allot}
use Rattle.auction.specs.Limits.{allot_into}
use Rattle.auction.specs.Lent.{alone_lent}
use Rattle.auction.specs.declared.BidRecord.{BidRecord}

-- "K4 reserve −30: a bid at −30 is valid, at −31 not."
pub k4 : (valid_at 999_970 (999_970 ∷ 999_969 ∷ []) 0 ≡ true) × (valid_at 999_970 (999_970 ∷ 999_969 ∷ []) 1 ≡ false)
unfolding computing
k4 = (refl, refl)

pub k4-won : allot 10 999_970 (4 ∷ 5 ∷ []) (999_970 ∷ 999_969 ∷ []) ≡ 4 ∷ 0 ∷ []
unfolding computing
k4-won = refl

-- "K5 bids of 4 and 6 at one price, 10 open: all won."
pub k5 : allot 10 999_970 (4 ∷ 6 ∷ []) (1_000_000 ∷ 1_000_000 ∷ []) ≡ 4 ∷ 6 ∷ []
unfolding computing
k5 = refl

-- the run of the program `ledger`: 10 open, reserve −30, bids of 4 at −10, 5 at −20, 3 at −20, 5 at −40
pub worked-example : allot 10 999_970 (4 ∷ 5 ∷ 3 ∷ 5 ∷ []) (999_990 ∷ 999_980 ∷ 999_980 ∷ 999_960 ∷ []) ≡ 4 ∷ 4 ∷ 2 ∷ 0 ∷ []
unfolding computing
worked-example = refl

-- "giving the odd unit to the first bid, not to the largest remainder" is what old ledgers did: 1 of 4 goes to the bid of 3
pub odd-unit : allot 1 999_970 (1 ∷ 3 ∷ []) (999_980 ∷ 999_980 ∷ []) ≡ 0 ∷ 1 ∷ []
unfolding computing
odd-unit = refl

-- document 02, C-15: "such a tie goes to the larger weight, and only then to the earlier in the list". Of 5 open the bid at −10 wins 3, and 2 are split by 1, 3:
-- floors 0 and 1, remainders 2 and 2 by 4, and the odd unit goes to the bid of 3, whether it was sent later or earlier
pub tie-larger-later : allot 5 999_970 (3 ∷ 1 ∷ 3 ∷ []) (999_990 ∷ 999_980 ∷ 999_980 ∷ []) ≡ 3 ∷ 0 ∷ 2 ∷ []
unfolding computing
tie-larger-later = refl

pub tie-larger-earlier : allot 5 999_970 (3 ∷ 3 ∷ 1 ∷ []) (999_990 ∷ 999_980 ∷ 999_980 ∷ []) ≡ 3 ∷ 2 ∷ 0 ∷ []
unfolding computing
tie-larger-earlier = refl

-- 4 split by 1, 1, 4: floors 0, 0 and 2, remainders 4, 4 and 4 by 6, and of the two odd units one goes to the bid of 4, one to the earlier bid of 1
pub tie-equal-earlier : allot 4 999_970 (1 ∷ 1 ∷ 4 ∷ []) (999_980 ∷ 999_980 ∷ 999_980 ∷ []) ≡ 1 ∷ 0 ∷ 3 ∷ []
unfolding computing
tie-equal-earlier = refl

-- the answers of an auction run alone, and of one that is not: a bid of 0 units; runs of different lengths, before a number out of range
pub alone-answers-5 : allot_into 1 256 10 999_970 (4 ∷ 0 ∷ []) (1_000_000 ∷ 1_000_000 ∷ []) (7 ∷ 7 ∷ []) ≡ (5, 7 ∷ 7 ∷ [])
unfolding computing
alone-answers-5 = refl

pub allot-answers-0 : allot_into 0 258 10 999_970 (4 ∷ 0 ∷ []) (1_000_000 ∷ 1_000_000 ∷ []) (7 ∷ 7 ∷ []) ≡ (0, 4 ∷ 0 ∷ [])
unfolding computing
allot-answers-0 = refl

pub alone-answers-1 : allot_into 1 256 1_001 999_970 (4 ∷ []) (1_000_000 ∷ []) (7 ∷ 7 ∷ []) ≡ (1, 7 ∷ 7 ∷ [])
unfolding computing
alone-answers-1 = refl

-- the worked example over a lent run of records, with its prices in cents
abbrev bid : ℕ → ℤ → BidRecord
bid units price = record { units = units; price = price }

pub lent-example : alone_lent (bid 4 (negsuc 9) ∷ bid 5 (negsuc 19) ∷ bid 3 (negsuc 19) ∷ bid 5 (negsuc 39) ∷ []) 10 (negsuc 29) (7 ∷ 7 ∷ 7 ∷ 7 ∷ []) ≡ (0, 4 ∷ 4 ∷ 2 ∷ 0 ∷ [])
unfolding computing
lent-example = refl

-- −1,000,000 and 1,000,000 cents are in range, −1,000,001 and 1,000,001 are not
pub lent-ends : alone_lent (bid 4 (negsuc 999_999) ∷ bid 5 (pos 1_000_000) ∷ []) 10 (negsuc 999_999) (7 ∷ 7 ∷ []) ≡ (0, 4 ∷ 5 ∷ [])
unfolding computing
lent-ends = refl

pub lent-too-low : alone_lent (bid 4 (pos 0) ∷ bid 5 (negsuc 1_000_000) ∷ []) 10 (negsuc 29) (7 ∷ 7 ∷ []) ≡ (5, 7 ∷ 7 ∷ [])
unfolding computing
lent-too-low = refl

pub lent-too-high : alone_lent (bid 4 (pos 0) ∷ bid 5 (pos 1_000_001) ∷ []) 10 (negsuc 29) (7 ∷ 7 ∷ []) ≡ (5, 7 ∷ 7 ∷ [])
unfolding computing
lent-too-high = refl

-- ---- the ends of each range of an auction run alone, each side

-- "open units 0 to 1,000"
pub open-ends :
    map (λ (n : ℕ). alone_lent (bid 1 (pos 0) ∷ []) n (pos 0) (7 ∷ [])) (0 ∷ 1_000 ∷ 1_001 ∷ [])
    ≡ (0, 0 ∷ []) ∷ (0, 1 ∷ []) ∷ (5, 7 ∷ []) ∷ []
unfolding computing
open-ends = refl

-- "bid units 1 to 1,000"
pub unit_ends :
    map (λ (n : ℕ). alone_lent (bid n (pos 0) ∷ []) 1_000 (pos 0) (7 ∷ [])) (0 ∷ 1 ∷ 1_000 ∷ 1_001 ∷ [])
    ≡ (5, 7 ∷ []) ∷ (0, 1 ∷ []) ∷ (0, 1_000 ∷ []) ∷ (5, 7 ∷ []) ∷ []
unfolding computing
unit_ends = refl

-- "prices and reserves −10^6 to 10^6": the reserve
pub reserve-ends :
    map (λ (z : ℤ). alone_lent (bid 1 (pos 1_000_000) ∷ []) 1 z (7 ∷ [])) (negsuc 1_000_000 ∷ negsuc 999_999 ∷ pos 1_000_000 ∷ pos 1_000_001 ∷ [])
    ≡ (5, 7 ∷ []) ∷ (0, 1 ∷ []) ∷ (0, 1 ∷ []) ∷ (5, 7 ∷ []) ∷ []
unfolding computing
reserve-ends = refl

-- "1 if the runs differ in length or pass 256": the answers to 256 records with 255, 256 and 257 counts, and to 257 with 257
pub record-ends :
    map (λ (counts : ℕ). (alone_lent (replicate 256 (bid 1 (pos 0))) 0 (pos 0) (replicate counts 7)).0) (255 ∷ 256 ∷ 257 ∷ []) ≡ 1 ∷ 0 ∷ 1 ∷ []
unfolding computing
record-ends = refl

pub records-too-many : (alone_lent (replicate 257 (bid 1 (pos 0))) 0 (pos 0) (replicate 257 7)).0 ≡ 1
unfolding computing
records-too-many = refl
