-- Ranks and charges computed: document 01's example, annexure 1 of document 000, a member that won nothing, a tie after which ranks skip, and ties of document 02,
-- C-15. Assumes nothing.
use mathlib.Core.Path.{◌≡◌, refl}
use mathlib.Core.List.{List, [], ◌∷◌, map}
use Prim.Native.Nat.{ℕ, ◌+◌, ◌*◌, ◌-◌}
use lib.ListN.{get_or}
use Rattle.sets.specs.Set.{members}
use Rattle.waterfall.specs.Seniority.{Standing, rank_in}
use Rattle.waterfall.specs.Charging.{charged, uncovered, charged_by_rank}
use Rattle.waterfall.specs.Computing.{computing}

-- ---- ranks

abbrev of : ℕ → ℕ → ℕ → Standing
of D W expected = record { D = D; W = W; expected = expected }

-- the ranks of the members of a set, in member order
abbrev ranks_in : ℕ → List Standing → List ℕ
ranks_in set standings = map (rank_in set (λ m. get_or standings m (of 0 0 0))) (members set)

-- 01's example: 4 units won at −10, 4 at −20 and 2 at −20 over a worst reserve of −30; expected 4, 3 and 3
abbrev example : List Standing
example = of (4 * (30 - 10)) 4 4 ∷ of (4 * (30 - 20)) 4 3 ∷ of (2 * (30 - 20)) 2 3 ∷ []

example-ranks : ranks_in 7 example ≡ 2 ∷ 1 ∷ 3 ∷ []
unfolding computing
example-ranks = refl

-- Annexure 1 of document 000: members P to V, one bucket, reserves −11.25 and −15.19, so the worst reserve is −15.19; in hundredths.
--     expected  auction 1      auction 2      excess   ΔP       category  factor    rank
--  P  8         10 at −6.00    0              2        9.1900   A         18.3800   2
--  Q  16        16 at −7.20    0              0        7.9900   A         0.0000    5
--  R  64        20 at −7.30    45 at −14.00   1        3.2515   A         3.2515    4
--  S  32        10 at −6.30    24 at −14.50   2        3.1018   A         6.2035    3
--  T  40        20 at −7.10    10 at −12.00   −10      6.4567   B         0.6457    7
--  U  0         5 at −7.10     0              5        8.0900   A         40.4500   1
--  V  0         0              0              0        0.0000   A         0.0000    6
abbrev annexure : List Standing
annexure =
    of (10 * (1519 - 600)) 10 8
    ∷ of (16 * (1519 - 720)) 16 16
    ∷ of (20 * (1519 - 730) + 45 * (1519 - 1400)) (20 + 45) 64
    ∷ of (10 * (1519 - 630) + 24 * (1519 - 1450)) (10 + 24) 32
    ∷ of (20 * (1519 - 710) + 10 * (1519 - 1200)) (20 + 10) 40
    ∷ of (5 * (1519 - 710)) 5 0
    ∷ of 0 0 0
    ∷ []

annexure-ranks : ranks_in 127 annexure ≡ 2 ∷ 5 ∷ 4 ∷ 3 ∷ 7 ∷ 1 ∷ 6 ∷ []
unfolding computing
annexure-ranks = refl

-- W = 0: "ΔP = D / W (0 if W = 0)", so who won nothing and should not have is below who won as expected with ΔP above 0, and equal to who
-- won as expected at the worst reserve. In B, ΔP / deficit is 0 for all who won nothing, and the lower deficit is senior
won-nothing : ranks_in 15 (of 0 0 0 ∷ of 50 5 5 ∷ of 0 5 5 ∷ of 0 0 1 ∷ []) ≡ 2 ∷ 1 ∷ 2 ∷ 4 ∷ []
unfolding computing
won-nothing = refl

lower-deficit : ranks_in 7 (of 0 0 3 ∷ of 0 0 2 ∷ of 0 1 3 ∷ []) ≡ 3 ∷ 1 ∷ 1 ∷ []
unfolding computing
lower-deficit = refl

-- "Others rank equal. Rank = 1 + the number strictly senior": after a tie the ranks skip
tie-skips : ranks_in 7 (of 20 2 1 ∷ of 20 2 1 ∷ of 10 2 1 ∷ []) ≡ 1 ∷ 1 ∷ 3 ∷ []
unfolding computing
tie-skips = refl

-- ΔP is compared as it is: 10 / 3, 13 / 4 and 3 / 1 would be equal if rounded to whole cents
not-rounded : ranks_in 7 (of 10 3 3 ∷ of 13 4 4 ∷ of 3 1 1 ∷ []) ≡ 1 ∷ 2 ∷ 3 ∷ []
unfolding computing
not-rounded = refl

-- the same in ΔP × excess: 5 / 2 × 1 is above 2 / 2 × 2, and rounded it would be equal, so that the higher excess would decide
not-rounded-in-A : ranks_in 3 (of 5 2 1 ∷ of 2 2 0 ∷ []) ≡ 1 ∷ 2 ∷ []
unfolding computing
not-rounded-in-A = refl

-- and in ΔP / deficit: 5 / 2 / 2 is above 1 / 1 / 1, and rounded it would be equal, so that the lower deficit would decide
not-rounded-in-B : ranks_in 3 (of 5 2 4 ∷ of 1 1 2 ∷ []) ≡ 1 ∷ 2 ∷ []
unfolding computing
not-rounded-in-B = refl

-- ---- charges

-- 01's example: a loss of 160 charged to margin 20, defaulter's fund 10, first tranche 30, contributions 260, second tranche 20 and no payments
abbrev layers : List ℕ
layers = 20 ∷ 10 ∷ 30 ∷ 260 ∷ 20 ∷ 0 ∷ []

example-layers : (charged 160 layers ≡ 20 ∷ 10 ∷ 30 ∷ 100 ∷ 0 ∷ 0 ∷ []) × (uncovered 160 layers ≡ 0)
unfolding computing
example-layers = (refl, refl)

-- the layers hold 340: a cent more is uncovered
example-uncovered : (charged 341 layers ≡ layers) × (uncovered 341 layers ≡ 1)
unfolding computing
example-uncovered = (refl, refl)

-- what the members of a set are charged, in member order
abbrev charges_in : ℕ → List ℕ → List ℕ → ℕ → List ℕ
charges_in set ranks holds amount = map (charged_by_rank set (λ m. get_or ranks m 0) (λ m. get_or holds m 0) amount) (members set)

-- 01's example: of the 100 on contributions of 100, 100 and 60, rank 3 bears 60 and rank 2 the rest
example-charges : charges_in 7 (2 ∷ 1 ∷ 3 ∷ []) (100 ∷ 100 ∷ 60 ∷ []) 100 ≡ 40 ∷ 0 ∷ 60 ∷ []
unfolding computing
example-charges = refl

-- an equal rank: 31 split by contributions of 20 and 40 after rank 3 has borne its 10; the odd cent goes to the larger remainder
equal-rank : charges_in 7 (1 ∷ 1 ∷ 3 ∷ []) (20 ∷ 40 ∷ 10 ∷ []) 41 ≡ 10 ∷ 21 ∷ 10 ∷ []
unfolding computing
equal-rank = refl

-- document 02, C-15: "such a tie goes to the larger weight": 2 split by contributions of 10 and 30 after rank 3 has borne its 10. Floors 0 and 1, remainders 20
-- and 20 by 40, and the odd cent goes to the contribution of 30
equal-rank-tie : charges_in 7 (1 ∷ 1 ∷ 3 ∷ []) (10 ∷ 30 ∷ 10 ∷ []) 12 ≡ 0 ∷ 2 ∷ 10 ∷ []
unfolding computing
equal-rank-tie = refl

-- "and only then to the earlier in the list": 4 split by contributions of 10, 10 and 40. Floors 0, 0 and 2, remainders 40, 40 and 40 by 60, and of the two odd
-- cents one goes to the contribution of 40, one to the earlier of 10
equal-contributions : charges_in 15 (1 ∷ 1 ∷ 1 ∷ 4 ∷ []) (10 ∷ 10 ∷ 40 ∷ 10 ∷ []) 14 ≡ 1 ∷ 0 ∷ 3 ∷ 10 ∷ []
unfolding computing
equal-contributions = refl

-- Annexure 2 of document 000, bucket 1: 900.00 of losses charged to the slices of P to V by their ranks in it, in hundredths. V, of rank 3,
-- bears what ranks 7, 6, 5 and 4 leave: 169.57 of its 208.70
annexure-charges :
    charges_in 127 (5 ∷ 6 ∷ 1 ∷ 2 ∷ 4 ∷ 7 ∷ 3 ∷ []) (5217 ∷ 10435 ∷ 15652 ∷ 20870 ∷ 26087 ∷ 31304 ∷ 20870 ∷ []) 90000
    ≡ 5217 ∷ 10435 ∷ 0 ∷ 0 ∷ 26087 ∷ 31304 ∷ 16957 ∷ []
unfolding computing
annexure-charges = refl
