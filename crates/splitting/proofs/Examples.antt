-- K1 to K3 of document 01, an odd unit, a tie, and the answers, by computation. Assumes nothing.
use mathlib.Core.Path.{◌≡◌, refl}
use mathlib.Core.List.{[], ◌∷◌}
use Rattle.splitting.specs.Computing.{computing}
use Rattle.splitting.specs.Split.{split}
use Rattle.splitting.specs.Limits.{split_into}

-- "K1 split 6 by 5, 3: 4, 2."
pub k1 : split 6 (5 ∷ 3 ∷ []) ≡ 4 ∷ 2 ∷ []
unfolding computing
k1 = refl

-- "K2 split 1 by 1, 1, 1: 1, 0, 0."
pub k2 : split 1 (1 ∷ 1 ∷ 1 ∷ []) ≡ 1 ∷ 0 ∷ 0 ∷ []
unfolding computing
k2 = refl

-- "K3 split 2 by 0, 0: 0, 0."
pub k3 : split 2 (0 ∷ 0 ∷ []) ≡ 0 ∷ 0 ∷ []
unfolding computing
k3 = refl

-- "giving the odd unit to the first bid, not to the largest remainder" is what old ledgers did
pub odd-unit : split 1 (1 ∷ 3 ∷ []) ≡ 0 ∷ 1 ∷ []
unfolding computing
odd-unit = refl

-- C-15: both remainders of 2 × w by 4 are 2, and the tie goes to the larger weight, wherever it stands
pub tie-to-larger : split 2 (1 ∷ 3 ∷ []) ≡ 0 ∷ 2 ∷ []
unfolding computing
tie-to-larger = refl

pub tie-to-larger-first : split 2 (3 ∷ 1 ∷ []) ≡ 2 ∷ 0 ∷ []
unfolding computing
tie-to-larger-first = refl

-- "and only then to the earlier in the list": by 6 all remainders of 3 × w are 3, and the floors 0, 0, 0, 1 leave 2
pub tie-then-earlier : split 3 (1 ∷ 1 ∷ 1 ∷ 3 ∷ []) ≡ 1 ∷ 0 ∷ 0 ∷ 2 ∷ []
unfolding computing
tie-then-earlier = refl

-- a larger remainder comes before a larger weight: by 4 the remainders of 3 × w are 3 and 1
pub remainder-before-weight : split 3 (1 ∷ 3 ∷ []) ≡ 1 ∷ 2 ∷ []
unfolding computing
remainder-before-weight = refl

-- the answers: accepted; runs of different lengths, before a number out of range; a weight out of range
pub answers-0 : split_into 6 (5 ∷ 3 ∷ []) (9 ∷ 9 ∷ []) ≡ (0, 4 ∷ 2 ∷ [])
unfolding computing
answers-0 = refl

pub answers-1 : split_into 16_000_000_001 (5 ∷ 3 ∷ []) (9 ∷ []) ≡ (1, 9 ∷ [])
unfolding computing
answers-1 = refl

pub answers-5 : split_into 6 (5 ∷ 1_000_000_001 ∷ []) (9 ∷ 9 ∷ []) ≡ (5, 9 ∷ 9 ∷ [])
unfolding computing
answers-5 = refl
