-- The functions `splitting::split` and `splitting::ranking`: their limits, what they answer, and what they leave in the run that is lent to them.
use Rattle.std.specs.Prelude.{Bool, ◌&&◌, not, List, [], ◌∷◌, ◌++◌, ℕ, leb, eqb, length, drop}
use Rattle.lists.specs.Lists.{when◌then◌else◌, all}
use Rattle.lists.specs.Tests.{first_of}
use Rattle.splitting.specs.Split.{split}
use Rattle.splitting.specs.Ranking.{ranking}

-- the most places, the most that is split, and the largest weight: q × w then fits 64 bits
abbrev pub place_limit : ℕ
place_limit = 512

abbrev pub amount_limit : ℕ
amount_limit = 16_000_000_000

abbrev pub weight_limit : ℕ
weight_limit = 1_000_000_000

abbrev pub weight_ok : ℕ → Bool
weight_ok w = leb w weight_limit

-- an answer, and what a lent run holds after it
abbrev pub Answer : Type 0
Answer = ℕ × List ℕ

-- the answer a: where it is 0 the run holds what was asked for, and where it is not the run is untouched
abbrev pub answered : ℕ → List ℕ → List ℕ → Answer
answered a done before = (a, when eqb a 0 then done else before)

-- why a split of q by the weights into n shares is declined: 1 where the runs differ in length or pass the limit of places, 5 where a number is out of range
unfoldable pub refusal : ℕ → List ℕ → ℕ → ℕ
refusal q ws n =
    first_of
    ((1, not (eqb n (length ws) && leb n place_limit))
    ∷ (5, not (leb q amount_limit && all weight_ok ws))
    ∷ [])

-- the split of q by the weights, written into the shares
unfoldable pub split_into : ℕ → List ℕ → List ℕ → Answer
split_into q ws shares = answered (refusal q ws (length shares)) (split q ws) shares

-- an answer, how many places are named, and what the lent run holds
abbrev pub RankedAnswer : Type 0
RankedAnswer = ℕ × ℕ × List ℕ

-- the list ks written at the front of a run
abbrev pub at_front : List ℕ → List ℕ → List ℕ
at_front ks l = ks ++ drop (length ks) l

-- the ranking of the places, written into a run as long as the weights, with the answers of a split; where nothing is named the run is untouched
unfoldable pub ranking_into : ℕ → List ℕ → List ℕ → RankedAnswer
ranking_into q ws run =
    let a = refusal q ws (length run) in
    let ks = when eqb a 0 then ranking q ws else [] in
    (a, length ks, at_front ks run)
