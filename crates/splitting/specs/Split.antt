-- Document 01, "Splitting": "To split q by a list of weights w with sum W: each share is floor(q × w / W). What is left goes one each to
-- the largest remainders of q × w by W, ties to the earlier in the list. If W = 0 every share is 0. This is the only division of units or
-- money among members." W is `sum ws`. Document 02, C-15, of "an exact tie of remainders": "From now on such a tie goes to the larger weight, and only then to the
-- earlier in the list. This holds for allotments, allocations, calls and charges alike."
use Rattle.std.specs.Prelude.{Bool, List, map, ℕ, ◌+◌, ◌-◌, ◌*◌, ◌/◌, ◌%◌, ltb, eqb, length, get_or}
use Rattle.lists.specs.Lists.{when◌then◌else◌, sum, sum_to, one_if, count_to, tab, places, among}
use Rattle.lists.specs.Order.{larger_first, earlier}

-- "each share is floor(q × w / W)"
unfoldable pub floor_at : ℕ → List ℕ → ℕ → ℕ
floor_at q ws i = q * get_or ws i 0 / sum ws

-- the remainder of q × w by W at place i
unfoldable pub remainder_at : ℕ → List ℕ → ℕ → ℕ
remainder_at q ws i = q * get_or ws i 0 % sum ws

-- place j comes before place i at a tie: "the larger weight, and only then .. the earlier in the list"
unfoldable pub at_tie : List ℕ → ℕ → ℕ → Bool
at_tie ws = larger_first (λ k. get_or ws k 0) earlier

-- place j comes before place i in the hand-out of what is left: "the largest remainders"
unfoldable pub ahead : ℕ → List ℕ → ℕ → ℕ → Bool
ahead q ws = larger_first (remainder_at q ws) (at_tie ws)

-- how many places are ahead of place i
unfoldable pub places_ahead : ℕ → List ℕ → ℕ → ℕ
places_ahead q ws i = count_to (length ws) (λ j. ahead q ws j i)

-- "What is left": q less the floors
unfoldable pub left : ℕ → List ℕ → ℕ
left q ws = q - sum_to (length ws) (floor_at q ws)

-- the share of place i where W is not 0: its floor, and one more if fewer places are ahead of it than are left to hand out
unfoldable pub share_at : ℕ → List ℕ → ℕ → ℕ
share_at q ws i = floor_at q ws i + one_if (ltb (places_ahead q ws i) (left q ws))

-- the shares, in the order of the weights; "If W = 0 every share is 0"
unfoldable pub split : ℕ → List ℕ → List ℕ
split q ws = tab (length ws) (λ i. when eqb (sum ws) 0 then 0 else share_at q ws i)

-- q split by f among those of the places below n that pass the test, in their order; 0 for the others
unfoldable pub split_among : ℕ → (ℕ → Bool) → ℕ → (ℕ → ℕ) → List ℕ
split_among n who q f = among who (λ ks. split q (map f ks)) (places n)
