-- Document 01, "CLOSE": "a bid of this round is valid if its price is at or above its pool's reserve. With n units open in its pool, and only
-- that pool's bids counted, a valid bid wins all its units if the valid units at its price or above are at most n. If those above its price
-- are already n or more it wins none. Otherwise the balance is split among the bids at its price, by units, in bid order."
-- The bids are given by two lists, of units and of prices. A bid of 0 units is as if it were not there (`allot-kept`).
use Rattle.std.specs.Prelude.{Bool, ◌&&◌, List, ℕ, ◌-◌, ltb, leb, eqb, length, get_or}
use Rattle.lists.specs.Lists.{when◌then◌else◌, sum_to, tab}
use Rattle.splitting.specs.Split.{split_among}

-- "valid if its price is at or above its pool's reserve"
unfoldable pub valid_at : ℕ → List ℕ → ℕ → Bool
valid_at reserve ps i = leb reserve (get_or ps i 0)

-- the valid units at prices that pass a test
unfoldable pub valid_units : ℕ → (ℕ → Bool) → List ℕ → List ℕ → ℕ
valid_units reserve p us ps = sum_to (length us) (λ j. when valid_at reserve ps j && p (get_or ps j 0) then get_or us j 0 else 0)

-- "the balance is split among the bids at its price, by units, in bid order"
unfoldable pub shares_at : ℕ → ℕ → List ℕ → List ℕ → List ℕ
shares_at price balance us ps = split_among (length us) (λ j. eqb (get_or ps j 0) price) balance (λ j. get_or us j 0)

-- what the bid at place i wins, if it is valid
unfoldable pub won_at : ℕ → ℕ → List ℕ → List ℕ → ℕ → ℕ
won_at n reserve us ps i =
    let price = get_or ps i 0 in
    let above = valid_units reserve (ltb price) us ps in
    when leb (valid_units reserve (leb price) us ps) n then get_or us i 0
    else when leb n above then 0
    else get_or (shares_at price (n - above) us ps) i 0

-- what each bid wins of n open units, in bid order
unfoldable pub allot : ℕ → ℕ → List ℕ → List ℕ → List ℕ
allot n reserve us ps = tab (length us) (λ i. when valid_at reserve ps i then won_at n reserve us ps i else 0)
