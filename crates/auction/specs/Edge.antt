-- About the code: the edge is the least price at or above the reserve from which on at most n units are bid. The bids at the edge and above win all
-- their units, those one cent below it share the balance, and the others win nothing.
use Rattle.std.specs.Prelude.{◌≡◌, ◌&&◌, List, ℕ, ◌+◌, ◌≤◌, ◌<◌, leb, eqb, length, get_or}
use Rattle.lists.specs.Lists.{when◌then◌else◌, sum_to, tab}
use Rattle.auction.specs.Price.{price_limit}
use Rattle.auction.specs.Limits.{unit_limit, place_limit}

-- the bids are within their limits
pub record BidsFit (us ps : List ℕ) : Type 0 where
  pub few : length us ≤ place_limit
  pub paired : length ps ≡ length us
  pub units : (k : ℕ) → get_or us k 0 ≤ unit_limit
  pub prices : (k : ℕ) → get_or ps k 0 ≤ price_limit

-- and so are the open units and the reserve
pub record Ready (n reserve : ℕ) (us ps : List ℕ) : Type 0 where
  pub bids : BidsFit us ps
  pub small : n ≤ unit_limit
  pub floor : reserve ≤ price_limit

-- the units of the bid at place i, if its price is t or above
abbrev pub counted_at : List ℕ → List ℕ → ℕ → ℕ → ℕ
counted_at us ps t i = when leb t (get_or ps i 0) then get_or us i 0 else 0

-- the units bid from the price t on
unfoldable pub from : List ℕ → List ℕ → ℕ → ℕ
from us ps t = sum_to (length us) (counted_at us ps t)

pub record Edge (n reserve : ℕ) (us ps : List ℕ) (t : ℕ) : Type 0 where
  pub valid : reserve ≤ t
  pub enough : from us ps t ≤ n
  pub least : (p : ℕ) → reserve ≤ p → p < t → n < from us ps p

-- the units of the bid at place i, if it is valid and its price is one below t
unfoldable pub below_at : ℕ → List ℕ → List ℕ → ℕ → ℕ → ℕ
below_at reserve us ps t i = when leb reserve (get_or ps i 0) && eqb (get_or ps i 0 + 1) t then get_or us i 0 else 0

unfoldable pub below : ℕ → List ℕ → List ℕ → ℕ → List ℕ
below reserve us ps t = tab (length us) (below_at reserve us ps t)

-- the units of the bid at place i, if its price is t or above, and its share if it is not
unfoldable pub settled_at : List ℕ → List ℕ → ℕ → List ℕ → ℕ → ℕ
settled_at us ps t shares i = when leb t (get_or ps i 0) then get_or us i 0 else get_or shares i 0

unfoldable pub settled : List ℕ → List ℕ → ℕ → List ℕ → List ℕ
settled us ps t shares = tab (length us) (settled_at us ps t shares)
