-- The bids kept, over the program's struct, and as the machine has them.
use Rattle.std.specs.Prelude.{Bool, true, false, ◌&&◌, List, [], ℕ, ◌+◌, ◌-◌, ◌*◌, min, ltb, eqb, get_or, set, replicate}
use Rattle.lists.specs.Lists.{when◌then◌else◌, tab, places, sum_by_key}
use Rattle.lists.specs.Adding.{most16, most64, held_to}
use Rattle.auction.specs.Limits.{place_limit, allot_into}
use Rattle.machine.specs.Roll as M
use Rattle.accounts.specs.declared.bids.Bids.{Bids}

unfoldable pub no_bids : Bids
no_bids =
    record {
      kept = 0;
      round = replicate 256 0;
      pool = replicate 256 0;
      member = replicate 256 0;
      units = replicate 256 0;
      price = replicate 256 0;
      won = replicate 256 0;
      stands = replicate 256 false;
    }

-- a bid more, where there is room; it stands and has won nothing
unfoldable pub put_bid : Bids → ℕ → ℕ → ℕ → ℕ → ℕ → Bids
put_bid x round pool m units price =
    when ltb x.kept 256 then
    record {
      kept = x.kept + 1;
      round = set x.round x.kept round;
      pool = set x.pool x.kept pool;
      member = set x.member x.kept m;
      units = set x.units x.kept units;
      price = set x.price x.kept price;
      won = set x.won x.kept 0;
      stands = set x.stands x.kept true;
    }
    else x

-- whether the bid at place i is kept, stands and is of the round
unfoldable pub in_round_at : Bids → ℕ → ℕ → Bool
in_round_at x round i = ltb i x.kept && get_or x.stands i false && eqb (get_or x.round i 0) round

-- whether it is also in the pool
unfoldable pub in_auction_at : Bids → ℕ → ℕ → ℕ → Bool
in_auction_at x round pool i = in_round_at x round i && eqb (get_or x.pool i 0) pool

-- whether a bid of a member that stands in a round has the number
unfoldable pub stands_for : Bids → ℕ → ℕ → ℕ → Bool
stands_for x round m n = in_round_at x round n && eqb (get_or x.member n 0) m

-- the bid with the number no longer stands; all else is as it was
unfoldable pub withdraw_bid : Bids → ℕ → Bids
withdraw_bid x n =
    record {
      kept = x.kept;
      round = x.round;
      pool = x.pool;
      member = x.member;
      units = x.units;
      price = x.price;
      won = x.won;
      stands = set x.stands n false;
    }

-- the units of the bids that stand in a round in a pool, and 0 for the others
unfoldable pub units_in : Bids → ℕ → ℕ → List ℕ
units_in x round pool = tab 256 (λ i. when in_auction_at x round pool i then get_or x.units i 0 else 0)

-- what the bids that stand in a round win of a pool's open units, each at its place, and 0 for the others
unfoldable pub wins_of : Bids → ℕ → ℕ → ℕ → ℕ → List ℕ
wins_of x round pool n reserve = (allot_into 0 place_limit n reserve (units_in x round pool) x.price (replicate 256 0)).1

-- the bids that stand in a round with the units that they won; `wins` has a list of units won for each pool
unfoldable pub with_wins : Bids → ℕ → List (List ℕ) → Bids
with_wins x round wins =
    record {
      kept = x.kept;
      round = x.round;
      pool = x.pool;
      member = x.member;
      units = x.units;
      price = x.price;
      won = tab 256 (λ i. when in_round_at x round i then min (get_or (get_or wins (get_or x.pool i 0) []) i 0) most16 else get_or x.won i 0);
      stands = x.stands;
    }

-- the units won by member and pool, those of member m in pool p at place 4 × m + p, each sum held to 16 bits
unfoldable pub won_table : Bids → List ℕ
won_table x =
    held_to most16 (sum_by_key 128 (λ i. 4 * get_or x.member i 0 + get_or x.pool i 0) (λ i. get_or x.won i 0) (places (min x.kept 256)))

-- "units won × (price − worst reserve)" of one bid
unfoldable pub gain_at : Bids → List ℕ → ℕ → ℕ
gain_at x worsts i = get_or x.won i 0 * (get_or x.price i 0 - get_or worsts (get_or x.pool i 0) 0)

-- D by member, each sum held to 64 bits
unfoldable pub gain_table : Bids → List ℕ → List ℕ
gain_table x worsts = held_to most64 (sum_by_key 32 (λ i. get_or x.member i 0) (gain_at x worsts) (places (min x.kept 256)))

-- as the machine has them
abbrev pub bid_at : Bids → ℕ → M.Bid
bid_at x i =
    record {
      round = get_or x.round i 0;
      pool = get_or x.pool i 0;
      member = get_or x.member i 0;
      units = get_or x.units i 0;
      price = get_or x.price i 0;
      won = get_or x.won i 0;
      stands = get_or x.stands i false;
    }

abbrev pub view_bids : Bids → List M.Bid
view_bids x = tab x.kept (bid_at x)
