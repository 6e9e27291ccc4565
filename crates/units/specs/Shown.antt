-- What is read of the units.
use Rattle.std.specs.Prelude.{Bool, ◌&&◌, List, ℕ, zero, suc, ◌+◌, ◌*◌, ltb, eqb, get_or}
use Rattle.lists.specs.Lists.{when◌then◌else◌, sum_to}
use Rattle.auction.specs.Price.{zero_price}
use Rattle.units.specs.Places.{allocated_at, sold_at, moved_at, agreed_at}
use Rattle.units.specs.Steps.{zero_sum}
use Rattle.units.specs.declared.Units.{Units}

-- the open units of a pool; none in a pool that no case has
unfoldable pub open_of : Units → ℕ → ℕ
open_of u pool = when ltb pool 4 then get_or u.counts pool 0 else 0

-- the units of a pool sold by agreement, and whether the pool was so sold
unfoldable pub agreed_of : Units → ℕ → ℕ
agreed_of u pool = when ltb pool 4 then get_or u.counts (agreed_at pool) 0 else 0

abbrev pub sold_of : Units → ℕ → Bool
sold_of u pool = ltb 0 (agreed_of u pool)

-- to whom it was sold, and at what price
unfoldable pub buyer_of : Units → ℕ → ℕ
buyer_of u pool = when ltb pool 4 then get_or u.buyers pool 0 else 0

unfoldable pub sale_price_of : Units → ℕ → ℕ
sale_price_of u pool = when ltb pool 4 then get_or u.noted (260 + pool) 0 else 0

-- n counts, each four places behind the last
unfoldable pub column : List ℕ → ℕ → ℕ → ℕ
column counts first n = sum_to n (λ r. get_or counts (first + 4 * r) 0)

-- the units still sold to the bids that have a pool
unfoldable pub sold_in : List ℕ → List ℕ → ℕ → ℕ
sold_in counts pools pool = sum_to 256 (λ b. when eqb (get_or pools b 0) pool then get_or counts (sold_at b) 0 else 0)

-- how many units of a pool are of a kind: open 0, sold 1, allocated 2, moved 3, torn 4. Document 02, C-12: "the entry sold by agreement, counted as sold"
abbrev pub kind_of : Units → List ℕ → ℕ → ℕ → ℕ
kind_of u pools pool zero = column u.counts pool 1
kind_of u pools pool (suc zero) = sold_in u.counts pools pool + agreed_of u pool
kind_of u pools pool (suc (suc zero)) = column u.counts (4 + pool) 32
kind_of u pools pool (suc (suc (suc zero))) = column u.counts (388 + pool) 32
kind_of u pools pool (suc (suc (suc (suc zero)))) = column u.counts (516 + pool) 65
kind_of u pools pool (suc (suc (suc (suc (suc k))))) = 0

unfoldable pub count_of : Units → List ℕ → ℕ → ℕ → ℕ
count_of u pools pool kind = when ltb pool 4 then kind_of u pools pool kind else 0

-- the units of a pool that a member holds at a price: sold to its bids, allocated and moved to it, and sold to it by agreement
unfoldable pub sold_for : List ℕ → List ℕ → List ℕ → List ℕ → ℕ → ℕ → ℕ → ℕ
sold_for counts members pools prices m pool price =
    sum_to 256
    (λ b. when eqb (get_or members b 0) m && eqb (get_or pools b 0) pool && eqb (get_or prices b 0) price then get_or counts (sold_at b) 0 else 0)

unfoldable pub holding_of : Units → List ℕ → List ℕ → List ℕ → ℕ → ℕ → ℕ → ℕ
holding_of u members pools prices m pool price =
    when ltb pool 4 && ltb m 32 then
    sold_for u.counts members pools prices m pool price
    + (when eqb (get_or u.allocation pool 0) price then get_or u.counts (allocated_at pool m) 0 else 0)
    + (when eqb price zero_price then get_or u.counts (moved_at pool m) 0 else 0)
    + (when eqb (buyer_of u pool) m && eqb (sale_price_of u pool) price then agreed_of u pool else 0)
    else 0

-- the units allocated or moved to a member
unfoldable pub passed_of : Units → ℕ → ℕ
passed_of u m =
    when ltb m 32 then sum_to 4 (λ pool. get_or u.counts (allocated_at pool m) 0) + sum_to 4 (λ pool. get_or u.counts (moved_at pool m) 0)
    else 0

-- the sum of the prices of a pool's units not open, held above 0 by `zero_sum`; a pool that no case has has no unit
unfoldable pub sum_of : Units → ℕ → ℕ
sum_of u pool = when ltb pool 4 then get_or u.sums pool 0 else zero_sum

-- what a sum of prices of 0 cents is held as, over the four pools
abbrev pub zero_prices : ℕ
zero_prices = 4_000_000_000

-- the sum of the prices of all units not open
unfoldable pub prices_of : Units → ℕ
prices_of u = sum_to 4 (λ pool. get_or u.sums pool 0)
