-- The units after each call that changes them, over the program's struct; MOVE is in `Groups`.
use Rattle.std.specs.Prelude.{List, [], ◌∷◌, ℕ, zero, suc, ◌+◌, ◌-◌, ◌*◌, ◌%◌, min, ltb, eqb, get_or, set, replicate}
use Rattle.lists.specs.Lists.{when◌then◌else◌}
use Rattle.lists.specs.Adding.{most16, most32, add_at}
use Rattle.sets.specs.Set.{members}
use Rattle.auction.specs.Price.{zero_price}
use Rattle.units.specs.Places.{allocated_at, sold_at, moved_at, torn_at, missed_at, missed_moved_at, agreed_at}
use Rattle.units.specs.declared.Units.{Units}

-- what a sum of prices of 0 cents is held as
abbrev pub zero_sum : ℕ
zero_sum = 1_000_000_000

-- no unit
unfoldable pub no_units : Units
no_units = record { counts = replicate 780 0; sums = replicate 4 zero_sum; allocation = replicate 4 0; noted = replicate 264 0; buyers = replicate 4 0 }

-- n units of one place counted at another
unfoldable pub transferred : List ℕ → ℕ → ℕ → ℕ → List ℕ
transferred counts from to n = add_at most16 (set counts from (get_or counts from 0 - n)) to n

-- the sums of prices where n units of a pool have a new price in place of an old one; an open unit counts as one at price 0
unfoldable pub repriced : List ℕ → ℕ → ℕ → ℕ → ℕ → List ℕ
repriced sums pool n old new = set sums pool (min (get_or sums pool 0 + n * new - n * old) most32)

abbrev pub with_counts : Units → List ℕ → List ℕ → Units
with_counts u counts sums = record { counts = counts; sums = sums; allocation = u.allocation; noted = u.noted; buyers = u.buyers }

-- POOL: n units of the pool put up; unchanged where no case has such a pool
unfoldable pub put_up_units : Units → ℕ → ℕ → Units
put_up_units u pool n = when ltb pool 4 then with_counts u (add_at most16 u.counts pool n) u.sums else u

-- ---- CLOSE: the first n bids, of which those of this round get the units that they won from the open ones of their pool

module _ (round : ℕ) (rounds pools won : List ℕ) where
  -- what a bid of this round won, and its pool
  abbrev pub win_of : ℕ → ℕ
  win_of b = when eqb (get_or rounds b 0) round then get_or won b 0 else 0

  abbrev pub pool_of : ℕ → ℕ
  pool_of b = min (get_or pools b 0) 3

  unfoldable pub sold_counts : ℕ → List ℕ → List ℕ
  sold_counts zero counts = counts
  sold_counts (suc b) counts = transferred (sold_counts b counts) (pool_of b) (sold_at b) (win_of b)

  unfoldable pub sold_sums : List ℕ → ℕ → List ℕ → List ℕ
  sold_sums prices zero sums = sums
  sold_sums prices (suc b) sums = repriced (sold_sums prices b sums) (pool_of b) (win_of b) zero_price (get_or prices b 0)

unfoldable pub sell_units : Units → ℕ → ℕ → List ℕ → List ℕ → List ℕ → List ℕ → Units
sell_units u kept round rounds pools prices won =
    with_counts u (sold_counts round rounds pools won (min kept 256) u.counts) (sold_sums round rounds pools won prices (min kept 256) u.sums)

-- ---- ALLOCATE: each member gets its share of the open units of the pool, at the pool's new price

unfoldable pub shared_counts : ℕ → List ℕ → List ℕ → List ℕ → List ℕ
shared_counts pool shares [] counts = counts
shared_counts pool shares (m ∷ ms) counts = shared_counts pool shares ms (transferred counts pool (allocated_at pool m) (get_or shares m 0))

unfoldable pub shared_sums : ℕ → ℕ → List ℕ → List ℕ → List ℕ → List ℕ
shared_sums pool price shares [] sums = sums
shared_sums pool price shares (m ∷ ms) sums = shared_sums pool price shares ms (repriced sums pool (get_or shares m 0) zero_price price)

unfoldable pub allocate_units : Units → ℕ → ℕ → ℕ → List ℕ → Units
allocate_units u members' pool price shares =
    when ltb pool 4 then
    record {
      counts = shared_counts pool shares (members members') u.counts;
      sums = shared_sums pool price shares (members members') u.sums;
      allocation = set u.allocation pool price;
      noted = u.noted;
      buyers = u.buyers;
    }
    else u

-- ---- TEAR, MISS and SALE

-- all units of a place counted at another from now on, where their price is noted; `old` was their price. Where there is none, no price is noted
unfoldable pub noted_at : Units → ℕ → ℕ → ℕ → ℕ → Units
noted_at u k to old price =
    let n = get_or u.counts k 0 in
    record {
      counts = transferred u.counts k to n;
      sums = repriced u.sums (k % 4) n old price;
      allocation = u.allocation;
      noted = when eqb n 0 then u.noted else set u.noted (to - 516) price;
      buyers = u.buyers;
    }

-- TEAR: every open unit of the pool
unfoldable pub tear_units : Units → ℕ → ℕ → Units
tear_units u pool price = when ltb pool 4 then noted_at u pool (torn_at pool) zero_price price else u

-- MISS: every unit allocated or moved to the member, in the first n pools
unfoldable pub missed_to : ℕ → ℕ → ℕ → Units → Units
missed_to m price zero u = u
missed_to m price (suc pool) u =
    let v = missed_to m price pool u in
    noted_at (noted_at v (allocated_at pool m) (missed_at pool m) (get_or v.allocation pool 0) price) (moved_at pool m) (missed_moved_at pool m) zero_price price

unfoldable pub miss_units : Units → ℕ → ℕ → Units
miss_units u m price = when ltb m 32 then missed_to m price 4 u else u

-- SALE: every open unit of the pool sold to the member
abbrev pub with_buyer : Units → ℕ → ℕ → Units
with_buyer u pool m = record { counts = u.counts; sums = u.sums; allocation = u.allocation; noted = u.noted; buyers = set u.buyers pool m }

unfoldable pub sale_units : Units → ℕ → ℕ → ℕ → Units
sale_units u pool m price = when ltb pool 4 then noted_at (with_buyer u pool m) pool (agreed_at pool) zero_price price else u
