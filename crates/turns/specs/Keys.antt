-- The turns of MOVE: the units that may move are counted at the 384 places 4 to 387, which are numbered from 0 here, and each place has a key.
use Rattle.std.specs.Prelude.{List, [], ◌∷◌, ℕ, ◌+◌, ◌-◌, ◌*◌, ◌/◌, ◌%◌, min, ltb, eqb, get_or}
use Rattle.lists.specs.Lists.{when◌then◌else◌, tab}
use Rattle.auction.specs.Price.{negative}

-- ---- the keys by which units have their turn, the least first

-- the key of what may not move, above all others, and the least key of a sold unit
abbrev pub no_key : ℕ
no_key = 536_870_912

abbrev pub sold_keys : ℕ
sold_keys = 268_435_456

-- "Allocated units go first: lowest price, then higher pool, then higher member."
unfoldable pub allocated_key : ℕ → ℕ → ℕ → ℕ
allocated_key price pool m = when negative price then price * 256 + ((3 - pool) * 32 + (31 - m)) else no_key

-- "Sold units follow: lowest price, then later bid."
unfoldable pub sold_key : ℕ → ℕ → ℕ
sold_key price bid = when negative price then sold_keys + (price * 256 + (255 - bid)) else no_key

-- the key of the units at place j, from the prices of ALLOCATE and of the bids
unfoldable pub key_at : List ℕ → List ℕ → ℕ → ℕ
key_at allocation prices j =
    when ltb j 128 then allocated_key (get_or allocation (j % 4) 0) (j % 4) (j / 4) else sold_key (get_or prices (j - 128) 0) (j - 128)

-- the keys of the places that have units
abbrev pub live_key : ℕ → ℕ → ℕ
live_key n key = when eqb n 0 then no_key else key

unfoldable pub live_keys : List ℕ → List ℕ → List ℕ → List ℕ
live_keys allocation prices counts = tab 384 (λ j. live_key (get_or counts (4 + j) 0) (key_at allocation prices j))

-- the least of keys
unfoldable pub least_key : List ℕ → ℕ
least_key [] = no_key
least_key (x ∷ xs) = min x (least_key xs)

-- what a key tells: the place and the price of its units
unfoldable pub key_place : ℕ → ℕ
key_place key = when ltb key sold_keys then 4 * (31 - key % 256 % 32) + (3 - key % 256 / 32) else 383 - key % 256

unfoldable pub key_price : ℕ → ℕ
key_price key = key / 256 % 1_048_576

-- so many units at one saving are needed to save what is owed
unfoldable pub needed : ℕ → ℕ → ℕ
needed owed saving = 1 + (owed - 1) / saving
