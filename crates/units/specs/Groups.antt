-- MOVE by groups: the units of one place that have their turn, moved at once. Units move from the 384 places 4 to 387, which are numbered from 0 here.
use Rattle.std.specs.Prelude.{true, false, ◌||◌, List, ℕ, zero, suc, ◌+◌, ◌-◌, ◌*◌, ◌%◌, min, leb, ltb, eqb, get_or, set}
use Rattle.lists.specs.Lists.{when◌then◌else◌}
use Rattle.auction.specs.Price.{zero_price}
use Rattle.turns.specs.Keys.{no_key, live_keys, least_key, key_place, key_price, needed}
use Rattle.units.specs.Places.{moved_at}
use Rattle.units.specs.Steps.{transferred, repriced, with_counts}
use Rattle.units.specs.declared.Units.{Units}

-- the pool of the units at place j; the pools of the bids are given
unfoldable pub pool_at : List ℕ → ℕ → ℕ
pool_at pools j = when ltb j 128 then j % 4 else min (get_or pools (j - 128) 0) 3

-- ---- the turns

-- what is counted, and the sums of prices
pub record Passed : Type 0 where
  pub counts : List ℕ
  pub sums : List ℕ

module _ (pools : List ℕ) (m : ℕ) where
  -- after at most g turns
  unfoldable pub pass_groups : ℕ → ℕ → List ℕ → List ℕ → List ℕ → Passed
  pass_groups zero owed keys counts sums = record { counts = counts; sums = sums }
  pass_groups (suc g) owed keys counts sums =
      let key = least_key keys in
      let j = key_place key in
      let pool = pool_at pools j in
      let saving = zero_price - key_price key in
      let n = min (get_or counts (4 + j) 0) (needed owed saving) in
      elim (eqb owed 0 || leb no_key key) [
        | true ↦ record { counts = counts; sums = sums }
        | false ↦ pass_groups g (owed - n * saving) (set keys j no_key) (transferred counts (4 + j) (moved_at pool m) n) (repriced sums pool n (key_price key) zero_price)
      ]

-- the units after MOVE
unfoldable pub move_units : Units → List ℕ → List ℕ → ℕ → ℕ → Units
move_units u prices pools m owed =
    let r = pass_groups pools m 384 owed (live_keys u.allocation prices u.counts) u.counts u.sums in
    with_counts u r.counts r.sums
