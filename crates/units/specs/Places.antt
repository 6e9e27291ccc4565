-- The units of a case are counted at 780 places, each for units that are alike, and what it means that they are the counts of a roll.
use Rattle.std.specs.Prelude.{◌≡◌, List, map, ℕ, ◌+◌, ◌-◌, ◌*◌, ◌/◌, ◌%◌, ltb, get_or}
use Rattle.lists.specs.Lists.{when◌then◌else◌, sum, sum_to}
use Rattle.machine.specs.Roll.{Entry, Open, Sold, Allocated, Moved, Torn, Agreed, Bid, no_bid}

-- ---- the places. What belongs to member m in pool p stands 4 × m + p places behind the first of its kind

-- the open units of a pool stand at the pool's number; the units allocated to a member, sold to a bid, moved to a member
abbrev pub allocated_at : ℕ → ℕ → ℕ
allocated_at pool m = 4 + (4 * m + pool)

abbrev pub sold_at : ℕ → ℕ
sold_at bid = 132 + bid

abbrev pub moved_at : ℕ → ℕ → ℕ
moved_at pool m = 388 + (4 * m + pool)

-- units torn up stand at a place of their own for each place that they came from: open and allocated ones 516 places behind it, moved ones 260. No place
-- is used twice
abbrev pub torn_at : ℕ → ℕ
torn_at pool = 516 + pool

abbrev pub missed_at : ℕ → ℕ → ℕ
missed_at pool m = 520 + (4 * m + pool)

abbrev pub missed_moved_at : ℕ → ℕ → ℕ
missed_moved_at pool m = 648 + (4 * m + pool)

-- the units of a pool sold by agreement (document 02, C-12)
abbrev pub agreed_at : ℕ → ℕ
agreed_at pool = 776 + pool

-- the entry that is counted at a place, by the price of each pool's ALLOCATE, the prices noted for the places from 516 on, the member to whom each pool was
-- sold by agreement, and the bids
unfoldable pub unit_at : List ℕ → List ℕ → List ℕ → List Bid → ℕ → Entry
unit_at allocation noted buyers bids k =
    when ltb k 4 then record { pool = k; state = Open }
    else when ltb k 132 then record { pool = k % 4; state = Allocated ((k - 4) / 4) (get_or allocation (k % 4) 0) }
    else when ltb k 388 then record { pool = (get_or bids (k - 132) no_bid).pool; state = Sold (k - 132) }
    else when ltb k 516 then record { pool = k % 4; state = Moved ((k - 388) / 4) }
    else when ltb k 776 then record { pool = k % 4; state = Torn (get_or noted (k - 516) 0) }
    else record { pool = k % 4; state = Agreed (get_or buyers (k % 4) 0) (get_or noted (k - 516) 0) }

-- ---- sums over all units

-- the sum of f over the entries of a roll
abbrev pub over : List Entry → (Entry → ℕ) → ℕ
over roll f = sum (map f roll)

-- the sum of v over the places, each times the units counted there
unfoldable pub weigh : List ℕ → (ℕ → ℕ) → ℕ
weigh counts v = sum_to 780 (λ k. get_or counts k 0 * v k)

-- the counts are those of the roll: whatever is added up over its entries can be added up over the counts
pub record Counted (counts : List ℕ) (unit : ℕ → Entry) (roll : List Entry) : Type 0 where
  pub all : (f : Entry → ℕ) → over roll f ≡ weigh counts (λ k. f (unit k))
