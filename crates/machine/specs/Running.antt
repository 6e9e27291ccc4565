-- Document 02, C-16: "the case shall keep a running sum of the prices of units that have left the house (all that aren't open). The requirement is then
-- read from this sum and the two losses alone; with no case the reading is declined by 2." The sum is kept by pool, in cents, with its sign.
use Rattle.std.specs.Prelude.{Bool, ◌&&◌, not, List, [], ◌∷◌, map, ℕ, zero, suc, ◌+◌, ◌-◌, ◌*◌, min, eqb, ℤ, pos, ◌+ℤ◌, ◌-ℤ◌, length, set}
use Rattle.std.proofs.Math.Option.{Option, none, some}
use Rattle.std.proofs.Math.IntN.{sub_ℕ}
use Rattle.lists.specs.Lists.{when◌then◌else◌, sum, count, keep}
use Rattle.auction.specs.Price.{zero_price, sum_cents, at_least0}
use Rattle.machine.specs.Wire.{Call, HEAD, POOL, MEMBER, ROUND, BID, CLOSE, ALLOCATE, TEAR, CALL, PAY, MOVE, MISS, FINISH, SALE, WITHDRAW, decode}
use Rattle.machine.specs.Roll.{Entry, Bid, Moved, with_state, is_open, price_of, passed_to, open_units}
use Rattle.machine.specs.State.{Case, State, the_case, round_of}
use Rattle.machine.specs.Requirement.{owes}
use Rattle.machine.specs.Move.{next_from}
use Rattle.machine.specs.Calls.{in_auction, bids_after, total_shortfall}
use Rattle.machine.specs.Machine.{step}

-- ---- "the full addition over the roll", by pool

-- whether an entry is a unit of the pool that has left the house: one that isn't open
abbrev pub left_in : ℕ → Entry → Bool
left_in pool e = not (is_open e) && eqb e.pool pool

-- the prices of the units of a pool that have left the house
unfoldable pub left_prices : List Bid → List Entry → ℕ → List ℕ
left_prices bids roll pool = map (λ e. price_of bids e.state) (keep (left_in pool) roll)

-- their sum, in cents
unfoldable pub left_sum : Case → ℕ → ℤ
left_sum c pool = sum_cents (left_prices c.bids c.roll pool)

-- ---- what each call adds

-- the cents of n units whose prices, as they are held, add up to `total`
unfoldable pub in_cents : ℕ → ℕ → ℤ
in_cents n total = sub_ℕ total (zero_price * n)

-- ALLOCATE, TEAR, SALE: n units of a pool at one price, and nothing in another pool
unfoldable pub at_price : ℕ → ℕ → ℕ → ℕ → ℤ
at_price pool n price p = when eqb pool p then in_cents n (n * price) else pos 0

-- CLOSE: what the bids of this round in the pool won, at their prices
unfoldable pub sold_for : ℕ → List Bid → ℕ → ℤ
sold_for round bids pool =
    let bs = keep (in_auction round pool) bids in
    in_cents (sum (map (λ b. b.won) bs)) (sum (map (λ b. b.won * b.price) bs))

-- MOVE: what the units of the pool that pass have saved, one by one as `move_units` moves them
unfoldable pub saved_in : ℕ → ℕ → List Bid → ℕ → ℕ → List Entry → ℕ
saved_in pool zero bids m owed roll = 0
saved_in pool (suc k) bids m owed roll = elim (when eqb owed 0 then none else next_from bids 0 roll none) [
  | none ↦ 0
  | some x ↦
      let saved = zero_price - price_of bids x.entry.state in
      (when eqb x.entry.pool pool then saved else 0) + saved_in pool k bids m (owed - saved) (set roll x.place (with_state x.entry (Moved m)))
]

-- MISS: the units of the pool that become torn, each at the new price instead of its old one
abbrev pub missed_in : ℕ → ℕ → Entry → Bool
missed_in m pool e = passed_to m e.state && eqb e.pool pool

unfoldable pub torn_for : List Bid → ℕ → ℕ → List Entry → ℕ → ℤ
torn_for bids m price roll pool =
    sub_ℕ (count (missed_in m pool) roll * price) (sum (map (λ e. price_of bids e.state) (keep (missed_in m pool) roll)))

-- what an accepted call adds to the running sum of a pool
unfoldable pub added : Case → Call → ℕ → ℤ
added c (HEAD h) p = pos 0
added c (POOL pool units mark) p = pos 0
added c (MEMBER m contribution expected) p = pos 0
added c (ROUND reserves) p = pos 0
added c (BID pool m units price) p = pos 0
added c CLOSE p = sold_for (round_of c.stage) (bids_after c (round_of c.stage)) p
added c (ALLOCATE pool price) p = at_price pool (min (open_units c.roll pool) (total_shortfall c pool)) price p
added c (TEAR pool price) p = at_price pool (open_units c.roll pool) price p
added c CALL p = pos 0
added c (PAY m amount) p = pos 0
added c (MOVE m) p = pos (saved_in p (length c.roll) c.bids m (owes c.members m) c.roll)
added c (MISS m price) p = torn_for c.bids m price c.roll p
added c FINISH p = pos 0
added c (SALE pool m price) p = at_price pool (open_units c.roll pool) price p
added c (WITHDRAW m n) p = pos 0

-- ---- any bytes

-- a state, and the running sums that are kept with it, by pool
pub record Kept : Type 0 where
  pub state : State
  pub gone : ℕ → ℤ

-- no case, and nothing gone
abbrev pub nothing_kept : Kept
nothing_kept = record { state = none; gone = λ pool. pos 0 }

unfoldable pub added_by : Case → Option Call → ℕ → ℤ
added_by c none pool = pos 0
added_by c (some call) pool = added c call pool

-- an accepted call adds what it changes; a refused one leaves the sums as they were
unfoldable pub kept_step : Kept → List ℕ → Kept
kept_step k bytes =
    let next = step k.state bytes in
    record {
      state = next.state;
      gone = λ pool. when eqb next.answer 0 then k.gone pool +ℤ added_by (the_case k.state) (decode bytes) pool else k.gone pool;
    }

unfoldable pub kept_from : Kept → List (List ℕ) → Kept
kept_from k [] = k
kept_from k (bytes ∷ calls) = kept_from (kept_step k bytes) calls

-- ---- the reading

-- an answer and a number of cents
abbrev pub Reading : Type 0
Reading = ℕ × ℕ

-- the sums of the four pools, added up
abbrev pub over_pools : (ℕ → ℤ) → ℤ
over_pools gone = gone 0 +ℤ gone 1 +ℤ gone 2 +ℤ gone 3

-- "read from this sum and the two losses alone; with no case the reading is declined by 2": hedge loss + other loss − the sum, at least 0
unfoldable pub read_from : State → ℤ → Reading
read_from none gone = (2, 0)
read_from (some c) gone = (0, at_least0 (pos (c.head.hedge_loss + c.head.other_loss) -ℤ gone))

unfoldable pub reading : Kept → Reading
reading k = read_from k.state (over_pools k.gone)
