-- Document 01, "The unit roll": the entries, and how calls change them.
use Rattle.std.specs.Prelude.{Bool, true, false, ◌&&◌, not, List, ◌++◌, map, ℕ, eqb, get_or, replicate}
use Rattle.lists.specs.Lists.{when◌then◌else◌, count, any, keep, change_first}
use Rattle.auction.specs.Price.{zero_price}

-- "A pool of N units has N entries, each open, sold (bid), allocated (member, price), moved (member) or torn (price)." Document 02,
-- C-12: "The roll gains the entry sold by agreement" (member, price)
pub data UnitState : Type 0 where
  Open : UnitState
  Sold : (bid : ℕ) → UnitState
  Allocated : (member price : ℕ) → UnitState
  Moved : (member : ℕ) → UnitState
  Torn : (price : ℕ) → UnitState
  Agreed : (member price : ℕ) → UnitState

-- an entry of the roll. The roll is one list, the units of pool 0 first
pub record Entry : Type 0 where
  pub pool : ℕ
  pub state : UnitState

-- an accepted BID with its round, and the "bid's units won". Document 02, C-14: "A bid record in the case now says whether it stands"
pub record Bid : Type 0 where
  pub round : ℕ
  pub pool : ℕ
  pub member : ℕ
  pub units : ℕ
  pub price : ℕ
  pub won : ℕ
  pub stands : Bool

-- what stands for a bid that is not there
abbrev pub no_bid : Bid
no_bid = record { round = 0; pool = 0; member = 0; units = 0; price = 0; won = 0; stands = false }

-- a bid that won v units
abbrev pub with_won : Bid → ℕ → Bid
with_won b v = record { round = b.round; pool = b.pool; member = b.member; units = b.units; price = b.price; won = v; stands = b.stands }

-- a bid that was withdrawn
abbrev pub withdrawn : Bid → Bid
withdrawn b = record { round = b.round; pool = b.pool; member = b.member; units = b.units; price = b.price; won = b.won; stands = false }

-- an entry in another state
abbrev pub with_state : Entry → UnitState → Entry
with_state e v = record { pool = e.pool; state = v }

-- ---- what an entry is

-- the five kinds of entry, in the order of the p line: open, sold, allocated, moved, torn. C-12: "the entry sold by agreement, counted as sold"
unfoldable pub kind : UnitState → ℕ
kind Open = 0
kind (Sold bid) = 1
kind (Allocated m price) = 2
kind (Moved m) = 3
kind (Torn price) = 4
kind (Agreed m price) = 1

-- whether an entry is sold by agreement
unfoldable pub is_agreed : UnitState → Bool
is_agreed Open = false
is_agreed (Sold bid) = false
is_agreed (Allocated m price) = false
is_agreed (Moved m) = false
is_agreed (Torn price) = false
is_agreed (Agreed m price) = true

-- whether an entry is open
unfoldable pub is_open : Entry → Bool
is_open e = eqb (kind e.state) 0

-- whether it is an open one of a pool
unfoldable pub open_in : ℕ → Entry → Bool
open_in pool e = is_open e && eqb e.pool pool

-- "A sold entry has its bid's price, a moved one 0." (An open one has none.)
unfoldable pub price_of : List Bid → UnitState → ℕ
price_of bids Open = zero_price
price_of bids (Sold bid) = (get_or bids bid no_bid).price
price_of bids (Allocated m price) = price
price_of bids (Moved m) = zero_price
price_of bids (Torn price) = price
price_of bids (Agreed m price) = price

-- whether an entry is held by a member: "units sold to its bids, allocated or moved to it". C-12: the entry sold by agreement
-- is "among its member's holdings"
unfoldable pub held_by : List Bid → ℕ → UnitState → Bool
held_by bids m Open = false
held_by bids m (Sold bid) = eqb (get_or bids bid no_bid).member m
held_by bids m (Allocated a price) = eqb a m
held_by bids m (Moved a) = eqb a m
held_by bids m (Torn price) = false
held_by bids m (Agreed a price) = eqb a m

-- "allocated or moved to the member"
unfoldable pub passed_to : ℕ → UnitState → Bool
passed_to m Open = false
passed_to m (Sold bid) = false
passed_to m (Allocated a price) = eqb a m
passed_to m (Moved a) = eqb a m
passed_to m (Torn price) = false
passed_to m (Agreed a price) = false

-- ---- how entries change

-- "POOL, accepted, makes N open: the units put up."
unfoldable pub put_up : ℕ → ℕ → List Entry → List Entry
put_up pool n roll = roll ++ replicate n (record { pool = pool; state = Open })

-- "the lowest open entries" of a pool, n of them, changed to a state
unfoldable pub give_lowest : ℕ → UnitState → ℕ → List Entry → List Entry
give_lowest pool state n roll = change_first (open_in pool) (λ e. with_state e state) n roll

-- an entry changed to a state, if it passes the test
abbrev pub changed_if : (Entry → Bool) → UnitState → Entry → Entry
changed_if p state e = when p e then with_state e state else e

-- an entry torn up at a price, if it passes the test
abbrev pub torn_if : (Entry → Bool) → ℕ → Entry → Entry
torn_if p price = changed_if p (Torn price)

-- ---- what is counted

-- the open units of a pool
unfoldable pub open_units : List Entry → ℕ → ℕ
open_units roll pool = count (open_in pool) roll

-- whether any unit is open
unfoldable pub any_open : List Entry → Bool
any_open roll = any is_open roll

-- "the prices of all units not open"
unfoldable pub prices : List Bid → List Entry → List ℕ
prices bids roll = map (λ e. price_of bids e.state) (keep (λ e. not (is_open e)) roll)

-- ---- sold by agreement

-- C-12: "the prices of all units so sold"
unfoldable pub agreed_prices : List Bid → List Entry → List ℕ
agreed_prices bids roll = map (λ e. price_of bids e.state) (keep (λ e. is_agreed e.state) roll)

-- whether an entry is a unit of the pool that is sold by agreement
abbrev pub agreed_in : ℕ → Entry → Bool
agreed_in pool e = is_agreed e.state && eqb e.pool pool

-- C-12: "a pool so sold". Its units stay as they are for good (`agreed-stay`)
unfoldable pub sold_by_agreement : List Entry → ℕ → Bool
sold_by_agreement roll pool = any (agreed_in pool) roll
