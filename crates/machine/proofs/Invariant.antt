-- What holds of the case after every list of calls (`Reached.reached`), by the part of the case that it is about. Each group is a claim about the parts that
-- it names and nothing else, so that a call that leaves these alone keeps it as it stands.
use mathlib.Core.Path.{◌≡◌}
use mathlib.Core.Bool.{Bool, true, false, ◌||◌}
use mathlib.Core.Logic.{◌⊎◌}
use mathlib.Core.List.{List, [], ◌∷◌, ◌++◌, map}
use Prim.Native.Nat.{ℕ, suc, ◌-◌, ◌≤◌, ◌<◌}
use lib.Dec.{eqb, ltb}
use lib.ListN.{length, get_or, replicate}
use Rattle.lists.specs.Lists.{count, tab}
use Rattle.lists.proofs.Each.{Each}
use Rattle.auction.specs.Price.{price_limit}
use Rattle.machine.specs.Wire.{Head}
use Rattle.machine.specs.Roll.{UnitState, Open, Sold, Allocated, Moved, Torn, Agreed, Entry, Bid, no_bid, is_open, is_agreed, open_units}
use Rattle.machine.specs.State.{Stage, Setup, Bidding, After, CallsOut, Finished, Pool, Member, Round, Case, no_member, no_round, in_set, member_at, letter, round_of}
use Rattle.machine.specs.Calls.{reserve}
use Rattle.machine.proofs.RollChanges.{taken, sold_to}
use Rattle.machine.proofs.Giving.{won_where}

-- ---- HEAD and the stage

pub record HeadOk (h : Head) : Type 0 where
  pub pools-some : 1 ≤ h.pools
  pub pools-most : h.pools ≤ 4
  pub least-some : 1 ≤ h.least_bid
  pub least-most : h.least_bid ≤ 1000
  pub set-some : 0 < h.set
  pub hedge : h.hedge_loss ≤ 2_000_000_000
  pub other : h.other_loss ≤ 2_000_000_000
  pub margin : h.margin ≤ 4_000_000_000
  pub fund : h.fund ≤ 500_000_000
  pub house : h.house ≤ 4_000_000_000

-- the stage and the number of rounds so far, at most two. Where the last open pool is sold by agreement, A1 has none (document 02, C-12)
abbrev pub StageOk : Stage → ℕ → Type 0
StageOk Setup n = n ≡ 0
StageOk (Bidding r) n = (n ≡ r) × (1 ≤ r) × (r ≤ 2)
StageOk (After r) n = ((n ≡ r) ⊎ ((n ≡ 0) × (r ≡ 1))) × (1 ≤ r) × (r ≤ 2)
StageOk CallsOut n = n ≤ 2
StageOk Finished n = n ≤ 2

-- ---- pools and members

abbrev pub PoolOk : Pool → Type 0
PoolOk x = (1 ≤ x.units) × (x.units ≤ 1000) × (x.mark ≤ 1)

pub record PoolsOk (h : Head) (s : Stage) (pools : List Pool) : Type 0 where
  pub few : length pools ≤ h.pools
  pub each : Each PoolOk pools
  -- all are given once a round has begun
  pub complete : 2 ≤ letter s → length pools ≡ h.pools

pub record MemberOk (h : Head) (x : Member) : Type 0 where
  pub expected4 : length x.expected ≡ 4
  pub allocated4 : length x.allocated ≡ 4
  pub expected-most : (pool : ℕ) → get_or x.expected pool 0 ≤ 1000
  pub expected-lacks : (pool : ℕ) → h.pools ≤ pool → get_or x.expected pool 0 ≡ 0
  pub allocated-most : (pool : ℕ) → get_or x.allocated pool 0 ≤ get_or x.expected pool 0
  pub paid-most : x.paid ≤ x.called
  pub called-most : x.called ≤ x.contribution
  pub contribution-most : x.contribution ≤ 500_000_000
  -- who is not given has nothing
  pub absent : x.given ≡ false → x ≡ no_member

abbrev pub Uncalled : Member → Type 0
Uncalled x = (x.called ≡ 0) × (x.paid ≡ 0) × (x.moved ≡ false)

pub record MembersOk (h : Head) (s : Stage) (ms : List Member) : Type 0 where
  pub all32 : length ms ≡ 32
  pub each : Each (MemberOk h) ms
  -- nobody is called before CALL
  pub uncalled : letter s < 4 → Each Uncalled ms
  -- only members of the set are given
  pub given-in-set : (m : ℕ) → (member_at ms m).given ≡ true → in_set h m ≡ true
  -- all of them are given once a round has begun
  pub complete : 2 ≤ letter s → (m : ℕ) → m < 32 → in_set h m ≡ true → (member_at ms m).given ≡ true

-- ---- rounds and bids

pub record RoundOk (h : Head) (r : Round) : Type 0 where
  pub reserves-all : length r.reserves ≡ h.pools
  pub opened-all : length r.opened ≡ h.pools
  pub prices : Each (λ price. price ≤ price_limit) r.reserves

pub record BidOk (h : Head) (rounds : ℕ) (b : Bid) : Type 0 where
  pub first : 1 ≤ b.round
  pub round : b.round ≤ rounds
  pub pool : b.pool < h.pools
  pub member : in_set h b.member ≡ true
  pub least : h.least_bid ≤ b.units
  pub some : 1 ≤ b.units
  pub most : b.units ≤ 1000
  pub price : b.price ≤ price_limit
  pub won : b.won ≤ b.units

pub record BidsOk (h : Head) (rounds : ℕ) (bids : List Bid) : Type 0 where
  pub few : length bids ≤ 256
  pub each : Each (BidOk h rounds) bids

-- ---- the roll

-- the pools of the roll's entries: 0 for each unit of pool 0, then 1 for each of pool 1, ..
unfoldable pub laid : ℕ → List Pool → List ℕ
laid i [] = []
laid i (x ∷ xs) = replicate x.units i ++ laid (suc i) xs

-- an entry of a pool
abbrev pub EntryOk : Head → List Bid → ℕ → UnitState → Type 0
EntryOk h bids pool Open = Unit {0}
EntryOk h bids pool (Sold b) = (b < length bids) × ((get_or bids b no_bid).pool ≡ pool)
EntryOk h bids pool (Allocated m price) = (in_set h m ≡ true) × (price ≤ price_limit)
EntryOk h bids pool (Moved m) = in_set h m ≡ true
EntryOk h bids pool (Torn price) = price ≤ price_limit
EntryOk h bids pool (Agreed m price) = (in_set h m ≡ true) × (price ≤ price_limit)

pub record RollOk (h : Head) (pools : List Pool) (bids : List Bid) (roll : List Entry) : Type 0 where
  pub order : map (λ e. e.pool) roll ≡ laid 0 pools
  pub each : Each (λ e. EntryOk h bids e.pool e.state) roll

-- ---- units won

abbrev pub of_pool : ℕ → Bid → Bool
of_pool pool b = eqb b.pool pool

-- a bid that won: its pool had open units at its ROUND, and its price is at or above the reserve
abbrev pub ReserveOk : List Round → Bid → Type 0
ReserveOk rounds b =
    0 < b.won →
    (get_or (get_or rounds (b.round - 1) no_round).opened b.pool false ≡ true) × (reserve rounds b.round b.pool ≤ b.price)

pub record WonOk (s : Stage) (rounds : List Round) (bids : List Bid) (roll : List Entry) : Type 0 where
  -- the units won in a pool are entries of it that are not open
  pub total : (pool : ℕ) → won_where (of_pool pool) bids ≤ taken pool roll
  pub reserves : Each (ReserveOk rounds) bids
  -- while bids are taken, those of this round have won nothing yet
  pub unsold : letter s ≡ 2 → Each (λ b. b.round ≡ round_of s → b.won ≡ 0) bids
  -- a bid has at most as many entries as it won
  pub sold : (b : ℕ) → count (sold_to b) roll ≤ (get_or bids b no_bid).won
  -- a bid that was taken back has won nothing (document 02, C-14)
  pub withdrawn : Each (λ b. b.stands ≡ false → b.won ≡ 0) bids

-- ---- open units

pub record OpenOk (s : Stage) (h : Head) (rounds : List Round) (roll : List Entry) : Type 0 where
  -- while bids are taken, the pools open at the ROUND are those open now
  pub opened : letter s ≡ 2 → (get_or rounds (round_of s - 1) no_round).opened ≡ tab h.pools (λ pool. ltb 0 (open_units roll pool))
  -- none is open once calls are out or the case is finished
  pub none : 4 ≤ letter s → (pool : ℕ) → open_units roll pool ≡ 0
  -- in S every unit is open or sold by agreement (document 02, C-12)
  pub setup : letter s ≡ 1 → Each (λ e. (is_open e || is_agreed e.state) ≡ true) roll
  -- none is open in A without a round, after the last SALE
  pub sold-out : letter s ≡ 3 → length rounds ≡ 0 → (pool : ℕ) → open_units roll pool ≡ 0

-- ---- the case

pub record CaseOk (c : Case) : Type 0 where
  pub head : HeadOk c.head
  pub stage : StageOk c.stage (length c.rounds)
  pub pools : PoolsOk c.head c.stage c.pools
  pub members : MembersOk c.head c.stage c.members
  pub rounds : Each (RoundOk c.head) c.rounds
  pub bids : BidsOk c.head (length c.rounds) c.bids
  pub roll : RollOk c.head c.pools c.bids c.roll
  pub won : WonOk c.stage c.rounds c.bids c.roll
  pub units : OpenOk c.stage c.head c.rounds c.roll
