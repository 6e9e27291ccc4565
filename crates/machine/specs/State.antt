-- Document 01, "The unit roll": "Beside the roll it keeps the stage, the accepted fields, the pools with open units at each ROUND, each bid's
-- units won, and each member's units ever allocated by pool, its call, its payments and whether it had a MOVE."
use Rattle.std.specs.Prelude.{Bool, true, false, ◌&&◌, List, [], ℕ, eqb, get_or, replicate}
use Rattle.std.proofs.Math.Option.{Option, none, some}
use Rattle.sets.specs.Set.{member, members}
use Rattle.machine.specs.Wire.{Head}
use Rattle.machine.specs.Roll.{Entry, Bid}

-- "S setup, B bidding, A after a round (B and A in round 1 or 2), C calls out, F finished"
pub data Stage : Type 0 where
  Setup : Stage
  Bidding : (round : ℕ) → Stage
  After : (round : ℕ) → Stage
  CallsOut : Stage
  Finished : Stage

-- an accepted POOL
pub record Pool : Type 0 where
  pub units : ℕ
  pub mark : ℕ

-- a member: its MEMBER, if given, and "units ever allocated by pool, its call, its payments and whether it had a MOVE"
pub record Member : Type 0 where
  pub given : Bool
  pub contribution : ℕ
  pub expected : List ℕ
  pub allocated : List ℕ
  pub called : ℕ
  pub paid : ℕ
  pub moved : Bool

-- an accepted ROUND, and "the pools with open units at each ROUND"
pub record Round : Type 0 where
  pub reserves : List ℕ
  pub opened : List Bool

-- the case: `members` has 32 places, place m for member m
pub record Case : Type 0 where
  pub stage : Stage
  pub head : Head
  pub pools : List Pool
  pub members : List Member
  pub rounds : List Round
  pub bids : List Bid
  pub roll : List Entry

-- "The roll's machine .. begins with no case and no entry": none is no case
abbrev pub State : Type 0
State = Option Case

-- what stands for a HEAD, a pool, a member or a round that is not there
abbrev pub no_head : Head
no_head = record { pools = 0; least_bid = 0; set = 0; hedge_loss = 0; other_loss = 0; margin = 0; fund = 0; house = 0 }

abbrev pub no_pool : Pool
no_pool = record { units = 0; mark = 0 }

abbrev pub no_member : Member
no_member = record { given = false; contribution = 0; expected = replicate 4 0; allocated = replicate 4 0; called = 0; paid = 0; moved = false }

abbrev pub no_round : Round
no_round = record { reserves = []; opened = [] }

-- the case that HEAD makes
abbrev pub new_case : Head → Case
new_case h = record { stage = Setup; head = h; pools = []; members = replicate 32 no_member; rounds = []; bids = []; roll = [] }

-- the case held, or one with nothing in it where there is none
abbrev pub the_case : State → Case
the_case (some c) = c
the_case none = new_case no_head

-- ---- the stage

-- the round that a stage belongs to; 0 for a stage outside the rounds
unfoldable pub round_of : Stage → ℕ
round_of Setup = 0
round_of (Bidding round) = round
round_of (After round) = round
round_of CallsOut = 0
round_of Finished = 0

-- the letter of a stage: S 1, B 2, A 3, C 4, F 5
unfoldable pub letter : Stage → ℕ
letter Setup = 1
letter (Bidding round) = 2
letter (After round) = 3
letter CallsOut = 4
letter Finished = 5

-- the same of a state, and 0 where there is no case
unfoldable pub letter_of : State → ℕ
letter_of none = 0
letter_of (some c) = letter c.stage

abbrev pub no_case : State → Bool
no_case s = eqb (letter_of s) 0

abbrev pub is_s : State → Bool
is_s s = eqb (letter_of s) 1

abbrev pub is_b : State → Bool
is_b s = eqb (letter_of s) 2

abbrev pub is_a : State → Bool
is_a s = eqb (letter_of s) 3

-- A of round 1
abbrev pub is_a1 : State → Bool
is_a1 s = is_a s && eqb (round_of (the_case s).stage) 1

abbrev pub is_c : State → Bool
is_c s = eqb (letter_of s) 4

abbrev pub is_f : State → Bool
is_f s = eqb (letter_of s) 5

-- ---- a case or a member with one part changed

abbrev pub with_stage : Case → Stage → Case
with_stage c v = record { stage = v; head = c.head; pools = c.pools; members = c.members; rounds = c.rounds; bids = c.bids; roll = c.roll }

abbrev pub with_pools : Case → List Pool → Case
with_pools c v = record { stage = c.stage; head = c.head; pools = v; members = c.members; rounds = c.rounds; bids = c.bids; roll = c.roll }

abbrev pub with_members : Case → List Member → Case
with_members c v = record { stage = c.stage; head = c.head; pools = c.pools; members = v; rounds = c.rounds; bids = c.bids; roll = c.roll }

abbrev pub with_rounds : Case → List Round → Case
with_rounds c v = record { stage = c.stage; head = c.head; pools = c.pools; members = c.members; rounds = v; bids = c.bids; roll = c.roll }

abbrev pub with_bids : Case → List Bid → Case
with_bids c v = record { stage = c.stage; head = c.head; pools = c.pools; members = c.members; rounds = c.rounds; bids = v; roll = c.roll }

abbrev pub with_roll : Case → List Entry → Case
with_roll c v = record { stage = c.stage; head = c.head; pools = c.pools; members = c.members; rounds = c.rounds; bids = c.bids; roll = v }

abbrev pub with_allocated : Member → List ℕ → Member
with_allocated x v = record { given = x.given; contribution = x.contribution; expected = x.expected; allocated = v; called = x.called; paid = x.paid; moved = x.moved }

abbrev pub with_called : Member → ℕ → Member
with_called x v = record { given = x.given; contribution = x.contribution; expected = x.expected; allocated = x.allocated; called = v; paid = x.paid; moved = x.moved }

abbrev pub with_paid : Member → ℕ → Member
with_paid x v = record { given = x.given; contribution = x.contribution; expected = x.expected; allocated = x.allocated; called = x.called; paid = v; moved = x.moved }

abbrev pub with_moved : Member → Member
with_moved x = record { given = x.given; contribution = x.contribution; expected = x.expected; allocated = x.allocated; called = x.called; paid = x.paid; moved = true }

-- ---- the members

-- whether m is a member of the case
abbrev pub in_set : Head → ℕ → Bool
in_set h m = member h.set m

-- the members of the case, in member order
abbrev pub member_list : Head → List ℕ
member_list h = members h.set

-- what is kept of member m
unfoldable pub member_at : List Member → ℕ → Member
member_at ms m = get_or ms m no_member
