-- Document 02, C-17, "Reserves stay inside the house": "Two cases receive the same fields except for the reserves, all in range, and each bid is valid in one
-- exactly when it is valid in the other. Then every answer, every unit count, the requirement, every call on a member and every layer's total are alike in both,
-- for every list of calls. Ranks and the members' parts of the contribution layer may differ, because ΔP is measured from the reserve."
-- The premise is `SameButReserves`, what is then claimed of the machine `ReservesStayInside`, at the end; it is proved in proofs/Claims.antt.
use Rattle.std.specs.Prelude.{◌≡◌, Bool, true, ◌⊎◌, List, [], map, ℕ, ◌<◌, leb, ℤ, length, get_or, take}
use Rattle.std.proofs.Math.Option.{Option, none, some}
use Rattle.lists.specs.Lists.{all}
use Rattle.auction.specs.Price.{price_ok}
use Rattle.machine.specs.Wire.{ROUND, CLOSE, decode}
use Rattle.machine.specs.Roll.{Bid, no_bid}
use Rattle.machine.specs.State.{Round, Case, State, the_case, with_rounds, round_of, member_list, member_at}
use Rattle.machine.specs.Requirement.{owes}
use Rattle.machine.specs.Calls.{reserve, in_round}
use Rattle.machine.specs.Run.{Result, Observed, observed, run_from, run}
use Rattle.machine.specs.Running.{Kept, nothing_kept, kept_from, Reading, reading}

-- ---- the premise

-- two ROUNDs with as many reserves, "all in range". Range is asked where their number is that of the case's pools: any other ROUND is declined before its range is
-- looked at
pub record TwoRounds (pools : ℕ) (one other : List ℕ) : Type 0 where
  pub reserves : List ℕ
  pub others : List ℕ
  pub is_one : decode one ≡ some (ROUND reserves)
  pub is-other : decode other ≡ some (ROUND others)
  pub as_many : length reserves ≡ length others
  pub in-range : length reserves ≡ pools → (all price_ok reserves ≡ true) × (all price_ok others ≡ true)

-- "the same fields except for the reserves": the same bytes, or two such ROUNDs
abbrev pub SameField : Case → List ℕ → List ℕ → Type 0
SameField c one other = (one ≡ other) ⊎ TwoRounds c.head.pools one other

-- "a bid .. is valid if its price is at or above its pool's reserve", that of its own round
unfoldable pub valid : List Round → Bid → Bool
valid rounds b = leb (reserve rounds b.round b.pool) b.price

-- "each bid is valid in one exactly when it is valid in the other": each that both cases have, by its number, a withdrawn one too
abbrev pub SameValidity : Case → Case → Type 0
SameValidity c d =
    (i : ℕ) → i < length c.bids → i < length d.bids → valid c.rounds (get_or c.bids i no_bid) ≡ valid d.rounds (get_or d.bids i no_bid)

-- the case after the first k calls of a list
abbrev pub case_after : ℕ → List (List ℕ) → Case
case_after k calls = the_case (run_from none (take k calls))

-- as many calls, and after any number k of them the next field is the same but for reserves
pub record SameFields (calls others : List (List ℕ)) : Type 0 where
  pub as_many : length calls ≡ length others
  pub at : (k : ℕ) → k < length calls → SameField (case_after k calls) (get_or calls k []) (get_or others k [])

-- the premise: the same fields but for reserves, and after any number of calls the same bids are valid
pub record SameButReserves (calls others : List (List ℕ)) : Type 0 where
  pub fields : SameFields calls others
  pub bids : (k : ℕ) → SameValidity (case_after k calls) (case_after k others)

-- ---- what is seen outside the house

-- "every answer"
abbrev pub answers_to : List (List ℕ) → List ℕ
answers_to calls = map (λ (o : Observed). o.answer) (run calls)

-- "every layer's total": the loss, the six charges and the uncovered rest; and, in member order, what each member is charged on its payments
pub record Totals : Type 0 where
  pub loss : ℕ
  pub charges : List ℕ
  pub uncovered : ℕ
  pub on_payments : List ℕ

-- a result without the ranks and the parts of the contribution layer
unfoldable pub totals : Result → Totals
totals r = record { loss = r.loss; charges = r.charges; uncovered = r.uncovered; on_payments = map (λ x. x.on_payments) r.members }

-- the same, where there is a result
unfoldable pub totals_if : Option Result → Option Totals
totals_if none = none
totals_if (some r) = some (totals r)

pub record Outside : Type 0 where
  -- "every unit count": the five counts of each pool, and the units that a member holds in a pool at a price
  pub counts : List (List ℕ)
  pub holdings : ℕ → ℕ → ℕ → ℕ
  -- the sum of prices of the units not open, and the running sum of each pool (C-16)
  pub prices : ℤ
  pub sums : ℕ → ℤ
  -- "the requirement", as it is read (C-16)
  pub requirement : Reading
  -- "every call on a member", and what each owes, in member order
  pub called : List ℕ
  pub owed : List ℕ
  -- "every layer's total", after FINISH
  pub result : Option Totals

-- all that is observed but the answer, the ranks and the parts of the contribution layer, and beside it the running sums, the reading, the calls and the debts
unfoldable pub outside_of : Observed → (ℕ → ℤ) → Reading → List ℕ → List ℕ → Outside
outside_of o sums requirement called owed =
    record {
      counts = o.counts;
      holdings = o.holdings;
      prices = o.prices;
      sums = sums;
      requirement = requirement;
      called = called;
      owed = owed;
      result = totals_if o.result;
    }

-- what is seen of a state and of the running sums that are kept with it (0 stands for an answer, which is not taken)
unfoldable pub outside : Kept → Outside
outside k =
    let c = the_case k.state in
    let ms = member_list c.head in
    outside_of (observed 0 k.state) k.gone (reading k) (map (λ m. (member_at c.members m).called) ms) (map (owes c.members) ms)

-- ---- the claim

-- a case with the reserves of its rounds taken out
abbrev pub without_reserves : Case → Case
without_reserves c = with_rounds c (map (λ r. record { reserves = []; opened = r.opened }) c.rounds)

abbrev pub state_without : State → State
state_without none = none
state_without (some c) = some (without_reserves c)

-- two lists of calls that look the same from outside
pub record LookAlike (calls others : List (List ℕ)) : Type 0 where
  -- "every answer"
  pub answers : answers_to calls ≡ answers_to others
  -- after any number of calls all that is seen outside
  pub shown : (k : ℕ) → outside (kept_from nothing_kept (take k calls)) ≡ outside (kept_from nothing_kept (take k others))
  -- and the cases are the same, their reserves taken out: so is all that is read of them without these
  pub cases : (k : ℕ) → state_without (run_from none (take k calls)) ≡ state_without (run_from none (take k others))

abbrev pub ReservesStayInside : Type 0
ReservesStayInside = (calls others : List (List ℕ)) → SameButReserves calls others → LookAlike calls others

-- ---- the same from less

-- where a round is closed, the same bids of it that then stand are valid: nothing else is asked about bids. So a bid that was withdrawn tells nothing, and no bid does
-- before CLOSE
abbrev pub SameStanding : Case → Case → Type 0
SameStanding c d =
    (i : ℕ) → i < length c.bids → i < length d.bids → in_round (round_of c.stage) (get_or c.bids i no_bid) ≡ true
    → valid c.rounds (get_or c.bids i no_bid) ≡ valid d.rounds (get_or d.bids i no_bid)

pub record SameAtClose (calls others : List (List ℕ)) : Type 0 where
  pub fields : SameFields calls others
  pub bids : (k : ℕ) → decode (get_or calls k []) ≡ some CLOSE → SameStanding (case_after k calls) (case_after k others)

abbrev pub OnlyStandingTell : Type 0
OnlyStandingTell = (calls others : List (List ℕ)) → SameAtClose calls others → LookAlike calls others
