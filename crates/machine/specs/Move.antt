-- Document 01, "MOVE": "units pass to the member at price 0, one by one, until their old prices together have saved what it owes, or no
-- allocated or sold unit with a negative price is left; only such units move, in pools of either mark."
use Rattle.std.specs.Prelude.{Bool, true, false, ◌&&◌, ◌||◌, not, List, [], ◌∷◌, ℕ, zero, suc, ◌-◌, ltb, eqb, length, get_or, set}
use Rattle.std.proofs.Math.Option.{Option, none, some}
use Rattle.lists.specs.Lists.{when◌then◌else◌}
use Rattle.auction.specs.Price.{zero_price, negative}
use Rattle.machine.specs.Roll.{Bid, Entry, Open, Sold, Allocated, Moved, Torn, Agreed, no_bid, with_state, price_of, kind, is_agreed}

-- an "allocated or sold unit with a negative price". Document 02, C-12: a unit sold by agreement is "never moved: MOVE passes over it and ends as if it
-- weren't there"
unfoldable pub may_move : List Bid → Entry → Bool
may_move bids e =
    (eqb (kind e.state) 1 || eqb (kind e.state) 2) && not (is_agreed e.state) && negative (price_of bids e.state)

-- its turn, a list of numbers, of which the lower goes first: "Allocated units go first: lowest price, then higher pool, then higher
-- member. Sold units follow: lowest price, then later bid."
unfoldable pub turn : List Bid → Entry → List ℕ
turn bids e = elim e.state [
  | Open ↦ []
  | Sold bid ↦ 1 ∷ (get_or bids bid no_bid).price ∷ (255 - bid) ∷ []
  | Allocated m price ↦ 0 ∷ price ∷ (3 - e.pool) ∷ (31 - m) ∷ []
  | Moved m ↦ []
  | Torn price ↦ []
  | Agreed m price ↦ []
]

-- whether the turn x is after the turn y: the first numbers that differ decide
unfoldable pub later : List ℕ → List ℕ → Bool
later [] ys = false
later (x ∷ xs) [] = true
later (x ∷ xs) (y ∷ ys) = ltb y x || (eqb x y && later xs ys)

-- a place of the roll and its entry
pub record Found : Type 0 where
  pub place : ℕ
  pub entry : Entry

-- of what was found and a later place, the one that goes first: "within one bid or member the highest first", so of equal turns the later
unfoldable pub better : List Bid → Option Found → Found → Option Found
better bids none y = some y
better bids (some x) y = when later (turn bids y.entry) (turn bids x.entry) then some x else some y

-- the unit that moves next, if any, of what was found and the entries from place i on
unfoldable pub next_from : List Bid → ℕ → List Entry → Option Found → Option Found
next_from bids i [] found = found
next_from bids i (e ∷ es) found =
    next_from bids (suc i) es (when may_move bids e then better bids found (record { place = i; entry = e }) else found)

-- the roll after at most k moves to member m, which has still to save `owed`
unfoldable pub move_units : ℕ → List Bid → ℕ → ℕ → List Entry → List Entry
move_units zero bids m owed roll = roll
move_units (suc k) bids m owed roll = elim (when eqb owed 0 then none else next_from bids 0 roll none) [
  | none ↦ roll
  | some x ↦ move_units k bids m (owed - (zero_price - price_of bids x.entry.state)) (set roll x.place (with_state x.entry (Moved m)))
]

-- the roll after MOVE: no unit moves twice, so there are at most as many moves as entries
unfoldable pub move_all : List Bid → ℕ → ℕ → List Entry → List Entry
move_all bids m owed roll = move_units (length roll) bids m owed roll
