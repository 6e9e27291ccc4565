-- How calls change the roll: every entry keeps its pool, and keeps its state or gets one that the call gives. Each change is shown once, for any claim `New`
-- about the states given; what follows of pools, counts and entries is shown once, for every change. Assumes nothing.
use mathlib.Core.Path.{◌≡◌, refl, sym, ap, ◌∙◌}
use mathlib.Core.Bool.{Bool, false, ◌&&◌, not, false≢true}
use mathlib.Core.Logic.{◌⊎◌, inl, inr, ⊎_elim}
use mathlib.Core.List.{List, [], ◌∷◌, map}
use mathlib.Core.Option.{Option, none, some}
use Prim.Native.Nat.{ℕ, zero, suc, ◌-◌, ◌≤◌, ◌<◌}
use lib.Dec.{eqb}
use lib.ListN.{length, get_or, set, drop}
use borrow.Author.Tests.{eqb-true}
use Rattle.lists.specs.Lists.{when◌then◌else◌, count}
use Rattle.lists.proofs.Bools.{either, and_left, and_right}
use Rattle.lists.proofs.Each.{Each, drop-step}
use Rattle.lists.proofs.Pairs.{Pairs, pairs-same, pairs-trans, pairs-map, pairs-change_first, pairs_set, pairs-each, pairs-field, pairs-count, pairs-count-falls}
use Rattle.auction.specs.Price.{zero_price}
use Rattle.machine.specs.Roll.{UnitState, Open, Sold, Allocated, Moved, Torn, Agreed, Entry, Bid, no_bid, with_state, kind, is_open, open_in, give_lowest, changed_if, torn_if, open_units, price_of}
use Rattle.machine.specs.Calls.{give_shares, in_round, sell}
use Rattle.machine.specs.Move.{Found, may_move, turn, later, better, next_from, move_units}

-- ---- what is counted

-- an entry of the pool that is not open
unfoldable pub taken_in : ℕ → Entry → Bool
taken_in pool e = not (is_open e) && eqb e.pool pool

abbrev pub taken : ℕ → List Entry → ℕ
taken pool roll = count (taken_in pool) roll

-- a unit sold to bid b
unfoldable pub sold_is : ℕ → UnitState → Bool
sold_is b Open = false
sold_is b (Sold bid) = eqb bid b
sold_is b (Allocated m price) = false
sold_is b (Moved m) = false
sold_is b (Torn price) = false
sold_is b (Agreed m price) = false

abbrev pub sold_to : ℕ → Entry → Bool
sold_to b e = sold_is b e.state

-- ---- changes

-- f is e, or e in a state that New allows in its pool
abbrev pub Becomes : (ℕ → UnitState → Type 0) → Entry → Entry → Type 0
Becomes New e f = (f ≡ e) ⊎ ((s : UnitState) × New e.pool s × (f ≡ with_state e s))

abbrev pub Changes : (ℕ → UnitState → Type 0) → List Entry → List Entry → Type 0
Changes New = Pairs (Becomes New)

abbrev pub no_entry : Entry
no_entry = record { pool = 0; state = Open }

module _ (New : ℕ → UnitState → Type 0) where
  stays : (e : Entry) → Becomes New e e
  stays e = inl refl

  -- one change after another
  becomes-trans : (e f g : Entry) → Becomes New e f → Becomes New f g → Becomes New e g
  becomes-trans e f g a b =
      ⊎_elim
      (λ x. rw x at b)
      (λ x. ⊎_elim
      (λ y. inr (x.0, x.1, y ∙ x.2))
      (λ y. inr (y.0, rw (ap (λ (z : Entry). z.pool) x.2) at y.1, y.2 ∙ ap (λ (z : Entry). with_state z y.0) x.2))
      b)
      a

  pub changes-none : (roll : List Entry) → Changes New roll roll
  changes-none roll = pairs-same (Becomes New) stays roll

  pub changes-trans : (xs ys zs : List Entry) → Changes New xs ys → Changes New ys zs → Changes New xs zs
  changes-trans = pairs-trans (Becomes New) becomes-trans

  -- "the lowest open entries" of a pool
  pub changes-give : (pool : ℕ) (s : UnitState) (n : ℕ) (roll : List Entry) → New pool s → Changes New roll (give_lowest pool s n roll)
  unfolding give_lowest open_in
  changes-give pool s n roll new =
      pairs-change_first (Becomes New) stays (open_in pool) (λ e. with_state e s)
      (λ e o. inr (s, rw (eqb-true e.pool pool (and_right (is_open e) _ o)) new, refl)) n roll

  -- every entry that passes a test: SALE
  pub changes-changed : (p : Entry → Bool) (s : UnitState) (roll : List Entry) → ((pool : ℕ) → New pool s) → Changes New roll (map (changed_if p s) roll)
  changes-changed p s roll new =
      pairs-map (Becomes New) (changed_if p s) (λ e. either (Becomes New e) (p e) (inr (s, new e.pool, refl)) (inl refl)) roll

  -- TEAR and MISS
  pub changes-torn : (p : Entry → Bool) (price : ℕ) (roll : List Entry) → ((pool : ℕ) → New pool (Torn price)) → Changes New roll (map (torn_if p price) roll)
  changes-torn p price = changes-changed p (Torn price)

  -- ALLOCATE
  pub changes-shares : (pool price : ℕ) (shares ms : List ℕ) (roll : List Entry) → Each (λ m. New pool (Allocated m price)) ms
      → Changes New roll (give_shares pool price shares ms roll)
  unfolding give_shares
  changes-shares pool price shares [] roll new = changes-none roll
  changes-shares pool price shares (m ∷ ms) roll new =
      let next = give_lowest pool (Allocated m price) (get_or shares m 0) roll in
      changes-trans roll next _ (changes-give pool (Allocated m price) (get_or shares m 0) roll new.0)
      (changes-shares pool price shares ms next new.1)

  -- CLOSE, from bid i on
  pub changes-sell : (bids : List Bid) → ((i : ℕ) → i < length bids → New (get_or bids i no_bid).pool (Sold i))
      → (round i : ℕ) (bs : List Bid) (roll : List Entry) → drop i bids ≡ bs → Changes New roll (sell round i bs roll)
  unfolding sell
  changes-sell bids new round i [] roll e = changes-none roll
  changes-sell bids new round i (b ∷ bs) roll e =
      let r = drop-step bids i b no_bid bs e in
      let next = when in_round round b then give_lowest b.pool (Sold i) b.won roll else roll in
      changes-trans roll next _
      (either (Changes New roll) (in_round round b)
      (changes-give b.pool (Sold i) b.won roll (rw (ap (λ (x : Bid). x.pool) r.1) at (new i r.0))) (changes-none roll))
      (changes-sell bids new round (suc i) bs next r.2)

-- what MOVE finds is the entry at its place
abbrev At : List Entry → Option Found → Type 0
At roll none = Unit {0}
At roll (some x) = get_or roll x.place no_entry ≡ x.entry

better-at : (bids : List Bid) (roll : List Entry) (found : Option Found) (y : Found) → At roll found → At roll (some y) → At roll (better bids found y)
unfolding better
better-at bids roll none y f g = g
better-at bids roll (some x) y f g = either (At roll) (later (turn bids y.entry) (turn bids x.entry)) {x = some x} {y = some y} f g

next-at : (bids : List Bid) (roll : List Entry) (i : ℕ) (es : List Entry) (found : Option Found) → drop i roll ≡ es → At roll found
    → At roll (next_from bids i es found)
unfolding next_from
next-at bids roll i [] found e f = f
next-at bids roll i (x ∷ es) found e f =
    let r = drop-step roll i x no_entry es e in
    next-at bids roll (suc i) es _ r.2
    (either (At roll) (may_move bids x) {x = better bids found (record { place = i; entry = x })} {y = found} (better-at bids roll found _ f r.1) f)

pub changes-move : (New : ℕ → UnitState → Type 0) (bids : List Bid) (m : ℕ) → ((pool : ℕ) → New pool (Moved m))
    → (k owed : ℕ) (roll : List Entry) → Changes New roll (move_units k bids m owed roll)
unfolding move_units
changes-move New bids m new zero owed roll = changes-none New roll
changes-move New bids m new (suc k) owed roll =
    go (when eqb owed 0 then none else next_from bids 0 roll none)
    (either (At roll) (eqb owed 0) {x = none} {y = next_from bids 0 roll none} tt (next-at bids roll 0 roll none refl tt))
    (λ o r. changes-move New bids m new k o r)
  where
    go : (found : Option Found) → At roll found → ((o : ℕ) (r : List Entry) → Changes New r (move_units k bids m o r))
        → Changes New roll (elim found [
          | none ↦ roll
          | some x ↦ move_units k bids m (owed - (zero_price - price_of bids x.entry.state)) (set roll x.place (with_state x.entry (Moved m)))
        ])
    go none at rest = changes-none New roll
    go (some x) at rest =
        let next = set roll x.place (with_state x.entry (Moved m)) in
        let left = owed - (zero_price - price_of bids x.entry.state) in
        changes-trans New roll next (move_units k bids m left next)
        (pairs_set (Becomes New) (stays New) roll x.place (with_state x.entry (Moved m)) no_entry
        (rw at (inr (Moved m, new x.entry.pool, refl))))
        (rest left next)

-- ---- what follows

-- a state that is not open
abbrev pub Closed : UnitState → Type 0
Closed s = eqb (kind s) 0 ≡ false

module _ (New : ℕ → UnitState → Type 0) (old new : List Entry) (changes : Changes New old new) where
  -- every entry keeps its pool
  pub same-pools : map (λ e. e.pool) new ≡ map (λ e. e.pool) old
  same-pools =
      pairs-field (Becomes New) (λ e. e.pool)
      (λ e f b. ⊎_elim (λ x. ap (λ (z : Entry). z.pool) x) (λ x. ap (λ (z : Entry). z.pool) x.2) b) old new changes

  -- a claim about pools and states that New implies
  pub changed-each : (P : ℕ → UnitState → Type 0) → ((pool : ℕ) (s : UnitState) → New pool s → P pool s)
      → Each (λ e. P e.pool e.state) old → Each (λ e. P e.pool e.state) new
  changed-each P implied h =
      pairs-each (Becomes New) (λ e. P e.pool e.state) (λ e. P e.pool e.state)
      (λ e f b o. ⊎_elim (λ x. rw x o) (λ x. rw x.2 (implied e.pool x.0 x.1)) b) old new changes h

  -- where no entry becomes sold to a bid, none is that was not
  pub sold-falls : (b : ℕ) → ((pool : ℕ) (s : UnitState) → New pool s → sold_is b s ≡ false) → count (sold_to b) new ≤ count (sold_to b) old
  sold-falls b not-sold =
      pairs-count-falls (Becomes New) (sold_to b)
      (λ e f c t. ⊎_elim (λ x. rw x at t)
      (λ x. absurd (false≢true (sym (not-sold e.pool x.0 x.1) ∙ (rw x.2 at t)))) c) old new changes

  module _ (closed : (pool : ℕ) (s : UnitState) → New pool s → Closed s) where
    -- what is taken stays taken
    pub taken-grows : (pool : ℕ) → taken pool old ≤ taken pool new
    unfolding taken_in is_open
    taken-grows pool =
        pairs-count (Becomes New) (taken_in pool)
        (λ e f b t. ⊎_elim (λ x. rw x t)
        (λ x. rw (x.2, closed e.pool x.0 x.1) (and_right (not (is_open e)) _ t)) b) old new changes

    -- none becomes open
    pub open-falls : (pool : ℕ) → open_units new pool ≤ open_units old pool
    unfolding open_units open_in is_open
    open-falls pool =
        pairs-count-falls (Becomes New) (open_in pool)
        (λ e f b t. ⊎_elim (λ x. rw x at t)
        (λ x. absurd (false≢true (sym (closed e.pool x.0 x.1) ∙ and_left _ _ (rw x.2 at t)))) b) old new changes
