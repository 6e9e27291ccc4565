-- CLOSE and ALLOCATE give out exactly as many open entries as they say, and CLOSE gives a bid no more than it won. Assumes nothing.
use mathlib.Core.Path.{◌≡◌, refl, sym, ap, ◌∙◌}
use mathlib.Core.Bool.{Bool, true, false, ◌&&◌, not, and-false}
use mathlib.Core.List.{List, [], ◌∷◌, map}
use Prim.Native.Nat.{ℕ, zero, suc, ◌+◌, ◌≤◌, ◌<◌}
use native.Mathlib.Omega.{arith}
use lib.Dec.{eqb}
use lib.ListN.{get_or}
use borrow.Author.Tests.{eqb-true, eq-eqb, ne_eqb}
use Rattle.lists.specs.Lists.{when◌then◌else◌, one_if, sum, count, keep}
use Rattle.lists.proofs.Bools.{by-test, and_right}
use Rattle.lists.proofs.Counts.{count-given, count_same, count-parts, count-of-map, count-first-le}
use Rattle.lists.proofs.Keep.{sum-keep-cons}
use Rattle.machine.specs.Roll.{UnitState, Sold, Allocated, Entry, Bid, no_bid, with_state, kind, is_open, open_in, give_lowest, open_units}
use Rattle.machine.specs.Calls.{give_shares, in_round, in_auction, sell}
use Rattle.machine.proofs.RollChanges.{taken_in, taken, sold_is, sold_to, Closed, changes-give, changes-sell, same-pools, sold-falls}

-- the units won by the bids that pass a test
abbrev pub won_where : (Bid → Bool) → List Bid → ℕ
won_where p bids = sum (map (λ b. b.won) (keep p bids))

-- ---- one pool's entries given out

-- an entry of the pool is open or taken
pub open-and-taken : (pool : ℕ) (roll : List Entry) → open_units roll pool + taken pool roll ≡ count (λ e. eqb e.pool pool) roll
unfolding open_units open_in taken_in one_if
open-and-taken pool roll =
    sym (count-parts (λ e. eqb e.pool pool) (open_in pool) (taken_in pool) (λ e. one (is_open e) (eqb e.pool pool)) roll)
  where
    one : (a b : Bool) → one_if b ≡ one_if (a && b) + one_if (not a && b)
    one true true = refl
    one true false = refl
    one false true = refl
    one false false = refl

-- entries that keep their pools
pub same_entries : (pool : ℕ) (old new : List Entry) → map (λ e. e.pool) new ≡ map (λ e. e.pool) old
    → count (λ e. eqb e.pool pool) new ≡ count (λ e. eqb e.pool pool) old
same_entries pool old new same =
    let p : ℕ → Bool = λ k. eqb k pool in
    sym (count-of-map p (λ (e : Entry). e.pool) new) ∙ ap (count p) same ∙ count-of-map p (λ (e : Entry). e.pool) old

module _ (pool : ℕ) (s : UnitState) (closed : Closed s) where
  pub give-open : (n : ℕ) (roll : List Entry) → n ≤ open_units roll pool → open_units (give_lowest pool s n roll) pool + n ≡ open_units roll pool
  unfolding open_units give_lowest open_in is_open
  give-open n roll l = count-given (open_in pool) (λ e. with_state e s) (λ e o. rw closed) n roll l

-- another pool's entries stay as they were
pub give-other : (pool other : ℕ) → eqb pool other ≡ false → (s : UnitState) (n : ℕ) (roll : List Entry)
    → open_units (give_lowest pool s n roll) other ≡ open_units roll other
unfolding open_units give_lowest open_in
give-other pool other ne s n roll =
    count_same (open_in other) (open_in pool) (λ e. with_state e s)
    (λ e o. rw (not_there e o) (and-false (is_open (with_state e s)) ∙ sym (and-false (is_open e)))) n roll
  where
    not_there : (e : Entry) → open_in pool e ≡ true → eqb e.pool other ≡ false
    not_there e o = rw (eqb-true e.pool pool (and_right (is_open e) _ o)) ne

-- ---- ALLOCATE

pub shares-open : (pool price : ℕ) (shares ms : List ℕ) (roll : List Entry) → sum (map (λ m. get_or shares m 0) ms) ≤ open_units roll pool
    → open_units (give_shares pool price shares ms roll) pool + sum (map (λ m. get_or shares m 0) ms) ≡ open_units roll pool
unfolding give_shares sum kind
shares-open pool price shares [] roll l = omega arith
shares-open pool price shares (m ∷ ms) roll l =
    let n = get_or shares m 0 in
    let next = give_lowest pool (Allocated m price) n roll in
    let given = give-open pool (Allocated m price) refl n roll (omega arith) in
    omega (arith, given, shares-open pool price shares ms next (omega (arith, given)))

-- ---- CLOSE

closed : (i : ℕ) → Closed (Sold i)
unfolding kind
closed i = refl

-- of a pool, what its bids of this round won
pub sell-open : (pool round i : ℕ) (bs : List Bid) (roll : List Entry) → won_where (in_auction round pool) bs ≤ open_units roll pool
    → open_units (sell round i bs roll) pool + won_where (in_auction round pool) bs ≡ open_units roll pool
unfolding sell keep sum in_auction
sell-open pool round i [] roll l = omega arith
sell-open pool round i (b ∷ bs) roll l =
    let first = sum-keep-cons (in_auction round pool) (λ (x : Bid). x.won) b bs in
    omega (arith, first, go (in_round round b) (eqb b.pool pool) refl (omega (arith, first)) (λ r. sell-open pool round (suc i) bs r))
  where
    rest : ℕ
    rest = won_where (in_auction round pool) bs

    go : (t u : Bool) → eqb b.pool pool ≡ u → (when t && u then b.won else 0) + rest ≤ open_units roll pool
        → ((r : List Entry) → rest ≤ open_units r pool → open_units (sell round (suc i) bs r) pool + rest ≡ open_units r pool)
        → open_units (sell round (suc i) bs (when t then give_lowest b.pool (Sold i) b.won roll else roll)) pool
        + ((when t && u then b.won else 0) + rest) ≡ open_units roll pool
    go true true f h ih =
        let next = give_lowest pool (Sold i) b.won roll in
        let given = give-open pool (Sold i) (closed i) b.won roll (omega arith) in
        rw (eqb-true b.pool pool f) (omega (arith, given, ih next (omega (arith, given))))
    go true false f h ih =
        let next = give_lowest b.pool (Sold i) b.won roll in
        let other = give-other b.pool pool f (Sold i) b.won roll in
        omega (arith, other, ih next (omega (arith, other)))
    go false u f h ih = omega (arith, ih roll (omega arith))

pub sell-taken : (pool round : ℕ) (bs : List Bid) (roll : List Entry) → won_where (in_auction round pool) bs ≤ open_units roll pool
    → taken pool (sell round 0 bs roll) ≡ taken pool roll + won_where (in_auction round pool) bs
sell-taken pool round bs roll l =
    omega (
      arith,
      sell-open pool round 0 bs roll l,
      open-and-taken pool roll,
      open-and-taken pool (sell round 0 bs roll),
      same_entries pool roll (sell round 0 bs roll) (same-pools Any roll (sell round 0 bs roll) (changes-sell Any bs (λ i m. tt) round 0 bs roll refl)),
    )
  where
    Any : ℕ → UnitState → Type 0
    Any k s = Unit {0}

-- the entries sold to a bid: at most as many more as it is given
give-sold : (b i pool n : ℕ) (roll : List Entry)
    → count (sold_to b) (give_lowest pool (Sold i) n roll) ≤ count (sold_to b) roll + (when eqb i b then n else 0)
unfolding give_lowest sold_is
give-sold b i pool n roll =
    by-test (λ (k : ℕ). count (sold_to b) (give_lowest pool (Sold i) n roll) ≤ count (sold_to b) roll + k) (eqb i b)
    (λ e. count-first-le (sold_to b) (open_in pool) (λ x. with_state x (Sold i)) n roll)
    (λ e. omega (
      arith,
      sold-falls Here roll (give_lowest pool (Sold i) n roll) (changes-give Here pool (Sold i) n roll e) b (λ k s h. h),
    ))
  where
    Here : ℕ → UnitState → Type 0
    Here k s = sold_is b s ≡ false

-- what a bid won, if it is of this round
abbrev pub won_then : ℕ → Bid → ℕ
won_then round b = when in_round round b then b.won else 0

turn-sold : (b round i : ℕ) (x : Bid) (roll : List Entry)
    → count (sold_to b) (when in_round round x then give_lowest x.pool (Sold i) x.won roll else roll)
    ≤ count (sold_to b) roll + (when eqb i b then won_then round x else 0)
turn-sold b round i x roll = go (in_round round x)
  where
    go : (t : Bool) → count (sold_to b) (when t then give_lowest x.pool (Sold i) x.won roll else roll)
        ≤ count (sold_to b) roll + (when eqb i b then (when t then x.won else 0) else 0)
    go true = give-sold b i x.pool x.won roll
    go false = omega arith

-- a bid before those that are given units
sold-before : (b round i : ℕ) (bs : List Bid) (roll : List Entry) → b < i → count (sold_to b) (sell round i bs roll) ≤ count (sold_to b) roll
unfolding sell
sold-before b round i [] roll l = omega arith
sold-before b round i (x ∷ bs) roll l =
    omega (
      arith,
      rw (ne_eqb i b (omega arith)) at (turn-sold b round i x roll),
      sold-before b round (suc i) bs (when in_round round x then give_lowest x.pool (Sold i) x.won roll else roll) (omega arith),
    )

-- bid i + k, of those that are given units from bid i on
pub sell-sold : (k round i : ℕ) (bs : List Bid) (roll : List Entry)
    → count (sold_to (i + k)) (sell round i bs roll) ≤ count (sold_to (i + k)) roll + won_then round (get_or bs k no_bid)
unfolding sell
sell-sold k round i [] roll = omega arith
sell-sold zero round i (x ∷ bs) roll =
    omega (
      arith,
      rw (eq-eqb i (i + 0) (omega arith)) at (turn-sold (i + 0) round i x roll),
      sold-before (i + 0) round (suc i) bs (when in_round round x then give_lowest x.pool (Sold i) x.won roll else roll) (omega arith),
    )
sell-sold (suc k) round i (x ∷ bs) roll =
    let next : List Entry = when in_round round x then give_lowest x.pool (Sold i) x.won roll else roll in
    let same : suc i + k ≡ i + suc k = omega arith in
    omega (
      arith,
      rw (ne_eqb i (i + suc k) (omega arith)) at (turn-sold (i + suc k) round i x roll),
      rw same at (sell-sold k round (suc i) bs next),
    )
