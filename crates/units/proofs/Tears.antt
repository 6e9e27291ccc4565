-- The units of a roll after TEAR, MISS and SALE. Assumes nothing.
use mathlib.Core.Path.{◌≡◌, refl, sym, ap, ◌∙◌}
use mathlib.Core.Bool.{Bool, true, false, ◌&&◌, and-true, and-false}
use mathlib.Core.Logic.{⊎_elim}
use mathlib.Core.List.{List, [], ◌∷◌, map}
use Prim.Native.Nat.{ℕ, zero, suc, ◌+◌, ◌-◌, ◌*◌, ◌%◌, ◌≤◌, ◌<◌}
use native.Mathlib.Nat.{zero-mul}
use native.Mathlib.Omega.{arith}
use lib.Dec.{ltb, eqb}
use lib.ListN.{length, get_or, set, length-set}
use lib.Seq.{get_or-set_same, get_or-set_other}
use borrow.Author.Tests.{lt-ltb, le-ltb, eqb-true, eqb-false, eq-eqb, ne_eqb}
use Rattle.lists.specs.Lists.{when◌then◌else◌}
use Rattle.lists.proofs.Bools.{cases, either, lt-or-le}
use Rattle.lists.proofs.Each.{Each, set_cases}
use Rattle.auction.specs.Price.{zero_price, price_limit}
use Rattle.machine.specs.Roll.{UnitState, Open, Sold, Allocated, Moved, Torn, Agreed, Entry, Bid, open_in, passed_to, price_of, changed_if, torn_if}
use Rattle.units.specs.declared.Units.{Units}
use Rattle.units.specs.Places.{allocated_at, moved_at, torn_at, missed_at, missed_moved_at, agreed_at, unit_at}
use Rattle.units.specs.Steps.{transferred, repriced, noted_at, tear_units, missed_to, miss_units, with_buyer, sale_units}
use Rattle.units.proofs.Places.{unit-open, unit-allocated, unit-sold, unit-moved, unit-torn, unit-agreed, by_place}
use Rattle.units.proofs.Weighing.{weigh-point}
use Rattle.units.proofs.Over.{Swap, over-changed}
use Rattle.units.proofs.Tied.{Tied, transfer-tied, relabelled}
use Rattle.units.proofs.Kept.{unit_of, Kept, low-labels, labels-low, open-alone, open-here, passed-from, passed-other, passed-less}

-- ---- all units of a place counted at another, where their price is noted

-- the prices noted after it
abbrev pub notes : List ℕ → ℕ → ℕ → ℕ → List ℕ
notes noted n i price = when eqb n 0 then noted else set noted i price

price-torn : (bids : List Bid) (price : ℕ) → price_of bids (Torn price) ≡ price
unfolding price_of
price-torn bids price = refl

price-agreed : (bids : List Bid) (m price : ℕ) → price_of bids (Agreed m price) ≡ price
unfolding price_of
price-agreed bids m price = refl

-- the pool of a place from 516 on
pool-noted : (allocation noted buyers : List ℕ) (bids : List Bid) (i : ℕ) → i < 264 → (unit_at allocation noted buyers bids (516 + i)).pool ≡ i % 4
pool-noted allocation noted buyers bids i l =
    ⊎_elim
    (λ few. ap (λ (e : Entry). e.pool) (unit-torn allocation noted buyers bids i few))
    (λ far.
    let p = i - 260 in
    let place : agreed_at p ≡ 516 + i = omega arith in
    let same : p ≡ i % 4 = omega arith in
    rw place at (ap (λ (e : Entry). e.pool) (unit-agreed allocation noted buyers bids p (omega arith))) ∙ same)
    (lt-or-le i 260)

-- where no unit changes its price, the new price doesn't matter
repriced-same : (sums : List ℕ) (pool n old a b : ℕ) → (0 < n → a ≡ b) → repriced sums pool n old a ≡ repriced sums pool n old b
unfolding repriced
repriced-same sums pool n old a b same =
    ⊎_elim
    (λ some. rw (same some))
    (λ h. let none : n ≡ 0 = omega arith in rw (none, zero-mul a, zero-mul b))
    (lt-or-le 0 n)

-- a price noted: only the units at that place have another label
noted-unit : (allocation noted buyers : List ℕ) (bids : List Bid) (n i price : ℕ) → (k : ℕ) → k < 780 → (0 < n → k ≡ 516 + i → ⊥) → unit_at allocation (notes noted n i price) buyers bids k ≡ unit_at allocation noted buyers bids k
noted-unit allocation noted buyers bids n i price =
    let new = notes noted n i price in
    by_place (λ k. (0 < n → k ≡ 516 + i → ⊥) → unit_at allocation new buyers bids k ≡ unit_at allocation noted buyers bids k)
    (λ p l a. unit-open allocation new buyers bids p l ∙ sym (unit-open allocation noted buyers bids p l))
    (λ p m lp lm a. unit-allocated allocation new buyers bids p m lp lm ∙ sym (unit-allocated allocation noted buyers bids p m lp lm))
    (λ b l a. unit-sold allocation new buyers bids b l ∙ sym (unit-sold allocation noted buyers bids b l))
    (λ p m lp lm a. unit-moved allocation new buyers bids p m lp lm ∙ sym (unit-moved allocation noted buyers bids p m lp lm))
    (λ j l a. unit-torn allocation new buyers bids j l ∙ rw (same j a) (sym (unit-torn allocation noted buyers bids j l)))
    (λ p l a. unit-agreed allocation new buyers bids p l ∙ rw (same (260 + p) (λ live e. a live (omega arith))) (sym (unit-agreed allocation noted buyers bids p l)))
  where
    same : (j : ℕ) → (0 < n → 516 + j ≡ 516 + i → ⊥) → get_or (notes noted n i price) j 0 ≡ get_or noted j 0
    same j a = cases (eqb n 0) _ (λ t. rw t) (λ t. rw t (get_or-set_other noted i j price 0 (λ e. a (omega (arith, eqb-false n 0 t)) (omega arith))))

module _ (u : Units) (bids : List Bid) (roll : List Entry) (kept : Kept u bids roll) where
  -- place k, whose units have the pool and are counted at place 516 + i, in state s, from now on; the test tells them from all others
  module _ (k i pool price : ℕ) (s : UnitState) (test : Entry → Bool) (lk : k < 516) (li : i < 264) (lp : pool < 4) (low : price ≤ price_limit) (is : (unit_of u bids k).pool ≡ pool) (at : k % 4 ≡ pool) (row : i % 4 ≡ pool)
      (others : (j : ℕ) → j < 780 → (j ≡ k → ⊥) → test (unit_of u bids j) ≡ false) (here : test (unit_of u bids k) ≡ true)
      (empty : 0 < get_or u.counts k 0 → get_or u.counts (516 + i) 0 ≡ 0) (at-price : price_of bids s ≡ price)
      (label : (noted : List ℕ) → get_or noted i 0 ≡ price → unit_at u.allocation noted u.buyers bids (516 + i) ≡ record { pool = pool; state = s }) where
    abbrev n : ℕ
    n = get_or u.counts k 0

    abbrev next : List Entry
    next = map (changed_if test s) roll

    abbrev new : List ℕ
    new = notes u.noted n i price

    abbrev unit : ℕ → Entry
    unit = unit_at u.allocation new u.buyers bids

    same : (j : ℕ) → j < 780 → 0 < get_or u.counts j 0 → unit j ≡ unit_of u bids j
    same j l some = noted-unit u.allocation u.noted u.buyers bids n i price j l (λ live e. absurd (omega (arith, empty live, rw e at some)))

    same_here : unit k ≡ unit_of u bids k
    same_here = noted-unit u.allocation u.noted u.buyers bids n i price k (omega arith) (λ live e. absurd (omega arith))

    noted-tied : Tied u.counts u.sums unit bids roll
    noted-tied =
        let labels = labels-low u.allocation u.noted u.buyers bids kept.tied.low in
        relabelled u.counts u.sums (unit_of u bids) unit bids bids roll kept.tied same (λ j l some. refl)
        (low-labels u.allocation new u.buyers bids (record {
          given = labels.given;
          torn = λ j l. either (λ (x : List ℕ). get_or x j 0 ≤ price_limit) (eqb n 0) (labels.torn j l) (set_cases (λ (x : ℕ). x ≤ price_limit) u.noted i price 0 j (λ e. low) (labels.torn j l));
          bid = labels.bid;
        }))

    to-pool : (unit (516 + i)).pool ≡ pool
    to-pool = pool-noted u.allocation new u.buyers bids i li ∙ row

    -- where there are units, the price is noted
    to-price : 0 < n → get_or new i 0 ≡ price
    to-price some = rw (ne_eqb n 0 (omega arith)) (get_or-set_same u.noted i price 0 (omega (arith, kept.long)))

    to_is : 0 < n → unit (516 + i) ≡ record { pool = pool; state = s }
    to_is some = label new (to-price some)

    torn-swap : Swap roll next n (unit k) (unit (516 + i))
    torn-swap f =
        let g : Entry → ℕ = λ e. f (changed_if test s e) in
        let one = weigh-point u.counts k (λ j. f (unit_of u bids j)) (λ j. g (unit_of u bids j)) (omega arith) (λ j l a some. rw (others j l a)) in
        let there : n * g (unit_of u bids k) ≡ n * f (unit (516 + i)) =
        ⊎_elim
        (λ some.
        let e : changed_if test s (unit_of u bids k) ≡ unit (516 + i) = rw here (rw is (sym (to_is some))) in
        ap (λ (e : Entry). n * f e) e)
        (λ h. let none : n ≡ 0 = omega arith in rw none (zero-mul _ ∙ sym (zero-mul _)))
        (lt-or-le 0 n) in
        omega (
          arith,
          over-changed test s f roll,
          kept.tied.counted.all g,
          kept.tied.counted.all f,
          one,
          there,
          ap (λ (e : Entry). n * f e) same_here,
        )

    moved-tied : Tied (transferred u.counts k (516 + i) n) (repriced u.sums pool n (price_of bids (unit_of u bids k).state) price) unit bids next
    moved-tied =
        let moved = transfer-tied u.counts u.sums unit bids roll noted-tied k (516 + i) n pool (omega arith) (omega arith) (λ e. absurd (omega arith)) (omega arith) lp
        (ap (λ (e : Entry). e.pool) same_here ∙ is) to-pool next torn-swap in
        let old : price_of bids (unit_of u bids k).state ≡ price_of bids (unit k).state = ap (λ (e : Entry). price_of bids e.state) (sym same_here) in
        rw (old, repriced-same u.sums pool n (price_of bids (unit k).state) price (price_of bids (unit (516 + i)).state) (λ some. sym (torn-price some))) moved
      where
        torn-price : 0 < n → price_of bids (unit (516 + i)).state ≡ price
        torn-price some = ap (λ (e : Entry). price_of bids e.state) (to_is some) ∙ at-price

    pub noted-kept : Kept (noted_at u k (516 + i) (price_of bids (unit_of u bids k).state) price) bids next
    unfolding noted_at
    noted-kept =
        let place : 516 + i - 516 ≡ i = omega arith in
        rw (at, place) (record {
          tied = moved-tied;
          four = kept.four;
          long = either (λ (x : List ℕ). length x ≡ 264) (eqb n 0) kept.long (length-set u.noted i price ∙ kept.long);
          buyers = kept.buyers;
        })

torn-label : (u : Units) (bids : List Bid) (i pool price : ℕ) → i < 260 → i % 4 ≡ pool → (noted : List ℕ) → get_or noted i 0 ≡ price
    → unit_at u.allocation noted u.buyers bids (516 + i) ≡ record { pool = pool; state = Torn price }
torn-label u bids i pool price l row noted e = unit-torn u.allocation noted u.buyers bids i l ∙ rw (row, e)

-- ---- TEAR

pub tear-kept : (u : Units) (bids : List Bid) (roll : List Entry) → Kept u bids roll → (pool price : ℕ) → pool < 4 → price ≤ price_limit
    → (0 < get_or u.counts pool 0 → get_or u.counts (torn_at pool) 0 ≡ 0) → Kept (tear_units u pool price) bids (map (torn_if (open_in pool) price) roll)
unfolding tear_units price_of
tear-kept u bids roll kept pool price lp low empty =
    let is = unit-open u.allocation u.noted u.buyers bids pool lp in
    rw (lt-ltb pool 4 lp)
    (rw is at
    (noted-kept u bids roll kept pool pool pool price (Torn price) (open_in pool) (omega arith) (omega arith) lp low (ap (λ (e : Entry). e.pool) is) (omega arith) (omega arith)
    (open-alone u.allocation u.noted u.buyers bids pool) (open-here u.allocation u.noted u.buyers bids pool lp) empty
    (price-torn bids price) (torn-label u bids pool pool price (omega arith) (omega arith))))

-- ---- SALE

-- another buyer: only the units sold by agreement in that pool have another label
buyer-unit : (allocation noted buyers : List ℕ) (bids : List Bid) (pool m : ℕ) → (k : ℕ) → k < 780 → (k ≡ agreed_at pool → ⊥) → unit_at allocation noted (set buyers pool m) bids k ≡ unit_at allocation noted buyers bids k
buyer-unit allocation noted buyers bids pool m =
    let new = set buyers pool m in
    by_place (λ k. (k ≡ agreed_at pool → ⊥) → unit_at allocation noted new bids k ≡ unit_at allocation noted buyers bids k)
    (λ p l a. unit-open allocation noted new bids p l ∙ sym (unit-open allocation noted buyers bids p l))
    (λ p x lp lx a. unit-allocated allocation noted new bids p x lp lx ∙ sym (unit-allocated allocation noted buyers bids p x lp lx))
    (λ b l a. unit-sold allocation noted new bids b l ∙ sym (unit-sold allocation noted buyers bids b l))
    (λ p x lp lx a. unit-moved allocation noted new bids p x lp lx ∙ sym (unit-moved allocation noted buyers bids p x lp lx))
    (λ i l a. unit-torn allocation noted new bids i l ∙ sym (unit-torn allocation noted buyers bids i l))
    (λ p l a. unit-agreed allocation noted new bids p l ∙ rw (get_or-set_other buyers pool p m 0 (λ e. a (ap agreed_at e))) (sym (unit-agreed allocation noted buyers bids p l)))

module _ (u : Units) (bids : List Bid) (roll : List Entry) (kept : Kept u bids roll) (pool m : ℕ) (none-there : get_or u.counts (agreed_at pool) 0 ≡ 0) where
  buyer-kept : Kept (with_buyer u pool m) bids roll
  buyer-kept =
      let labels = labels-low u.allocation u.noted u.buyers bids kept.tied.low in
      record {
        tied = relabelled u.counts u.sums (unit_of u bids) (unit_at u.allocation u.noted (set u.buyers pool m) bids) bids bids roll kept.tied
            (λ k l some. buyer-unit u.allocation u.noted u.buyers bids pool m k l (λ e. absurd (omega (arith, none-there, rw e at some))))
            (λ k l some. refl)
            (low-labels u.allocation u.noted (set u.buyers pool m) bids (record { given = labels.given; torn = labels.torn; bid = labels.bid }));
        four = kept.four;
        long = kept.long;
        buyers = length-set u.buyers pool m ∙ kept.buyers;
      }

  pub sale-kept : (price : ℕ) → pool < 4 → price ≤ price_limit → Kept (sale_units u pool m price) bids (map (changed_if (open_in pool) (Agreed m price)) roll)
  unfolding sale_units price_of
  sale-kept price lp low =
      let v = with_buyer u pool m in
      let is = unit-open v.allocation v.noted v.buyers bids pool lp in
      let to : 516 + (260 + pool) ≡ agreed_at pool = omega arith in
      rw (lt-ltb pool 4 lp)
      (rw (is, to) at
      (noted-kept v bids roll buyer-kept pool (260 + pool) pool price (Agreed m price) (open_in pool) (omega arith) (omega arith) lp low (ap (λ (e : Entry). e.pool) is) (omega arith) (omega arith)
      (open-alone v.allocation v.noted v.buyers bids pool) (open-here v.allocation v.noted v.buyers bids pool lp) (λ some. rw to none-there)
      (price-agreed bids m price)
      (λ noted e. rw to (unit-agreed v.allocation noted v.buyers bids pool lp ∙ rw (get_or-set_same u.buyers pool m 0 (omega (arith, kept.buyers)), e)))))

-- ---- MISS

-- an entry allocated to the member in a pool, and one moved to it
unfoldable allocated_in : ℕ → ℕ → Entry → Bool
allocated_in m pool e = elim e.state [
  | Open ↦ false
  | Sold b ↦ false
  | Allocated a price ↦ eqb a m && eqb e.pool pool
  | Moved a ↦ false
  | Torn price ↦ false
  | Agreed a price ↦ false
]

unfoldable moved_in : ℕ → ℕ → Entry → Bool
moved_in m pool e = elim e.state [
  | Open ↦ false
  | Sold b ↦ false
  | Allocated a price ↦ false
  | Moved a ↦ eqb a m && eqb e.pool pool
  | Torn price ↦ false
  | Agreed a price ↦ false
]

-- two places of members and pools
apart : (m pool a p : ℕ) → pool < 4 → p < 4 → (4 * a + p ≡ 4 * m + pool → ⊥) → (eqb a m && eqb p pool) ≡ false
apart m pool a p lp lq not_same =
    cases (eqb a m) _
    (λ x. cases (eqb p pool) _ (λ y. absurd (not_same (omega (arith, eqb-true a m x, eqb-true p pool y)))) (λ y. rw (x, y)))
    (λ x. rw x)

together : (m pool : ℕ) → (eqb m m && eqb pool pool) ≡ true
together m pool = rw (eq-eqb m m refl, eq-eqb pool pool refl)

module _ (allocation noted buyers : List ℕ) (bids : List Bid) (m pool : ℕ) (lm : m < 32) (lp : pool < 4) where
  allocated-alone : (j : ℕ) → j < 780 → (j ≡ allocated_at pool m → ⊥) → allocated_in m pool (unit_at allocation noted buyers bids j) ≡ false
  unfolding allocated_in
  allocated-alone =
      by_place (λ j. (j ≡ allocated_at pool m → ⊥) → allocated_in m pool (unit_at allocation noted buyers bids j) ≡ false)
      (λ i l a. rw (unit-open allocation noted buyers bids i l))
      (λ p x lq lx a. rw (unit-allocated allocation noted buyers bids p x lq lx) (apart m pool x p lp lq (λ e. a (omega arith))))
      (λ b l a. rw (unit-sold allocation noted buyers bids b l))
      (λ p x lq lx a. rw (unit-moved allocation noted buyers bids p x lq lx))
      (λ i l a. rw (unit-torn allocation noted buyers bids i l))
      (λ p l a. rw (unit-agreed allocation noted buyers bids p l))

  moved-alone : (j : ℕ) → j < 780 → (j ≡ moved_at pool m → ⊥) → moved_in m pool (unit_at allocation noted buyers bids j) ≡ false
  unfolding moved_in
  moved-alone =
      by_place (λ j. (j ≡ moved_at pool m → ⊥) → moved_in m pool (unit_at allocation noted buyers bids j) ≡ false)
      (λ i l a. rw (unit-open allocation noted buyers bids i l))
      (λ p x lq lx a. rw (unit-allocated allocation noted buyers bids p x lq lx))
      (λ b l a. rw (unit-sold allocation noted buyers bids b l))
      (λ p x lq lx a. rw (unit-moved allocation noted buyers bids p x lq lx) (apart m pool x p lp lq (λ e. a (omega arith))))
      (λ i l a. rw (unit-torn allocation noted buyers bids i l))
      (λ p l a. rw (unit-agreed allocation noted buyers bids p l))

  allocated-here : allocated_in m pool (unit_at allocation noted buyers bids (allocated_at pool m)) ≡ true
  unfolding allocated_in
  allocated-here = rw (unit-allocated allocation noted buyers bids pool m lp lm) (together m pool)

  moved_here : moved_in m pool (unit_at allocation noted buyers bids (moved_at pool m)) ≡ true
  unfolding moved_in
  moved_here = rw (unit-moved allocation noted buyers bids pool m lp lm) (together m pool)

-- pool by pool is all at once
module _ (m price : ℕ) where
  abbrev up_to : ℕ → Entry → Bool
  up_to n e = passed_to m e.state && ltb e.pool n

  pool-next : (n : ℕ) (e : Entry) → torn_if (moved_in m n) price (torn_if (allocated_in m n) price (torn_if (up_to n) price e)) ≡ torn_if (up_to (suc n)) price e
  unfolding passed_to allocated_in moved_in
  pool-next n e = go e.pool e.state
    where
      at : ℕ → UnitState → Entry
      at pool s = record { pool = pool; state = s }

      go : (p : ℕ) (s : UnitState) → torn_if (moved_in m n) price (torn_if (allocated_in m n) price (torn_if (up_to n) price (at p s))) ≡ torn_if (up_to (suc n)) price (at p s)
      go p Open = refl
      go p (Sold b) = refl
      go p (Allocated a x) =
          cases (eqb a m) _
          (λ t. ⊎_elim
          (λ l. rw (t, lt-ltb p n l, lt-ltb p (suc n) (omega arith)))
          (λ g. cases (eqb p n) _
          (λ e. let same = eqb-true p n e in rw (t, le-ltb p n g, lt-ltb p (suc n) (omega arith), e, t))
          (λ e. let other = eqb-false p n e in rw (t, le-ltb p n g, le-ltb p (suc n) (omega arith), e, t)))
          (lt-or-le p n))
          (λ t. rw (t, t))
      go p (Moved a) =
          cases (eqb a m) _
          (λ t. ⊎_elim
          (λ l. rw (t, lt-ltb p n l, lt-ltb p (suc n) (omega arith)))
          (λ g. cases (eqb p n) _
          (λ e. let same = eqb-true p n e in rw (t, le-ltb p n g, lt-ltb p (suc n) (omega arith), e, t))
          (λ e. let other = eqb-false p n e in rw (t, le-ltb p n g, le-ltb p (suc n) (omega arith), e, t)))
          (lt-or-le p n))
          (λ t. rw (t, t))
      go p (Torn x) = refl
      go p (Agreed a x) = refl

  rolls-next : (n : ℕ) (roll : List Entry) → map (torn_if (moved_in m n) price) (map (torn_if (allocated_in m n) price) (map (torn_if (up_to n) price) roll)) ≡ map (torn_if (up_to (suc n)) price) roll
  rolls-next n [] = refl
  rolls-next n (e ∷ es) = cc (pool-next n e, rolls-next n es)

  rolls-none : (roll : List Entry) → map (torn_if (up_to 0) price) roll ≡ roll
  rolls-none [] = refl
  rolls-none (e ∷ es) = cc (none e, rolls-none es)
    where
      none : (e : Entry) → torn_if (up_to 0) price e ≡ e
      none e = rw (le-ltb e.pool 0 (omega arith), and-false (passed_to m e.state))

  rolls-all : (roll : List Entry) → Each (λ e. ltb e.pool 4 ≡ true) roll → map (torn_if (up_to 4) price) roll ≡ map (torn_if (λ e. passed_to m e.state) price) roll
  rolls-all [] h = refl
  rolls-all (e ∷ es) h = cc (one e h.0, rolls-all es h.1)
    where
      one : (e : Entry) → ltb e.pool 4 ≡ true → torn_if (up_to 4) price e ≡ torn_if (λ x. passed_to m x.state) price e
      one e t = rw (t, and-true (passed_to m e.state))

-- what tearing up a place leaves of the counts
module _ (u : Units) (k to old price : ℕ) where
  pub torn-other : (j : ℕ) → (j ≡ k → ⊥) → (j ≡ to → ⊥) → get_or (noted_at u k to old price).counts j 0 ≡ get_or u.counts j 0
  unfolding noted_at
  torn-other j a b = passed-other u.counts k to (get_or u.counts k 0) j a b

  pub torn-from : k < length u.counts → (k ≡ to → ⊥) → get_or (noted_at u k to old price).counts k 0 ≡ 0
  unfolding noted_at
  torn-from l a = passed-from u.counts k to (get_or u.counts k 0) l a ∙ omega arith

  pub torn-less : (j : ℕ) → (j ≡ to → ⊥) → get_or (noted_at u k to old price).counts j 0 ≤ get_or u.counts j 0
  unfolding noted_at
  torn-less j b = passed-less u.counts k to (get_or u.counts k 0) j b

module _ (bids : List Bid) (m price : ℕ) (lm : m < 32) (low : price ≤ price_limit) where
  -- the places for what is torn up in a pool are free
  pub record Free (u : Units) (pool : ℕ) : Type 0 where
    pub allocated : 0 < get_or u.counts (allocated_at pool m) 0 → get_or u.counts (missed_at pool m) 0 ≡ 0
    pub moved : 0 < get_or u.counts (moved_at pool m) 0 → get_or u.counts (missed_moved_at pool m) 0 ≡ 0

  -- one pool
  module _ (u : Units) (roll : List Entry) (kept : Kept u bids roll) (pool : ℕ) (lp : pool < 4) (free : Free u pool) where
    abbrev half : Units
    half = noted_at u (allocated_at pool m) (missed_at pool m) (get_or u.allocation pool 0) price

    half-kept : Kept half bids (map (torn_if (allocated_in m pool) price) roll)
    unfolding price_of
    half-kept =
        let is = unit-allocated u.allocation u.noted u.buyers bids pool m lp lm in
        let to : 516 + (4 + (4 * m + pool)) ≡ missed_at pool m = omega arith in
        rw (is, to) at
        (noted-kept u bids roll kept (allocated_at pool m) (4 + (4 * m + pool)) pool price (Torn price) (allocated_in m pool) (omega arith) (omega arith) lp low (ap (λ (e : Entry). e.pool) is) (omega arith) (omega arith)
        (allocated-alone u.allocation u.noted u.buyers bids m pool lm lp) (allocated-here u.allocation u.noted u.buyers bids m pool lm lp) (λ some. rw to (free.allocated some))
        (price-torn bids price) (torn-label u bids (4 + (4 * m + pool)) pool price (omega arith) (omega arith)))

    whole-kept : Kept (noted_at half (moved_at pool m) (missed_moved_at pool m) zero_price price) bids (map (torn_if (moved_in m pool) price) (map (torn_if (allocated_in m pool) price) roll))
    unfolding price_of
    whole-kept =
        let is = unit-moved half.allocation half.noted half.buyers bids pool m lp lm in
        let to : 516 + (132 + (4 * m + pool)) ≡ missed_moved_at pool m = omega arith in
        let old = get_or u.allocation pool 0 in
        let from-same : get_or half.counts (moved_at pool m) 0 ≡ get_or u.counts (moved_at pool m) 0 =
        torn-other u (allocated_at pool m) (missed_at pool m) old price (moved_at pool m) (λ e. absurd (omega arith)) (λ e. absurd (omega arith)) in
        let to_same : get_or half.counts (missed_moved_at pool m) 0 ≡ get_or u.counts (missed_moved_at pool m) 0 =
        torn-other u (allocated_at pool m) (missed_at pool m) old price (missed_moved_at pool m) (λ e. absurd (omega arith)) (λ e. absurd (omega arith)) in
        rw (is, to) at
        (noted-kept half bids (map (torn_if (allocated_in m pool) price) roll) half-kept (moved_at pool m) (132 + (4 * m + pool)) pool price (Torn price) (moved_in m pool) (omega arith) (omega arith) lp low
        (ap (λ (e : Entry). e.pool) is) (omega arith) (omega arith)
        (moved-alone half.allocation half.noted half.buyers bids m pool lm lp) (moved_here half.allocation half.noted half.buyers bids m pool lm lp)
        (λ some. rw (to, to_same) (free.moved (rw from-same at some)))
        (price-torn bids price) (torn-label half bids (132 + (4 * m + pool)) pool price (omega arith) (omega arith)))

  -- all of them: after n pools those of the others are as they were
  module _ (u : Units) (roll : List Entry) (kept : Kept u bids roll) (free : (pool : ℕ) → pool < 4 → Free u pool) where
    pub record Missing (n : ℕ) (v : Units) : Type 0 where
      pub is : Kept v bids (map (torn_if (up_to m price n) price) roll)
      pub later : (pool : ℕ) → n ≤ pool → pool < 4 → Free v pool

    later_same : (v : Units) (n pool : ℕ) → n < 4 → n < pool → pool < 4 → (j : ℕ) → (4 ≤ j) → (j % 4 ≡ pool)
        → get_or (noted_at (noted_at v (allocated_at n m) (missed_at n m) (get_or v.allocation n 0) price) (moved_at n m) (missed_moved_at n m) zero_price price).counts j 0 ≡ get_or v.counts j 0
    later_same v n pool ln up lp j far row =
        torn-other (noted_at v (allocated_at n m) (missed_at n m) (get_or v.allocation n 0) price) (moved_at n m) (missed_moved_at n m) zero_price price j (λ e. absurd (omega arith)) (λ e. absurd (omega arith))
        ∙ torn-other v (allocated_at n m) (missed_at n m) (get_or v.allocation n 0) price j (λ e. absurd (omega arith)) (λ e. absurd (omega arith))

    missing : (n : ℕ) → n ≤ 4 → Missing n (missed_to m price n u)
    unfolding missed_to
    missing zero l = record { is = rw (rolls-none m price roll) kept; later = λ pool up lp. free pool lp }
    missing (suc n) l =
        let v = missed_to m price n u in
        let before = missing n (omega arith) in
        record {
          is = rw (rolls-next m price n roll) at (whole-kept v (map (torn_if (up_to m price n) price) roll) before.is n (omega arith) (before.later n (omega arith) (omega arith)));
          later = λ pool up lp.
              let old = before.later pool (omega arith) lp in
              let same = later_same v n pool (omega arith) (omega arith) lp in
              record {
                allocated = λ some. same (missed_at pool m) (omega arith) (omega arith) ∙ old.allocated (rw (same (allocated_at pool m) (omega arith) (omega arith)) at some);
                moved = λ some. same (missed_moved_at pool m) (omega arith) (omega arith) ∙ old.moved (rw (same (moved_at pool m) (omega arith) (omega arith)) at some);
              };
        }

    pub miss-kept : Each (λ e. ltb e.pool 4 ≡ true) roll → Kept (miss_units u m price) bids (map (torn_if (λ e. passed_to m e.state) price) roll)
    unfolding miss_units
    miss-kept below = rw (lt-ltb m 32 lm) (rw (rolls-all m price roll below) at (missing 4 (omega arith)).is)
