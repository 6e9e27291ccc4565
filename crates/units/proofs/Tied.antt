-- The counts and the sums of prices of a roll, and units that pass from one place to another. Assumes nothing.
use mathlib.Core.Path.{◌≡◌, sym, ap, ◌∙◌}
use mathlib.Core.List.{List}
use Prim.Native.Nat.{ℕ, ◌+◌, ◌-◌, ◌*◌, ◌≤◌, ◌<◌, min}
use native.Mathlib.Nat.{mul-one, min-eq_left}
use native.Mathlib.Omega.{arith}
use lib.Dec.{leb, eqb}
use lib.ListN.{length, get_or, set, length-set}
use lib.Seq.{get_or-set_same, get_or-set_other}
use borrow.Author.Tests.{leb-true, le-leb, eqb-true, eqb-false, eq-eqb, ne_eqb}
use Rattle.lists.specs.Lists.{when◌then◌else◌, one_if}
use Rattle.lists.specs.Adding.{most32}
use Rattle.lists.proofs.Bools.{cases}
use Rattle.lists.proofs.Sums.{sum-scaled}
use Rattle.lists.proofs.Each.{each_more}
use Rattle.auction.specs.Price.{zero_price, price_limit}
use Rattle.machine.specs.Roll.{Entry, Bid, price_of}
use Rattle.units.specs.Places.{over, Counted}
use Rattle.units.specs.Steps.{zero_sum, transferred, repriced}
use Rattle.units.proofs.Over.{Swap}
use Rattle.units.proofs.Weighing.{length-transferred, weigh-transferred, weigh-ext, weigh-term, each-entry}

-- 1 for an entry of a pool, and its price
unfoldable pub in_pool : ℕ → Entry → ℕ
in_pool pool e = one_if (eqb e.pool pool)

unfoldable pub price_in : List Bid → ℕ → Entry → ℕ
price_in bids pool e = when eqb e.pool pool then price_of bids e.state else 0

module _ (bids : List Bid) (pool : ℕ) (e : Entry) where
  pub in-it : e.pool ≡ pool → (in_pool pool e ≡ 1) × (price_in bids pool e ≡ price_of bids e.state)
  unfolding in_pool price_in one_if
  in-it h = (rw (eq-eqb e.pool pool h), rw (eq-eqb e.pool pool h))

  pub not-in-it : (e.pool ≡ pool → ⊥) → (in_pool pool e ≡ 0) × (price_in bids pool e ≡ 0)
  unfolding in_pool price_in one_if
  not-in-it h = (rw (ne_eqb e.pool pool h), rw (ne_eqb e.pool pool h))

-- the counts and the sums are those of the roll
pub record Tied (counts sums : List ℕ) (unit : ℕ → Entry) (bids : List Bid) (roll : List Entry) : Type 0 where
  pub long : length counts ≡ 780
  pub four : length sums ≡ 4
  pub counted : Counted counts unit roll
  -- each price is held 1,000,000 too high, the sum of a pool 1,000,000,000
  pub summed : (pool : ℕ) → pool < 4 → get_or sums pool 0 + zero_price * over roll (in_pool pool) ≡ zero_sum + over roll (price_in bids pool)
  pub few : (pool : ℕ) → over roll (in_pool pool) ≤ 1000
  pub all : over roll (λ e. 1) ≤ 4000
  pub low : (k : ℕ) → k < 780 → price_of bids (unit k).state ≤ price_limit

-- no place has more units than the roll has entries
pub few-units : (counts : List ℕ) (unit : ℕ → Entry) (roll : List Entry) → Counted counts unit roll → over roll (λ e. 1) ≤ 4000 → (k : ℕ) → k < 780 → get_or counts k 0 ≤ 4000
few-units counts unit roll counted all k l = omega (arith, counted.all (λ e. 1), weigh-term counts k (λ i. 1) l, mul-one (get_or counts k 0))

-- the prices of a pool are within what its units can have
price-within : (bids : List Bid) (pool : ℕ) (e : Entry) → price_of bids e.state ≤ price_limit → price_in bids pool e ≤ in_pool pool e * price_limit
price-within bids pool e low =
    cases (eqb e.pool pool) _
    (λ t. let h = in-it bids pool e (eqb-true e.pool pool t) in rw (h.0, h.1) (omega arith))
    (λ t. let h = not-in-it bids pool e (eqb-false e.pool pool t) in rw (h.0, h.1) (omega arith))

prices-within : (counts : List ℕ) (unit : ℕ → Entry) (bids : List Bid) (roll : List Entry) → Counted counts unit roll
    → ((k : ℕ) → k < 780 → price_of bids (unit k).state ≤ price_limit) → (pool : ℕ) → over roll (price_in bids pool) ≤ over roll (in_pool pool) * price_limit
prices-within counts unit bids roll counted low pool =
    sum-scaled price_limit (price_in bids pool) (in_pool pool) roll
    (each_more _ _ (λ e h. leb-true (price_in bids pool e) (in_pool pool e * price_limit) h) roll
    (each-entry counts unit roll counted (λ e. leb (price_in bids pool e) (in_pool pool e * price_limit))
    (λ k l some. le-leb _ _ (price-within bids pool (unit k) (low k l)))))

-- ---- a pool's sum

-- n units of a pool that have another price: the sum that is held, where neither limit is met
sum-repriced : (sum n old new units was is : ℕ) → sum + zero_price * units ≡ zero_sum + was → is + n * old ≡ was + n * new → units ≤ 1000 → is ≤ units * price_limit
    → min (sum + n * new - n * old) most32 + zero_price * units ≡ zero_sum + is
sum-repriced sum n old new units was is held changed few within =
    let fits : sum + n * new - n * old ≤ most32 = omega arith in
    rw (min-eq_left fits) (omega arith)

-- ---- units that pass from place to place, within a pool

module _ (counts sums : List ℕ) (unit : ℕ → Entry) (bids : List Bid) (roll : List Entry) (tied : Tied counts sums unit bids roll) where
  module _ (from to n pool : ℕ) (lf : from < 780) (lt : to < 780) (apart : to ≡ from → ⊥) (few : n ≤ get_or counts from 0) (lp : pool < 4) (pf : (unit from).pool ≡ pool) (pt : (unit to).pool ≡ pool)
      (next : List Entry) (swap : Swap roll next n (unit from) (unit to)) where
    abbrev old : ℕ
    old = price_of bids (unit from).state

    abbrev new : ℕ
    new = price_of bids (unit to).state

    next-counted : Counted (transferred counts from to n) unit next
    next-counted = record {
      all =
          λ f.
          omega (
            arith,
            swap f,
            tied.counted.all f,
            weigh-transferred counts tied.long from to n (λ k. f (unit k)) lf lt apart few
                (omega (arith, few-units counts unit roll tied.counted tied.all from lf, few-units counts unit roll tied.counted tied.all to lt)),
          );
    }

    next-pool : (q : ℕ) → over next (in_pool q) ≡ over roll (in_pool q)
    next-pool q =
        cases (eqb pool q) _
        (λ t.
        let e = eqb-true pool q t in
        omega (arith, swap (in_pool q), ap (λ (x : ℕ). n * x) (in-it bids q (unit from) (pf ∙ e)).0, ap (λ (x : ℕ). n * x) (in-it bids q (unit to) (pt ∙ e)).0))
        (λ t.
        let a = eqb-false pool q t in
        omega (
          arith,
          swap (in_pool q),
          ap (λ (x : ℕ). n * x) (not-in-it bids q (unit from) (λ e. a (sym pf ∙ e))).0,
          ap (λ (x : ℕ). n * x) (not-in-it bids q (unit to) (λ e. a (sym pt ∙ e))).0,
        ))

    next-summed : (q : ℕ) → q < 4 → get_or (repriced sums pool n old new) q 0 + zero_price * over next (in_pool q) ≡ zero_sum + over next (price_in bids q)
    unfolding repriced
    next-summed q lq =
        cases (eqb pool q) _
        (λ t.
        let e = eqb-true pool q t in
        let same = next-pool q in
        let here : get_or (set sums pool (min (get_or sums pool 0 + n * new - n * old) most32)) q 0 ≡ min (get_or sums q 0 + n * new - n * old) most32 =
        rw (← e) (get_or-set_same sums pool _ 0 (omega (arith, tied.four))) in
        rw here
        (sum-repriced (get_or sums q 0) n old new (over next (in_pool q)) (over roll (price_in bids q)) (over next (price_in bids q))
        (rw same (tied.summed q lq))
        (omega (arith, swap (price_in bids q), ap (λ (x : ℕ). n * x) (in-it bids q (unit from) (pf ∙ e)).1, ap (λ (x : ℕ). n * x) (in-it bids q (unit to) (pt ∙ e)).1))
        (omega (arith, tied.few q))
        (prices-within (transferred counts from to n) unit bids next next-counted tied.low q)))
        (λ t.
        let a = eqb-false pool q t in
        let there : get_or (set sums pool (min (get_or sums pool 0 + n * new - n * old) most32)) q 0 ≡ get_or sums q 0 = get_or-set_other sums pool q _ 0 (λ e. a (sym e)) in
        rw there (omega (
          arith,
          tied.summed q lq,
          next-pool q,
          swap (price_in bids q),
          ap (λ (x : ℕ). n * x) (not-in-it bids q (unit from) (λ e. a (sym pf ∙ e))).1,
          ap (λ (x : ℕ). n * x) (not-in-it bids q (unit to) (λ e. a (sym pt ∙ e))).1,
        )))

    pub transfer-tied : Tied (transferred counts from to n) (repriced sums pool n old new) unit bids next
    unfolding repriced
    transfer-tied = record {
      long = length-transferred counts from to n ∙ tied.long;
      four = length-set sums pool _ ∙ tied.four;
      counted = next-counted;
      summed = next-summed;
      few = λ q. omega (arith, next-pool q, tied.few q);
      all = omega (arith, swap (λ e. 1), tied.all);
      low = tied.low;
    }

-- ---- other labels, at places that have no units

price-same : (bids bids' : List Bid) (pool : ℕ) (e : Entry) → price_of bids' e.state ≡ price_of bids e.state → price_in bids pool e ≡ price_in bids' pool e
unfolding price_in
price-same bids bids' pool e h = rw h

pub relabelled : (counts sums : List ℕ) (unit unit' : ℕ → Entry) (bids bids' : List Bid) (roll : List Entry) → Tied counts sums unit bids roll
    → ((k : ℕ) → k < 780 → 0 < get_or counts k 0 → unit' k ≡ unit k) → ((k : ℕ) → k < 780 → 0 < get_or counts k 0 → price_of bids' (unit k).state ≡ price_of bids (unit k).state)
    → ((k : ℕ) → k < 780 → price_of bids' (unit' k).state ≤ price_limit) → Tied counts sums unit' bids' roll
relabelled counts sums unit unit' bids bids' roll tied same prices low = record {
  long = tied.long;
  four = tied.four;
  counted = record { all = λ f. tied.counted.all f ∙ weigh-ext counts (λ k. f (unit k)) (λ k. f (unit' k)) (λ k l some. ap f (sym (same k l some))) };
  summed = λ pool l. tied.summed pool l ∙ ap (λ (x : ℕ). zero_sum + x) (priced pool);
  few = tied.few;
  all = tied.all;
  low = low;
}
  where
    priced : (pool : ℕ) → over roll (price_in bids pool) ≡ over roll (price_in bids' pool)
    priced pool =
        tied.counted.all (price_in bids pool)
        ∙ weigh-ext counts (λ k. price_in bids pool (unit k)) (λ k. price_in bids' pool (unit k)) (λ k l some. price-same bids bids' pool (unit k) (prices k l some))
        ∙ sym (tied.counted.all (price_in bids' pool))
