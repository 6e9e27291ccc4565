-- The units of a roll after POOL, CLOSE and ALLOCATE, and where the bids change. Assumes nothing.
use mathlib.Core.Path.{◌≡◌, refl, sym, ap, ◌∙◌}
use mathlib.Core.Bool.{Bool, true, false, ◌&&◌}
use mathlib.Core.Logic.{⊎_elim}
use mathlib.Core.List.{List, [], ◌∷◌, ◌++◌, map}
use Prim.Native.Nat.{ℕ, zero, suc, ◌+◌, ◌-◌, ◌*◌, ◌≤◌, ◌<◌, min}
use native.Mathlib.Nat.{mul-one, mul-zero, zero-mul, min-eq_left}
use native.Mathlib.Omega.{arith}
use lib.Dec.{eqb}
use lib.ListN.{length, get_or, set, take, drop, length-set}
use lib.Seq.{length-take-le, take-suc, take-length, drop-cons, get_or-set_same, get_or-set_other}
use borrow.Author.Tests.{lt-ltb, eqb-true, eqb-false, eq-eqb, ne_eqb}
use Rattle.lists.specs.Lists.{when◌then◌else◌, sum, count, one_if}
use Rattle.lists.specs.Adding.{most16, add_at}
use Rattle.lists.proofs.Adding.{length-added}
use Rattle.lists.proofs.Bools.{cases, lt-or-le, same-choice, and_right}
use Rattle.lists.proofs.Each.{Each, each_more, set_cases}
use Rattle.lists.proofs.Keep.{sum-keep-cons}
use Rattle.sets.specs.Set.{members}
use Rattle.sets.proofs.Members.{members-each}
use Rattle.auction.specs.Price.{zero_price, price_limit}
use Rattle.machine.specs.Roll.{UnitState, Sold, Allocated, Entry, Bid, no_bid, kind, is_open, open_in, price_of, open_units, put_up, give_lowest}
use Rattle.machine.specs.Calls.{in_round, in_auction, sell, give_shares}
use Rattle.machine.proofs.Giving.{won_where}
use Rattle.units.specs.declared.Units.{Units}
use Rattle.units.specs.Places.{allocated_at, sold_at, agreed_at, unit_at, over, weigh, Counted}
use Rattle.units.specs.Steps.{transferred, repriced, put_up_units, win_of, pool_of, sold_counts, sold_sums, sell_units, shared_counts, shared_sums, allocate_units}
use Rattle.units.proofs.Places.{unit-open, unit-allocated, unit-sold, unit-moved, unit-torn, unit-agreed, by_place}
use Rattle.units.proofs.Weighing.{weigh-zero, weigh-added, weigh-point}
use Rattle.units.proofs.Over.{Swap, open_unit, count-over, over-put, give-swaps}
use Rattle.units.proofs.Tied.{in_pool, price_in, in-it, not-in-it, Tied, few-units, transfer-tied, relabelled}

-- the entry at each place
abbrev pub unit_of : Units → List Bid → ℕ → Entry
unit_of u bids = unit_at u.allocation u.noted u.buyers bids

-- the units are those of the roll
pub record Kept (u : Units) (bids : List Bid) (roll : List Entry) : Type 0 where
  pub tied : Tied u.counts u.sums (unit_of u bids) bids roll
  pub four : length u.allocation ≡ 4
  pub long : length u.noted ≡ 264
  pub buyers : length u.buyers ≡ 4

-- ---- how many entries pass a test that one place passes

module _ (counts : List ℕ) (unit : ℕ → Entry) (roll : List Entry) (counted : Counted counts unit roll) where
  pub count_at : (p : Entry → Bool) (k : ℕ) → k < 780 → ((i : ℕ) → i < 780 → (i ≡ k → ⊥) → p (unit i) ≡ false) → p (unit k) ≡ true → count p roll ≡ get_or counts k 0
  unfolding one_if
  count_at p k l others here =
      let one = weigh-point counts k (λ i. 0) (λ i. one_if (p (unit i))) l (λ i li a some. rw (others i li a)) in
      omega (
        arith,
        count-over p roll,
        counted.all (λ e. one_if (p e)),
        one,
        weigh-zero counts,
        mul-zero (get_or counts k 0),
        ap (λ (b : Bool). get_or counts k 0 * one_if b) here,
        mul-one (get_or counts k 0),
      )

-- ---- the open units of a pool

-- no other place counts open units of the pool
pub open-alone : (allocation noted buyers : List ℕ) (bids : List Bid) (pool : ℕ) → (i : ℕ) → i < 780 → (i ≡ pool → ⊥) → open_in pool (unit_at allocation noted buyers bids i) ≡ false
unfolding open_in is_open kind
open-alone allocation noted buyers bids pool =
    by_place (λ i. (i ≡ pool → ⊥) → open_in pool (unit_at allocation noted buyers bids i) ≡ false)
    (λ i l a. rw (unit-open allocation noted buyers bids i l, ne_eqb i pool a))
    (λ p m lp lm a. rw (unit-allocated allocation noted buyers bids p m lp lm))
    (λ b l a. rw (unit-sold allocation noted buyers bids b l))
    (λ p m lp lm a. rw (unit-moved allocation noted buyers bids p m lp lm))
    (λ i l a. rw (unit-torn allocation noted buyers bids i l))
    (λ p l a. rw (unit-agreed allocation noted buyers bids p l))

pub open-here : (allocation noted buyers : List ℕ) (bids : List Bid) (pool : ℕ) → pool < 4 → open_in pool (unit_at allocation noted buyers bids pool) ≡ true
unfolding open_in is_open kind
open-here allocation noted buyers bids pool l = rw (unit-open allocation noted buyers bids pool l, eq-eqb pool pool refl)

pub open-counted : (allocation noted buyers counts : List ℕ) (bids : List Bid) (roll : List Entry) → Counted counts (unit_at allocation noted buyers bids) roll
    → (pool : ℕ) → pool < 4 → open_units roll pool ≡ get_or counts pool 0
unfolding open_units
open-counted allocation noted buyers counts bids roll counted pool l =
    count_at counts (unit_at allocation noted buyers bids) roll counted (open_in pool) pool (omega arith) (open-alone allocation noted buyers bids pool)
    (open-here allocation noted buyers bids pool l)

-- ---- n open units of a pool given to a place

module _ (allocation noted buyers : List ℕ) (bids : List Bid) where
  abbrev unit : ℕ → Entry
  unit = unit_at allocation noted buyers bids

  pub give-tied : (counts sums : List ℕ) (roll : List Entry) → Tied counts sums unit bids roll → (pool to n : ℕ) (s : UnitState) → pool < 4 → 4 ≤ to → to < 780 → n ≤ get_or counts pool 0
      → unit to ≡ record { pool = pool; state = s }
      → Tied (transferred counts pool to n) (repriced sums pool n zero_price (price_of bids s)) unit bids (give_lowest pool s n roll)
  unfolding price_of
  give-tied counts sums roll tied pool to n s lp far lt few is =
      let from = unit-open allocation noted buyers bids pool lp in
      let swap : Swap roll (give_lowest pool s n roll) n (unit pool) (unit to) =
      rw (from, is) (give-swaps pool s n roll (omega (arith, open-counted allocation noted buyers counts bids roll tied.counted pool lp))) in
      rw (from, is) at
      (transfer-tied counts sums unit bids roll tied pool to n pool (omega arith) lt (λ e. absurd (omega arith)) few lp (ap (λ (e : Entry). e.pool) from)
      (ap (λ (e : Entry). e.pool) is) (give_lowest pool s n roll) swap)

-- ---- the counts after units have passed

module _ (counts : List ℕ) (from to n : ℕ) where
  pub passed-from : from < length counts → (from ≡ to → ⊥) → get_or (transferred counts from to n) from 0 ≡ get_or counts from 0 - n
  unfolding transferred add_at
  passed-from l apart = get_or-set_other (set counts from (get_or counts from 0 - n)) to from _ 0 apart ∙ get_or-set_same counts from _ 0 l

  pub passed-other : (k : ℕ) → (k ≡ from → ⊥) → (k ≡ to → ⊥) → get_or (transferred counts from to n) k 0 ≡ get_or counts k 0
  unfolding transferred add_at
  passed-other k a b = get_or-set_other (set counts from (get_or counts from 0 - n)) to k _ 0 b ∙ get_or-set_other counts from k _ 0 a

  -- a place other than the one they pass to has no more units than before
  pub passed-less : (k : ℕ) → (k ≡ to → ⊥) → get_or (transferred counts from to n) k 0 ≤ get_or counts k 0
  unfolding transferred add_at
  passed-less k b =
      let other = get_or-set_other (set counts from (get_or counts from 0 - n)) to k (min (get_or (set counts from (get_or counts from 0 - n)) to 0 + n) most16) 0 b in
      omega (arith, other, set_cases (λ (x : ℕ). x ≤ get_or counts k 0) counts from (get_or counts from 0 - n) 0 k (λ e. rw e (omega arith)) (omega arith))

-- ---- POOL

open-priced : (bids : List Bid) (pool q : ℕ) → pool ≡ q → price_in bids q (open_unit pool) ≡ zero_price
unfolding price_of
open-priced bids pool q e = (in-it bids q (open_unit pool) e).1

module _ (u : Units) (bids : List Bid) (roll : List Entry) (kept : Kept u bids roll) where
  pub open-shown : (pool : ℕ) → pool < 4 → open_units roll pool ≡ get_or u.counts pool 0
  open-shown = open-counted u.allocation u.noted u.buyers u.counts bids roll kept.tied.counted

  pub put-kept : (pool n : ℕ) → pool < 4 → ((q : ℕ) → over (put_up pool n roll) (in_pool q) ≤ 1000) → over (put_up pool n roll) (λ e. 1) ≤ 4000
      → Kept (put_up_units u pool n) bids (put_up pool n roll)
  unfolding put_up_units
  put-kept pool n l few all =
      let t = kept.tied in
      let is = unit-open u.allocation u.noted u.buyers bids pool l in
      let more = few-units u.counts (unit_of u bids) roll t.counted t.all pool (omega arith) in
      let fits : get_or u.counts pool 0 + n ≤ most16 = omega (arith, over-put (λ e. 1) pool n roll, mul-one n) in
      rw (lt-ltb pool 4 l) (record {
        tied = record {
          long = length-added most16 u.counts pool n ∙ t.long;
          four = t.four;
          counted = record {
            all = λ f.
                over-put f pool n roll ∙ ap (λ (x : ℕ). x + n * f (open_unit pool)) (t.counted.all f)
                ∙ ap (λ (e : Entry). weigh u.counts (λ k. f (unit_of u bids k)) + n * f e) (sym is)
                ∙ sym (weigh-added u.counts t.long pool n (λ k. f (unit_of u bids k)) (omega arith) fits);
          };
          summed = λ q lq.
              cases (eqb pool q) _
              (λ t'.
              let e = eqb-true pool q t' in
              omega (
                arith,
                t.summed q lq,
                over-put (in_pool q) pool n roll,
                over-put (price_in bids q) pool n roll,
                ap (λ (x : ℕ). n * x) (in-it bids q (open_unit pool) e).0,
                ap (λ (x : ℕ). n * x) (open-priced bids pool q e),
              ))
              (λ t'.
              let a = eqb-false pool q t' in
              omega (
                arith,
                t.summed q lq,
                over-put (in_pool q) pool n roll,
                over-put (price_in bids q) pool n roll,
                ap (λ (x : ℕ). n * x) (not-in-it bids q (open_unit pool) a).0,
                ap (λ (x : ℕ). n * x) (not-in-it bids q (open_unit pool) a).1,
              ));
          few = few;
          all = all;
          low = t.low;
        };
        four = kept.four;
        long = kept.long;
        buyers = kept.buyers;
      })

-- ---- CLOSE

-- the lists that are lent are those of the bids
pub record Lent (bids : List Bid) (rounds pools prices wins : List ℕ) : Type 0 where
  pub round : (b : ℕ) → b < length bids → get_or rounds b 0 ≡ (get_or bids b no_bid).round
  pub pool : (b : ℕ) → b < length bids → get_or pools b 0 ≡ (get_or bids b no_bid).pool
  pub price : (b : ℕ) → b < length bids → get_or prices b 0 ≡ (get_or bids b no_bid).price
  pub won : (b : ℕ) → b < length bids → get_or wins b 0 ≡ (get_or bids b no_bid).won

-- the turn of one bid on the roll
abbrev sold_one : ℕ → ℕ → Bid → List Entry → List Entry
sold_one round i b roll = when in_round round b then give_lowest b.pool (Sold i) b.won roll else roll

sell-more : (round i : ℕ) (bs : List Bid) (b : Bid) (roll : List Entry) → sell round i (bs ++ (b ∷ [])) roll ≡ sold_one round (i + length bs) b (sell round i bs roll)
unfolding sell
sell-more round i [] b roll = let e : i + 0 ≡ i = omega arith in rw e
sell-more round i (x ∷ bs) b roll =
    let e : i + suc (length bs) ≡ suc i + length bs = omega arith in
    sell-more round (suc i) bs b (sold_one round i x roll) ∙ rw e

module _ (allocation noted buyers : List ℕ) (bids : List Bid) (few : length bids ≤ 256) (pools-below : (b : ℕ) → b < length bids → (get_or bids b no_bid).pool < 4) (round : ℕ)
    (rounds pools prices won : List ℕ) (lent : Lent bids rounds pools prices won)
    (none-withdrawn : (b : ℕ) → b < length bids → (get_or bids b no_bid).stands ≡ false → (get_or bids b no_bid).won ≡ 0) where
  -- the units won in each pool by the bids from number i on are open
  abbrev Enough : ℕ → List ℕ → Type 0
  Enough i counts = (pool : ℕ) → pool < 4 → won_where (in_auction round pool) (drop i bids) ≤ get_or counts pool 0

  module _ (i : ℕ) (l : i < length bids) where
    abbrev bid : Bid
    bid = get_or bids i no_bid

    -- what it gets
    abbrev win : ℕ
    win = win_of round rounds pools won i

    pool-is : pool_of round rounds pools won i ≡ bid.pool
    pool-is = rw (lent.pool i l) (omega (arith, pools-below i l))

    win-here : in_round round bid ≡ true → win ≡ bid.won
    unfolding in_round
    win-here t = rw (lent.round i l, and_right bid.stands (eqb bid.round round) t, lent.won i l)

    -- one that was withdrawn has won nothing
    win-not : in_round round bid ≡ false → win ≡ 0
    unfolding in_round
    win-not t =
        rw (lent.round i l, lent.won i l)
        (cases bid.stands _
        (λ s. rw (rw s at t))
        (λ s. rw (none-withdrawn i l s) (same-choice {A = ℕ} (eqb bid.round round) 0)))

    -- the bids from number i on, with this one first
    here-won : (pool : ℕ) → won_where (in_auction round pool) (drop i bids) ≡ (when in_round round bid && eqb bid.pool pool then bid.won else 0) + won_where (in_auction round pool) (drop (suc i) bids)
    unfolding in_auction
    here-won pool = rw (drop-cons bids i no_bid l) (sum-keep-cons (in_auction round pool) (λ (x : Bid). x.won) bid (drop (suc i) bids))

    win-few : (counts : List ℕ) → Enough i counts → win ≤ get_or counts bid.pool 0
    win-few counts enough =
        cases (in_round round bid) _
        (λ t.
        let h = rw (t, eq-eqb bid.pool bid.pool refl) at (here-won bid.pool) in
        omega (arith, h, win-here t, enough bid.pool (pools-below i l)))
        (λ t. omega (arith, win-not t))

    enough-next : (counts : List ℕ) → length counts ≡ 780 → Enough i counts → Enough (suc i) (transferred counts bid.pool (sold_at i) win)
    enough-next counts long enough pool lp =
        cases (eqb bid.pool pool) _
        (λ t.
        let e = eqb-true bid.pool pool t in
        let now : get_or (transferred counts bid.pool (sold_at i) win) pool 0 ≡ get_or counts pool 0 - win =
        rw (← e) (passed-from counts bid.pool (sold_at i) win (omega (arith, pools-below i l)) (λ x. absurd (omega (arith, pools-below i l)))) in
        cases (in_round round bid) _
        (λ r. let h = rw (r, t) at (here-won pool) in omega (arith, now, h, win-here r, enough pool lp))
        (λ r. let h = rw r at (here-won pool) in omega (arith, now, h, win-not r, enough pool lp)))
        (λ t.
        let a = eqb-false bid.pool pool t in
        let same : get_or (transferred counts bid.pool (sold_at i) win) pool 0 ≡ get_or counts pool 0 = passed-other counts bid.pool (sold_at i) win pool (λ x. a (sym x)) (λ x. absurd (omega arith)) in
        let h : won_where (in_auction round pool) (drop (suc i) bids) ≤ won_where (in_auction round pool) (drop i bids) = omega (arith, here-won pool) in
        omega (arith, same, h, enough pool lp))

    one-sold : (counts sums : List ℕ) (roll : List Entry) → Tied counts sums (unit_at allocation noted buyers bids) bids roll → Enough i counts
        → Tied (transferred counts bid.pool (sold_at i) win) (repriced sums bid.pool win zero_price (get_or prices i 0)) (unit_at allocation noted buyers bids) bids (sold_one round i bid roll)
    unfolding price_of
    one-sold counts sums roll tied enough =
        let is = unit-sold allocation noted buyers bids i (omega (arith, few)) in
        let to = sold_at i in
        rw (lent.price i l)
        (cases (in_round round bid) _
        (λ t.
        let w = win-here t in
        rw (t, w) (give-tied allocation noted buyers bids counts sums roll tied bid.pool to bid.won (Sold i) (pools-below i l) (omega arith) (omega (arith, few)) (omega (arith, w, win-few counts enough)) is))
        (λ t.
        let w = win-not t in
        let from = unit-open allocation noted buyers bids bid.pool (pools-below i l) in
        rw (t, w) (rw (from, is) at
        (transfer-tied counts sums (unit_at allocation noted buyers bids) bids roll tied bid.pool to 0 bid.pool (omega (arith, pools-below i l)) (omega (arith, few))
        (λ e. absurd (omega (arith, pools-below i l))) (omega arith) (pools-below i l) (ap (λ (e : Entry). e.pool) from) (ap (λ (e : Entry). e.pool) is) roll
        (λ f. rw (zero-mul (f (unit_at allocation noted buyers bids bid.pool)), zero-mul (f (unit_at allocation noted buyers bids to))))))))

  sold-tied : (counts sums : List ℕ) (roll : List Entry) → Tied counts sums (unit_at allocation noted buyers bids) bids roll → Enough 0 counts → (i : ℕ) → i ≤ length bids
      → Tied (sold_counts round rounds pools won i counts) (sold_sums round rounds pools won prices i sums) (unit_at allocation noted buyers bids) bids (sell round 0 (take i bids) roll)
      × Enough i (sold_counts round rounds pools won i counts)
  unfolding sold_counts sold_sums sell
  sold-tied counts sums roll tied enough zero l = (tied, enough)
  sold-tied counts sums roll tied enough (suc i) l =
      let before = sold-tied counts sums roll tied enough i (omega arith) in
      let c = sold_counts round rounds pools won i counts in
      let s = sold_sums round rounds pools won prices i sums in
      let p = pool-is i (omega arith) in
      let many : 0 + length (take i bids) ≡ i = omega (arith, length-take-le i bids (omega arith)) in
      let rolls : sell round 0 (take (suc i) bids) roll ≡ sold_one round i (get_or bids i no_bid) (sell round 0 (take i bids) roll) =
      ap (λ (bs : List Bid). sell round 0 bs roll) (take-suc bids i no_bid (omega arith)) ∙ sell-more round 0 (take i bids) (get_or bids i no_bid) roll ∙ rw many in (
        rw (p, rolls) (one-sold i (omega arith) c s (sell round 0 (take i bids) roll) before.0 before.1),
        rw p (enough-next i (omega arith) c before.0.long before.1),
      )

pub sell-kept : (u : Units) (bids : List Bid) (roll : List Entry) → Kept u bids roll → length bids ≤ 256 → ((b : ℕ) → b < length bids → (get_or bids b no_bid).pool < 4)
    → (round : ℕ) (rounds pools prices won : List ℕ) → Lent bids rounds pools prices won
    → ((b : ℕ) → b < length bids → (get_or bids b no_bid).stands ≡ false → (get_or bids b no_bid).won ≡ 0)
    → ((pool : ℕ) → pool < 4 → won_where (in_auction round pool) bids ≤ open_units roll pool)
    → Kept (sell_units u (length bids) round rounds pools prices won) bids (sell round 0 bids roll)
unfolding sell_units
sell-kept u bids roll kept few below round rounds pools prices won lent none-withdrawn enough =
    let all : min (length bids) 256 ≡ length bids = min-eq_left few in
    let sold = sold-tied u.allocation u.noted u.buyers bids few below round rounds pools prices won lent none-withdrawn u.counts u.sums roll kept.tied
    (λ pool l. omega (arith, enough pool l, open-shown u bids roll kept pool l)) (length bids) (omega arith) in
    rw all (record { tied = rw (take-length bids) at sold.0; four = kept.four; long = kept.long; buyers = kept.buyers })

-- ---- ALLOCATE

-- a new price for a pool: only the units allocated in it have another label
priced-unit : (allocation noted buyers : List ℕ) (bids : List Bid) (pool price : ℕ) → (k : ℕ) → k < 780 → ((m : ℕ) → m < 32 → k ≡ allocated_at pool m → ⊥)
    → unit_at (set allocation pool price) noted buyers bids k ≡ unit_at allocation noted buyers bids k
priced-unit allocation noted buyers bids pool price =
    let new = set allocation pool price in
    by_place (λ k. ((m : ℕ) → m < 32 → k ≡ allocated_at pool m → ⊥) → unit_at new noted buyers bids k ≡ unit_at allocation noted buyers bids k)
    (λ i l a. unit-open new noted buyers bids i l ∙ sym (unit-open allocation noted buyers bids i l))
    (λ p m lp lm a.
    unit-allocated new noted buyers bids p m lp lm
    ∙ rw (get_or-set_other allocation pool p price 0 (λ e. a m lm (ap (λ (x : ℕ). allocated_at x m) e)))
    (sym (unit-allocated allocation noted buyers bids p m lp lm)))
    (λ b l a. unit-sold new noted buyers bids b l ∙ sym (unit-sold allocation noted buyers bids b l))
    (λ p m lp lm a. unit-moved new noted buyers bids p m lp lm ∙ sym (unit-moved allocation noted buyers bids p m lp lm))
    (λ i l a. unit-torn new noted buyers bids i l ∙ sym (unit-torn allocation noted buyers bids i l))
    (λ p l a. unit-agreed new noted buyers bids p l ∙ sym (unit-agreed allocation noted buyers bids p l))

-- every price at a place is within its limit exactly if those of ALLOCATE, those noted and those of the bids are
pub record Low (allocation noted buyers : List ℕ) (bids : List Bid) : Type 0 where
  pub given : (p : ℕ) → p < 4 → get_or allocation p 0 ≤ price_limit
  pub torn : (i : ℕ) → i < 264 → get_or noted i 0 ≤ price_limit
  pub bid : (b : ℕ) → b < 256 → (get_or bids b no_bid).price ≤ price_limit

pub low-labels : (allocation noted buyers : List ℕ) (bids : List Bid) → Low allocation noted buyers bids → (k : ℕ) → k < 780 → price_of bids (unit_at allocation noted buyers bids k).state ≤ price_limit
unfolding price_of
low-labels allocation noted buyers bids low =
    by_place (λ k. price_of bids (unit_at allocation noted buyers bids k).state ≤ price_limit)
    (λ i l. rw (unit-open allocation noted buyers bids i l) (omega arith))
    (λ p m lp lm. rw (unit-allocated allocation noted buyers bids p m lp lm) (low.given p lp))
    (λ b l. rw (unit-sold allocation noted buyers bids b l) (low.bid b l))
    (λ p m lp lm. rw (unit-moved allocation noted buyers bids p m lp lm) (omega arith))
    (λ i l. rw (unit-torn allocation noted buyers bids i l) (low.torn i (omega arith)))
    (λ p l. rw (unit-agreed allocation noted buyers bids p l) (low.torn (260 + p) (omega arith)))

pub labels-low : (allocation noted buyers : List ℕ) (bids : List Bid) → ((k : ℕ) → k < 780 → price_of bids (unit_at allocation noted buyers bids k).state ≤ price_limit) → Low allocation noted buyers bids
unfolding price_of
labels-low allocation noted buyers bids low = record {
  given = λ p l. rw (unit-allocated allocation noted buyers bids p 0 l (omega arith)) at (low (allocated_at p 0) (omega arith));
  torn = λ i l. ⊎_elim
      (λ few. rw (unit-torn allocation noted buyers bids i few) at (low (516 + i) (omega arith)))
      (λ far.
      let p = i - 260 in
      let place : 260 + p ≡ i = omega arith in
      rw (unit-agreed allocation noted buyers bids p (omega arith), place) at (low (agreed_at p) (omega arith)))
      (lt-or-le i 260);
  bid = λ b l. rw (unit-sold allocation noted buyers bids b l) at (low (sold_at b) (omega arith));
}

module _ (allocation noted buyers : List ℕ) (bids : List Bid) (pool price : ℕ) (lp : pool < 4) (is : get_or allocation pool 0 ≡ price) (shares : List ℕ) where
  shared-tied : (ms : List ℕ) (counts sums : List ℕ) (roll : List Entry) → Each (λ m. m < 32) ms → sum (map (λ m. get_or shares m 0) ms) ≤ get_or counts pool 0
      → Tied counts sums (unit_at allocation noted buyers bids) bids roll
      → Tied (shared_counts pool shares ms counts) (shared_sums pool price shares ms sums) (unit_at allocation noted buyers bids) bids (give_shares pool price shares ms roll)
  unfolding shared_counts shared_sums give_shares sum price_of
  shared-tied [] counts sums roll small few tied = tied
  shared-tied (m ∷ ms) counts sums roll small few tied =
      let n = get_or shares m 0 in
      let to = allocated_at pool m in
      let l : m < 32 = small.0 in
      let given = give-tied allocation noted buyers bids counts sums roll tied pool to n (Allocated m price) lp (omega arith) (omega arith) (omega arith)
      (unit-allocated allocation noted buyers bids pool m lp l ∙ rw is) in
      shared-tied ms (transferred counts pool to n) (repriced sums pool n zero_price price) (give_lowest pool (Allocated m price) n roll) small.1
      (omega (arith, passed-from counts pool to n (omega (arith, tied.long)) (λ e. absurd (omega arith)))) given

pub allocate-kept : (u : Units) (bids : List Bid) (roll : List Entry) → Kept u bids roll → (set' pool price : ℕ) → pool < 4 → price ≤ price_limit → (shares : List ℕ)
    → sum (map (λ m. get_or shares m 0) (members set')) ≤ open_units roll pool → ((m : ℕ) → m < 32 → get_or u.counts (allocated_at pool m) 0 ≡ 0)
    → Kept (allocate_units u set' pool price shares) bids (give_shares pool price shares (members set') roll)
unfolding allocate_units
allocate-kept u bids roll kept set' pool price lp low shares few none-there =
    let t = kept.tied in
    let new = set u.allocation pool price in
    let same : (k : ℕ) → k < 780 → 0 < get_or u.counts k 0 → unit_at new u.noted u.buyers bids k ≡ unit_of u bids k =
    λ k l some. priced-unit u.allocation u.noted u.buyers bids pool price k l (λ m lm e. absurd (omega (arith, none-there m lm, rw e at some))) in
    let labels = labels-low u.allocation u.noted u.buyers bids t.low in
    let priced = low-labels new u.noted u.buyers bids (record {
      given = λ p l. set_cases (λ (x : ℕ). x ≤ price_limit) u.allocation pool price 0 p (λ e. low) (labels.given p l);
      torn = labels.torn;
      bid = labels.bid;
    }) in
    let start = relabelled u.counts u.sums (unit_of u bids) (unit_at new u.noted u.buyers bids) bids bids roll t same (λ k l some. refl) priced in
    rw (lt-ltb pool 4 lp) (record {
      tied = shared-tied new u.noted u.buyers bids pool price lp (get_or-set_same u.allocation pool price 0 (omega (arith, kept.four))) shares (members set') u.counts u.sums roll
          (each_more _ _ (λ m o. o.0) (members set') (members-each set')) (omega (arith, open-shown u bids roll kept pool lp)) start;
      four = length-set u.allocation pool price ∙ kept.four;
      long = kept.long;
      buyers = kept.buyers;
    })

-- ---- other bids

-- where each bid that has units keeps its pool and its price
pub bids-kept : (u : Units) (old new : List Bid) (roll : List Entry) → Kept u old roll → ((b : ℕ) → b < 256 → (get_or new b no_bid).price ≤ price_limit)
    → ((b : ℕ) → b < 256 → 0 < get_or u.counts (sold_at b) 0 → ((get_or new b no_bid).pool ≡ (get_or old b no_bid).pool) × ((get_or new b no_bid).price ≡ (get_or old b no_bid).price))
    → Kept u new roll
unfolding price_of
bids-kept u old new roll kept low same = record {
  tied = relabelled u.counts u.sums (unit_of u old) (unit_of u new) old new roll t labels prices
      (low-labels a r y new (record { given = (labels-low a r y old t.low).given; torn = (labels-low a r y old t.low).torn; bid = low }));
  four = kept.four;
  long = kept.long;
  buyers = kept.buyers;
}
  where
    t : Tied u.counts u.sums (unit_of u old) old roll
    t = kept.tied

    a : List ℕ
    a = u.allocation

    r : List ℕ
    r = u.noted

    y : List ℕ
    y = u.buyers

    labels : (k : ℕ) → k < 780 → 0 < get_or u.counts k 0 → unit_of u new k ≡ unit_of u old k
    labels =
        by_place (λ k. 0 < get_or u.counts k 0 → unit_at a r y new k ≡ unit_at a r y old k)
        (λ i l some. unit-open a r y new i l ∙ sym (unit-open a r y old i l))
        (λ p m lp lm some. unit-allocated a r y new p m lp lm ∙ sym (unit-allocated a r y old p m lp lm))
        (λ b l some. unit-sold a r y new b l ∙ rw (same b l some).0 (sym (unit-sold a r y old b l)))
        (λ p m lp lm some. unit-moved a r y new p m lp lm ∙ sym (unit-moved a r y old p m lp lm))
        (λ i l some. unit-torn a r y new i l ∙ sym (unit-torn a r y old i l))
        (λ p l some. unit-agreed a r y new p l ∙ sym (unit-agreed a r y old p l))

    prices : (k : ℕ) → k < 780 → 0 < get_or u.counts k 0 → price_of new (unit_of u old k).state ≡ price_of old (unit_of u old k).state
    prices =
        by_place (λ k. 0 < get_or u.counts k 0 → price_of new (unit_at a r y old k).state ≡ price_of old (unit_at a r y old k).state)
        (λ i l some. rw (unit-open a r y old i l))
        (λ p m lp lm some. rw (unit-allocated a r y old p m lp lm))
        (λ b l some. rw (unit-sold a r y old b l) (same b l some).1)
        (λ p m lp lm some. rw (unit-moved a r y old p m lp lm))
        (λ i l some. rw (unit-torn a r y old i l))
        (λ p l some. rw (unit-agreed a r y old p l))
