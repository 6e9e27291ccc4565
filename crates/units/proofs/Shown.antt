-- What is read of the units is what the roll shows. Assumes nothing.
use mathlib.Core.Path.{◌≡◌, refl, sym, ap, ◌∙◌}
use mathlib.Core.Bool.{Bool, true, false, ◌&&◌, ◌||◌, not, and-true, and-false, and_comm, or-true, false≢true}
use mathlib.Core.Logic.{⊎_elim}
use mathlib.Core.List.{List, [], ◌∷◌}
use Prim.Native.Nat.{ℕ, zero, suc, ◌+◌, ◌*◌, ◌%◌, ◌≤◌, ◌<◌}
use native.Mathlib.Nat.{mul-zero, mul-one}
use native.Mathlib.Omega.{arith}
use lib.Dec.{ltb, eqb}
use lib.ListN.{length, get_or}
use borrow.Author.Tests.{lt-ltb, le-ltb, eqb-true, eqb-false, eq-eqb, ne_eqb}
use Rattle.lists.specs.Lists.{when◌then◌else◌, sum, sum_to, one_if, count, keep, tab}
use Rattle.lists.proofs.Bools.{cases, eqb_same, same-choice, and_left, and_right, lt-or-le}
use Rattle.lists.proofs.Sums.{sum_to-ext, sum_to-zero}
use Rattle.lists.proofs.Counts.{any-count}
use Rattle.lists.proofs.Keep.{sum_to-one}
use Rattle.lists.proofs.Each.{Each, each_more}
use Rattle.auction.specs.Price.{zero_price}
use Rattle.machine.specs.Roll.{UnitState, Open, Sold, Allocated, Moved, Torn, Agreed, Entry, Bid, no_bid, kind, is_open, price_of, held_by, passed_to, is_agreed, agreed_in, any_open, prices, sold_by_agreement}
use Rattle.machine.specs.Run.{five_counts, holding}
use Rattle.machine.specs.Running.{left_prices}
use Rattle.machine.proofs.Running.{left-count, left-sum}
use Rattle.units.specs.declared.Units.{Units}
use Rattle.units.specs.Places.{allocated_at, sold_at, moved_at, agreed_at, unit_at, over}
use Rattle.units.specs.Steps.{zero_sum}
use Rattle.units.specs.Shown.{agreed_of, buyer_of, sale_price_of, column, sold_in, kind_of, count_of, sold_for, holding_of, passed_of, sum_of, zero_prices, prices_of}
use Rattle.units.proofs.Places.{unit-open, unit-allocated, unit-sold, unit-moved, unit-torn, unit-agreed, by_place, weigh-parts, sum_rows}
use Rattle.units.proofs.Weighing.{each-entry}
use Rattle.units.proofs.Over.{count-over}
use Rattle.units.proofs.Tied.{in_pool, price_in, in-it, not-in-it}
use Rattle.units.proofs.Kept.{Kept}

-- ---- sums of what passes a test

times-if : (b : Bool) (n : ℕ) → n * one_if b ≡ (when b then n else 0)
unfolding one_if
times-if true n = mul-one n
times-if false n = mul-zero n

-- two tests that agree where there is something to count
if-same : (a b : Bool) (n : ℕ) → (0 < n → a ≡ b) → (when a then n else 0) ≡ (when b then n else 0)
if-same a b zero same = same-choice {A = ℕ} a 0 ∙ sym (same-choice {A = ℕ} b 0)
if-same a b (suc n) same = rw (same (omega arith))

sum-nothing : (n : ℕ) (f : ℕ → ℕ) → ((k : ℕ) → k < n → f k ≡ 0) → sum_to n f ≡ 0
sum-nothing n f h = sum_to-ext n f (λ k. 0) h ∙ sum_to-zero n

-- one place of several
sum_one : (n j : ℕ) (f : ℕ → ℕ) → j < n → ((k : ℕ) → k < n → (k ≡ j → ⊥) → f k ≡ 0) → sum_to n f ≡ f j
sum_one n j f l others =
    sum_to-ext n f (λ k. when eqb k j then f j else 0)
    (λ k h. cases (eqb k j) _ (λ t. rw (t, eqb-true k j t)) (λ t. rw t (others k h (eqb-false k j t))))
    ∙ sum_to-one n j (f j) l

module _ (u : Units) (bids : List Bid) (roll : List Entry) (kept : Kept u bids roll) where
  abbrev c : ℕ → ℕ
  c k = get_or u.counts k 0

  -- how many entries pass a test, kind by kind
  by_parts : (t : Entry → Bool) → count t roll
      ≡ sum_to 4 (λ p. when t (record { pool = p; state = Open }) then c p else 0)
      + sum_to 32 (λ m. sum_to 4 (λ p. when t (record { pool = p; state = Allocated m (get_or u.allocation p 0) }) then c (allocated_at p m) else 0))
      + sum_to 256 (λ b. when t (record { pool = (get_or bids b no_bid).pool; state = Sold b }) then c (sold_at b) else 0)
      + sum_to 32 (λ m. sum_to 4 (λ p. when t (record { pool = p; state = Moved m }) then c (moved_at p m) else 0))
      + sum_to 260 (λ i. when t (record { pool = i % 4; state = Torn (get_or u.noted i 0) }) then c (516 + i) else 0)
      + sum_to 4 (λ p. when t (record { pool = p; state = Agreed (get_or u.buyers p 0) (get_or u.noted (260 + p) 0) }) then c (agreed_at p) else 0)
  by_parts t =
      let a = u.allocation in
      let r = u.noted in
      let y = u.buyers in
      let unit = unit_at a r y bids in
      let v : ℕ → ℕ = λ k. one_if (t (unit k)) in
      omega (
        arith,
        count-over t roll,
        kept.tied.counted.all (λ e. one_if (t e)),
        weigh-parts u.counts v,
        sum_to-ext 4 (λ p. c p * v p) (λ p. when t (record { pool = p; state = Open }) then c p else 0) (λ p l. rw (unit-open a r y bids p l) (times-if _ (c p))),
        sum_to-ext 32 (λ m. sum_to 4 (λ p. c (allocated_at p m) * v (allocated_at p m)))
            (λ m. sum_to 4 (λ p. when t (record { pool = p; state = Allocated m (get_or a p 0) }) then c (allocated_at p m) else 0))
            (λ m lm. sum_to-ext 4 _ _ (λ p lp. rw (unit-allocated a r y bids p m lp lm) (times-if _ (c (allocated_at p m))))),
        sum_to-ext 256 (λ b. c (sold_at b) * v (sold_at b)) (λ b. when t (record { pool = (get_or bids b no_bid).pool; state = Sold b }) then c (sold_at b) else 0)
            (λ b l. rw (unit-sold a r y bids b l) (times-if _ (c (sold_at b)))),
        sum_to-ext 32 (λ m. sum_to 4 (λ p. c (moved_at p m) * v (moved_at p m)))
            (λ m. sum_to 4 (λ p. when t (record { pool = p; state = Moved m }) then c (moved_at p m) else 0))
            (λ m lm. sum_to-ext 4 _ _ (λ p lp. rw (unit-moved a r y bids p m lp lm) (times-if _ (c (moved_at p m))))),
        sum_to-ext 260 (λ i. c (516 + i) * v (516 + i)) (λ i. when t (record { pool = i % 4; state = Torn (get_or r i 0) }) then c (516 + i) else 0)
            (λ i l. rw (unit-torn a r y bids i l) (times-if _ (c (516 + i)))),
        sum_to-ext 4 (λ p. c (agreed_at p) * v (agreed_at p)) (λ p. when t (record { pool = p; state = Agreed (get_or y p 0) (get_or r (260 + p) 0) }) then c (agreed_at p) else 0)
            (λ p l. rw (unit-agreed a r y bids p l) (times-if _ (c (agreed_at p)))),
      )

  -- ---- the five counts

  module _ (pools : List ℕ) (lent : (b : ℕ) → b < 256 → 0 < c (sold_at b) → get_or pools b 0 ≡ (get_or bids b no_bid).pool) (pool : ℕ) (l : pool < 4) where
    -- one pool of four
    row : (g : ℕ → ℕ) (b : Bool) → sum_to 4 (λ p. when eqb p pool && b then g p else 0) ≡ (when b then g pool else 0)
    row g b =
        sum_one 4 pool (λ p. when eqb p pool && b then g p else 0) l (λ p lp a. rw (ne_eqb p pool a)) ∙ rw (eq-eqb pool pool refl)

    -- a number of rows of four
    rows : (n first : ℕ) (b : Bool) → sum_to n (λ m. sum_to 4 (λ p. when eqb p pool && b then c (first + (4 * m + p)) else 0)) ≡ (when b then column u.counts (first + pool) n else 0)
    unfolding column
    rows n first true =
        sum_to-ext n _ _
        (λ m lm. row (λ p. c (first + (4 * m + p))) true ∙ (let e : first + (4 * m + pool) ≡ first + pool + 4 * m = omega arith in ap c e))
    rows n first false = sum-nothing n _ (λ m lm. row (λ p. c (first + (4 * m + p))) false)

    open-part : (b : Bool) → sum_to 4 (λ p. when eqb p pool && b then c p else 0) ≡ (when b then column u.counts pool 1 else 0)
    unfolding column sum_to
    open-part true = row c true ∙ (let e : pool ≡ pool + 4 * 0 = omega arith in omega (arith, ap c e))
    open-part false = row c false

    sold-part : (b : Bool) → sum_to 256 (λ i. when eqb (get_or bids i no_bid).pool pool && b then c (sold_at i) else 0) ≡ (when b then sold_in u.counts pools pool else 0)
    unfolding sold_in
    sold-part true =
        sum_to-ext 256 _ _
        (λ i li. if-same (eqb (get_or bids i no_bid).pool pool && true) (eqb (get_or pools i 0) pool) (c (sold_at i)) (λ some. and-true (eqb (get_or bids i no_bid).pool pool) ∙ rw (lent i li some)))
    sold-part false = sum-nothing 256 _ (λ i li. rw (and-false (eqb (get_or bids i no_bid).pool pool)))

    torn-part : (b : Bool) → sum_to 260 (λ i. when eqb (i % 4) pool && b then c (516 + i) else 0) ≡ (when b then column u.counts (516 + pool) 65 else 0)
    torn-part b =
        sum_rows 65 (λ i. when eqb (i % 4) pool && b then c (516 + i) else 0)
        ∙ sum_to-ext 65 _ _ (λ r lr. sum_to-ext 4 _ _ (λ p lp. let e : (4 * r + p) % 4 ≡ p = omega arith in rw e))
        ∙ rows 65 516 b

    kind-count : (k : ℕ) → count (λ e. eqb e.pool pool && eqb (kind e.state) k) roll ≡ kind_of u pools pool k
    unfolding kind agreed_of
    kind-count k =
        by_parts (λ e. eqb e.pool pool && eqb (kind e.state) k)
        ∙ rw (open-part (eqb 0 k), rows 32 4 (eqb 2 k), sold-part (eqb 1 k), rows 32 388 (eqb 3 k), torn-part (eqb 4 k), row (λ p. c (agreed_at p)) (eqb 1 k)) (go k)
      where
        go : (k : ℕ) → (when eqb 0 k then column u.counts pool 1 else 0) + (when eqb 2 k then column u.counts (4 + pool) 32 else 0) + (when eqb 1 k then sold_in u.counts pools pool else 0)
            + (when eqb 3 k then column u.counts (388 + pool) 32 else 0) + (when eqb 4 k then column u.counts (516 + pool) 65 else 0)
            + (when eqb 1 k then c (agreed_at pool) else 0) ≡ kind_of u pools pool k
        go zero = omega arith
        go (suc zero) = rw (lt-ltb pool 4 l) (omega arith)
        go (suc (suc zero)) = omega arith
        go (suc (suc (suc zero))) = omega arith
        go (suc (suc (suc (suc zero)))) = omega arith
        go (suc (suc (suc (suc (suc k))))) =
            let n = suc (suc (suc (suc (suc k)))) in
            rw (ne_eqb 0 n (omega arith), ne_eqb 1 n (omega arith), ne_eqb 2 n (omega arith), ne_eqb 3 n (omega arith), ne_eqb 4 n (omega arith))

    pub five-shown : tab 5 (count_of u pools pool) ≡ five_counts roll pool
    unfolding five_counts count_of tab
    five-shown = rw (lt-ltb pool 4 l, kind-count 0, kind-count 1, kind-count 2, kind-count 3, kind-count 4)

  -- ---- holdings

  module _ (members pools prices' : List ℕ)
      (lent : (b : ℕ) → b < 256 → 0 < c (sold_at b) → (get_or members b 0 ≡ (get_or bids b no_bid).member) × (get_or pools b 0 ≡ (get_or bids b no_bid).pool) × (get_or prices' b 0 ≡ (get_or bids b no_bid).price))
      (m pool price : ℕ) (lm : m < 32) (lp : pool < 4) where
    -- one member and pool
    held_one : (g : ℕ → ℕ → ℕ) (b : ℕ → Bool)
        → sum_to 32 (λ a. sum_to 4 (λ p. when eqb p pool && eqb a m && b p then g p a else 0)) ≡ (when b pool then g pool m else 0)
    held_one g b =
        sum_one 32 m (λ a. sum_to 4 (λ p. when eqb p pool && eqb a m && b p then g p a else 0)) lm
        (λ a la no. sum-nothing 4 _ (λ p l. rw (ne_eqb a m no, and-false (eqb p pool))))
        ∙ sum_one 4 pool (λ p. when eqb p pool && eqb m m && b p then g p m else 0) lp (λ p l no. rw (ne_eqb p pool no))
        ∙ rw (eq-eqb pool pool refl, eq-eqb m m refl)

    sold-to : sum_to 256 (λ b. when eqb (get_or bids b no_bid).pool pool && eqb (get_or bids b no_bid).member m && eqb (get_or bids b no_bid).price price then c (sold_at b) else 0)
        ≡ sold_for u.counts members pools prices' m pool price
    unfolding sold_for
    sold-to =
        sum_to-ext 256 _ _
        (λ i li.
        let p = (get_or bids i no_bid).pool in
        let who = (get_or bids i no_bid).member in
        let at = (get_or bids i no_bid).price in
        if-same (eqb p pool && eqb who m && eqb at price) (eqb (get_or members i 0) m && eqb (get_or pools i 0) pool && eqb (get_or prices' i 0) price) (c (sold_at i))
        (λ some. let e = lent i li some in rw (e.0, e.1, e.2) (ap (λ (b : Bool). b && eqb at price) (and_comm (eqb p pool) (eqb who m)))))

    pub holding-shown : holding_of u members pools prices' m pool price ≡ holding bids roll m pool price
    unfolding holding holding_of agreed_of buyer_of sale_price_of held_by price_of
    holding-shown =
        let a = u.allocation in
        rw (lt-ltb pool 4 lp, lt-ltb m 32 lm)
        (sym (by_parts (λ e. eqb e.pool pool && held_by bids m e.state && eqb (price_of bids e.state) price)
        ∙ omega (
          arith,
          sum-nothing 4 (λ p. when eqb p pool && false && eqb zero_price price then c p else 0) (λ p l. rw (and-false (eqb p pool))),
          held_one (λ p x. c (allocated_at p x)) (λ p. eqb (get_or a p 0) price),
          sold-to,
          held_one (λ p x. c (moved_at p x)) (λ p. eqb zero_price price),
          same-price,
          sum-nothing 260 (λ i. when eqb (i % 4) pool && false && eqb (get_or u.noted i 0) price then c (516 + i) else 0) (λ i l. rw (and-false (eqb (i % 4) pool))),
          agreed-one,
        )))
      where
        agreed-one : sum_to 4 (λ p. when eqb p pool && eqb (get_or u.buyers p 0) m && eqb (get_or u.noted (260 + p) 0) price then c (agreed_at p) else 0)
            ≡ (when eqb (get_or u.buyers pool 0) m && eqb (get_or u.noted (260 + pool) 0) price then c (agreed_at pool) else 0)
        agreed-one =
            sum_one 4 pool (λ p. when eqb p pool && eqb (get_or u.buyers p 0) m && eqb (get_or u.noted (260 + p) 0) price then c (agreed_at p) else 0) lp
            (λ p l no. rw (ne_eqb p pool no))
            ∙ rw (eq-eqb pool pool refl)

        same-price : (when eqb zero_price price then c (moved_at pool m) else 0) ≡ (when eqb price zero_price then c (moved_at pool m) else 0)
        same-price = rw (eqb_same zero_price price price zero_price (λ e. sym e) (λ e. sym e))

  -- ---- units allocated or moved to a member

  pub passed-shown : (m : ℕ) → m < 32 → count (λ e. passed_to m e.state) roll ≡ passed_of u m
  unfolding passed_to passed_of
  passed-shown m lm =
      rw (lt-ltb m 32 lm)
      (by_parts (λ e. passed_to m e.state)
      ∙ omega (
        arith,
        sum-nothing 4 (λ p. when false then c p else 0) (λ p l. refl),
        one (λ p a. c (allocated_at p a)),
        sum-nothing 256 (λ b. when false then c (sold_at b) else 0) (λ b l. refl),
        one (λ p a. c (moved_at p a)),
        sum-nothing 260 (λ i. when false then c (516 + i) else 0) (λ i l. refl),
        sum-nothing 4 (λ p. when false then c (agreed_at p) else 0) (λ p l. refl),
      ))
    where
      one : (g : ℕ → ℕ → ℕ) → sum_to 32 (λ a. sum_to 4 (λ p. when eqb a m then g p a else 0)) ≡ sum_to 4 (λ p. g p m)
      one g =
          sum_one 32 m (λ a. sum_to 4 (λ p. when eqb a m then g p a else 0)) lm (λ a la no. sum-nothing 4 _ (λ p l. rw (ne_eqb a m no)))
          ∙ sum_to-ext 4 _ _ (λ p l. rw (eq-eqb m m refl))

  -- ---- open units in any pool

  open-count : count is_open roll ≡ sum_to 4 c
  unfolding is_open kind
  open-count =
      by_parts is_open
      ∙ omega (
        arith,
        sum-nothing 32 (λ m. sum_to 4 (λ p. when false then c (allocated_at p m) else 0)) (λ m l. sum-nothing 4 _ (λ p lp. refl)),
        sum-nothing 256 (λ b. when false then c (sold_at b) else 0) (λ b l. refl),
        sum-nothing 32 (λ m. sum_to 4 (λ p. when false then c (moved_at p m) else 0)) (λ m l. sum-nothing 4 _ (λ p lp. refl)),
        sum-nothing 260 (λ i. when false then c (516 + i) else 0) (λ i l. refl),
        sum-nothing 4 (λ p. when false then c (agreed_at p) else 0) (λ p l. refl),
      )

  -- ---- sold by agreement

  pub agreed-count : (pool : ℕ) → pool < 4 → count (agreed_in pool) roll ≡ c (agreed_at pool)
  unfolding is_agreed
  agreed-count pool l =
      by_parts (agreed_in pool)
      ∙ omega (
        arith,
        sum-nothing 4 (λ p. when false then c p else 0) (λ p l. refl),
        sum-nothing 32 (λ m. sum_to 4 (λ p. when false then c (allocated_at p m) else 0)) (λ m l. sum-nothing 4 _ (λ p lp. refl)),
        sum-nothing 256 (λ b. when false then c (sold_at b) else 0) (λ b l. refl),
        sum-nothing 32 (λ m. sum_to 4 (λ p. when false then c (moved_at p m) else 0)) (λ m l. sum-nothing 4 _ (λ p lp. refl)),
        sum-nothing 260 (λ i. when false then c (516 + i) else 0) (λ i l. refl),
        one,
      )
    where
      one : sum_to 4 (λ p. when eqb p pool then c (agreed_at p) else 0) ≡ c (agreed_at pool)
      one = sum_one 4 pool (λ p. when eqb p pool then c (agreed_at p) else 0) l (λ p lp no. rw (ne_eqb p pool no)) ∙ rw (eq-eqb pool pool refl)

  pub agreed-shown : (pool : ℕ) → pool < 4 → sold_by_agreement roll pool ≡ ltb 0 (c (agreed_at pool))
  unfolding sold_by_agreement
  agreed-shown pool l = any-count (agreed_in pool) roll ∙ ap (ltb 0) (agreed-count pool l)

  -- all of a pool's units sold by agreement have one buyer and one price
  module _ (pool : ℕ) (l : pool < 4) where
    abbrev label : UnitState
    label = Agreed (buyer_of u pool) (sale_price_of u pool)

    -- whether an entry, if it is sold by agreement in the pool, has them
    abbrev labelled : UnitState → Bool
    labelled Open = true
    labelled (Sold bid) = true
    labelled (Allocated m price) = true
    labelled (Moved m) = true
    labelled (Torn price) = true
    labelled (Agreed m price) = eqb m (get_or u.buyers pool 0) && eqb price (get_or u.noted (260 + pool) 0)

    abbrev fine : Entry → Bool
    fine e = not (eqb e.pool pool) || labelled e.state

    each-fine : (k : ℕ) → k < 780 → fine (unit_at u.allocation u.noted u.buyers bids k) ≡ true
    each-fine =
        let a = u.allocation in
        let r = u.noted in
        let y = u.buyers in
        by_place (λ k. fine (unit_at a r y bids k) ≡ true)
        (λ p lp. rw (unit-open a r y bids p lp) (or-true (not (eqb p pool))))
        (λ p m lp lm. rw (unit-allocated a r y bids p m lp lm) (or-true (not (eqb p pool))))
        (λ b lb. rw (unit-sold a r y bids b lb) (or-true (not (eqb (get_or bids b no_bid).pool pool))))
        (λ p m lp lm. rw (unit-moved a r y bids p m lp lm) (or-true (not (eqb p pool))))
        (λ i li. rw (unit-torn a r y bids i li) (or-true (not (eqb (i % 4) pool))))
        (λ p lp. rw (unit-agreed a r y bids p lp) (own p))
      where
        own : (p : ℕ) → (not (eqb p pool) || (eqb (get_or u.buyers p 0) (get_or u.buyers pool 0) && eqb (get_or u.noted (260 + p) 0) (get_or u.noted (260 + pool) 0))) ≡ true
        own p = cases (eqb p pool) _
            (λ t. let e = eqb-true p pool t in rw (t, e, eq-eqb (get_or u.buyers pool 0) (get_or u.buyers pool 0) refl, eq-eqb (get_or u.noted (260 + pool) 0) (get_or u.noted (260 + pool) 0) refl))
            (λ t. rw t)

    fine-is : (p : ℕ) (s : UnitState) → (not (eqb p pool) || labelled s) ≡ true → (is_agreed s && eqb p pool) ≡ true → s ≡ label
    unfolding is_agreed buyer_of sale_price_of
    fine-is p Open f a = absurd (false≢true a)
    fine-is p (Sold bid) f a = absurd (false≢true a)
    fine-is p (Allocated m price) f a = absurd (false≢true a)
    fine-is p (Moved m) f a = absurd (false≢true a)
    fine-is p (Torn price) f a = absurd (false≢true a)
    fine-is p (Agreed m price) f a =
        let both : (eqb m (get_or u.buyers pool 0) && eqb price (get_or u.noted (260 + pool) 0)) ≡ true = rw a at f in
        rw (lt-ltb pool 4 l) (cc (eqb-true m _ (and_left _ _ both), eqb-true price _ (and_right (eqb m (get_or u.buyers pool 0)) _ both)))

    pub agreed-entries : Each (λ e. agreed_in pool e ≡ true → e.state ≡ label) roll
    agreed-entries =
        each_more _ _ (λ e f a. fine-is e.pool e.state f a) roll
        (each-entry u.counts (unit_at u.allocation u.noted u.buyers bids) roll kept.tied.counted fine (λ k lk some. each-fine k lk))

  pub any-open-shown : any_open roll ≡ ltb 0 (sum_to 4 c)
  unfolding any_open
  any-open-shown = any-count is_open roll ∙ ap (ltb 0) open-count

-- ---- the sum of prices

-- an open entry counts as one at price 0
open-price : (bids : List Bid) (e : Entry) → is_open e ≡ true → price_of bids e.state ≡ zero_price
unfolding is_open kind price_of
open-price bids e h = go e.state h
  where
    go : (s : UnitState) → eqb (kind s) 0 ≡ true → price_of bids s ≡ zero_price
    go Open h = refl
    go (Sold b) h = absurd (false≢true h)
    go (Allocated m price) h = absurd (false≢true h)
    go (Moved m) h = absurd (false≢true h)
    go (Torn price) h = absurd (false≢true h)
    go (Agreed m price) h = absurd (false≢true h)

-- so the open ones fall out of units and prices alike
pool-priced : (bids : List Bid) (roll : List Entry) (pool : ℕ)
    → over roll (price_in bids pool) + zero_price * length (left_prices bids roll pool) ≡ zero_price * over roll (in_pool pool) + sum (left_prices bids roll pool)
unfolding left_prices keep sum
pool-priced bids [] pool = omega arith
pool-priced bids (e ∷ es) pool =
    let rest = pool-priced bids es pool in
    cases (eqb e.pool pool) _
    (λ t.
    let here = in-it bids pool e (eqb-true e.pool pool t) in
    cases (is_open e) _
    (λ o. rw o (omega (arith, here.0, here.1, open-price bids e o, rest)))
    (λ o. rw (o, t) (omega (arith, here.0, here.1, rest))))
    (λ t.
    let there = not-in-it bids pool e (eqb-false e.pool pool t) in
    rw (t, and-false (not (is_open e))) (omega (arith, there.0, there.1, rest)))

-- a pool that no case has has no unit
none_left : (bids : List Bid) (roll : List Entry) (pool : ℕ) → Each (λ e. e.pool < 4) roll → 4 ≤ pool → left_prices bids roll pool ≡ []
unfolding left_prices keep
none_left bids [] pool below far = refl
none_left bids (e ∷ es) pool below far =
    rw (ne_eqb e.pool pool (λ h. absurd (omega (arith, below.0))), and-false (not (is_open e))) (none_left bids es pool below.1 far)

module _ (u : Units) (bids : List Bid) (roll : List Entry) (kept : Kept u bids roll) (below : Each (λ e. e.pool < 4) roll) where
  -- the sum of a pool is held 1,000,000,000 too high, each price 1,000,000
  pub pool-prices-shown : (pool : ℕ) → sum_of u pool + zero_price * length (left_prices bids roll pool) ≡ zero_sum + sum (left_prices bids roll pool)
  unfolding sum_of sum
  pool-prices-shown pool =
      ⊎_elim
      (λ l. rw (lt-ltb pool 4 l) (omega (arith, pool-priced bids roll pool, kept.tied.summed pool l)))
      (λ far. rw (le-ltb pool 4 far, none_left bids roll pool below far) (omega arith))
      (lt-or-le pool 4)

  -- and that of all pools 4,000,000,000
  pub prices-shown : prices_of u + zero_price * length (prices bids roll) ≡ zero_prices + sum (prices bids roll)
  unfolding prices_of sum_to sum_of
  prices-shown =
      let s = pool-prices-shown in
      omega (arith, left-count bids roll below, left-sum bids roll below, s 0, s 1, s 2, s 3)
