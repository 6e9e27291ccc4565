-- What follows from `CaseOk` in the terms of the definitions: the counts of the roll, what stands at a number of a member, bid or pool, the worst reserve,
-- and the largest values. Assumes nothing.
use mathlib.Core.Path.{◌≡◌, refl, sym, ap, ◌∙◌}
use mathlib.Core.Bool.{Bool, true, false, ◌&&◌, not, false≢true}
use mathlib.Core.Logic.{⊎_elim}
use mathlib.Core.List.{List, [], ◌∷◌, map}
use Prim.Native.Nat.{ℕ, zero, suc, ◌+◌, ◌-◌, ◌*◌, ◌^◌, ◌≤◌, ◌<◌}
use native.Mathlib.Nat.{mul-le-mul_left}
use native.Mathlib.Omega.{arith}
use lib.Dec.{eqb}
use lib.ListN.{length, get_or, replicate, length-append, length-replicate, get_or-eq_default}
use borrow.Author.Tests.{eq-eqb, ne_eqb}
use Rattle.lists.specs.Lists.{when◌then◌else◌, one_if, sum, count, keep, least, map_from, tab}
use Rattle.lists.proofs.Bools.{cases, either, and_right, lt-or-le}
use Rattle.lists.proofs.Sums.{sum_bound, sum_to-bound, sum-scaled, least-each}
use Rattle.lists.proofs.Keep.{sum-keep-le, keep_all, keep-few, sum-keys}
use Rattle.lists.proofs.Counts.{count-append, count-replicate-in, count-replicate-out, count-of-map}
use Rattle.lists.proofs.Each.{Each, each_append, each-replicate, each_at, each-get, each_both, each_more, each-kept, each-kept-at, each-unmap, length-map}
use Rattle.sets.specs.Set.{member, members}
use Rattle.sets.proofs.Bits.{member-high}
use Rattle.sets.proofs.Members.{sum-members}
use Rattle.auction.specs.Price.{price_limit}
use Rattle.machine.specs.Roll.{UnitState, Open, Sold, Allocated, Moved, Torn, Agreed, Entry, Bid, no_bid, kind, is_open, open_units, price_of, prices, sold_by_agreement}
use Rattle.machine.specs.State.{Pool, Round, Case, no_pool, no_member, no_round, in_set, member_at}
use Rattle.machine.specs.Requirement.{requirement, contribution_of, contributions, prefunded}
use Rattle.machine.specs.Calls.{reserve, won_by_member}
use Rattle.machine.specs.Result.{worst_reserve, standing, payment_of, payments}
use Rattle.machine.specs.Run.{five_counts}
use Rattle.machine.proofs.Giving.{won_where, open-and-taken}
use Rattle.machine.proofs.Invariant.{PoolOk, MemberOk, RoundOk, BidOk, laid, EntryOk, of_pool, CaseOk}
use Rattle.machine.proofs.Stages.{few-rounds}
use Rattle.machine.proofs.Setters.{the_member}

-- ---- the units of pools, laid one after another

laid-length : (i : ℕ) (xs : List Pool) → length (laid i xs) ≡ sum (map (λ x. x.units) xs)
unfolding laid sum
laid-length i [] = refl
laid-length i (x ∷ xs) =
    omega (arith, length-append (replicate x.units i) (laid (suc i) xs), length-replicate x.units i, laid-length (suc i) xs)

-- below the first pool there is none
laid_none : (k i : ℕ) (xs : List Pool) → k < i → count (λ p. eqb p k) (laid i xs) ≡ 0
unfolding laid count
laid_none k i [] l = refl
laid_none k i (x ∷ xs) l =
    omega (
      arith,
      count-append (λ p. eqb p k) (replicate x.units i) (laid (suc i) xs),
      count-replicate-out (λ p. eqb p k) x.units i (ne_eqb i k (omega arith)),
      laid_none k (suc i) xs (omega arith),
    )

laid-count : (i : ℕ) (xs : List Pool) (k : ℕ) → count (λ p. eqb p (i + k)) (laid i xs) ≡ (get_or xs k no_pool).units
unfolding laid count
laid-count i [] k = refl
laid-count i (x ∷ xs) zero =
    omega (
      arith,
      count-append (λ p. eqb p (i + 0)) (replicate x.units i) (laid (suc i) xs),
      count-replicate-in (λ p. eqb p (i + 0)) x.units i (eq-eqb i (i + 0) (omega arith)),
      laid_none (i + 0) (suc i) xs (omega arith),
    )
laid-count i (x ∷ xs) (suc k) =
    let e : i + suc k ≡ suc i + k = omega arith in
    omega (
      arith,
      count-append (λ p. eqb p (i + suc k)) (replicate x.units i) (laid (suc i) xs),
      count-replicate-out (λ p. eqb p (i + suc k)) x.units i (ne_eqb i (i + suc k) (omega arith)),
      ap (λ (n : ℕ). count (λ p. eqb p n) (laid (suc i) xs)) e,
      laid-count (suc i) xs k,
    )

-- every entry's pool is one of those laid
laid-below : (i : ℕ) (xs : List Pool) → Each (λ p. p < i + length xs) (laid i xs)
unfolding laid
laid-below i [] = tt
laid-below i (x ∷ xs) =
    each_append _ (replicate x.units i) (laid (suc i) xs) (each-replicate _ x.units i (omega arith))
    (each_more _ _ (λ p l. omega arith) (laid (suc i) xs) (laid-below (suc i) xs))

units-bound : (xs : List Pool) → Each PoolOk xs → sum (map (λ x. x.units) xs) ≤ 1000 * length xs
unfolding sum
units-bound [] h = omega arith
units-bound (x ∷ xs) h = omega (arith, units-bound xs h.1, h.0.1)

-- what is left of a list where some entries count for nothing
some_left : (out : ℕ → Bool) (i : ℕ) (xs : List ℕ) → sum (map_from i (λ pool n. when out pool then 0 else n) xs) ≤ sum xs
unfolding map_from sum
some_left out i [] = omega arith
some_left out i (x ∷ xs) =
    omega (arith, some_left out (suc i) xs, either (λ (n : ℕ). n ≤ x) (out i) {x = 0} {y = x} (omega arith) (omega arith))

-- each entry is of one of the five kinds
five-kinds : (b : Bool) (s : UnitState) → sum (tab 5 (λ k. one_if (b && eqb (kind s) k))) ≡ one_if b
unfolding sum tab kind one_if
five-kinds true Open = refl
five-kinds true (Sold bid) = refl
five-kinds true (Allocated m price) = refl
five-kinds true (Moved m) = refl
five-kinds true (Torn price) = refl
five-kinds true (Agreed m price) = refl
five-kinds false s = refl

pub five-add : (pool : ℕ) (roll : List Entry) → sum (five_counts roll pool) ≡ count (λ e. eqb e.pool pool) roll
unfolding five_counts sum tab count
five-add pool [] = refl
five-add pool (e ∷ es) = omega (arith, five-kinds (eqb e.pool pool) e.state, five-add pool es)

module _ (c : Case) (ok : CaseOk c) where
  -- ---- the roll

  pub roll-length : length c.roll ≡ sum (map (λ x. x.units) c.pools)
  roll-length = sym (length-map (λ (e : Entry). e.pool) c.roll) ∙ ap length ok.roll.order ∙ laid-length 0 c.pools

  pub roll-small : length c.roll ≤ 4000
  roll-small = omega (arith, roll-length, units-bound c.pools ok.pools.each, ok.pools.few, ok.head.pools-most)

  -- the entries of a pool are its units
  pub pool-entries : (pool : ℕ) → count (λ e. eqb e.pool pool) c.roll ≡ (get_or c.pools pool no_pool).units
  pool-entries pool =
      sym (count-of-map (λ p. eqb p pool) (λ (e : Entry). e.pool) c.roll) ∙ ap (count (λ p. eqb p pool)) ok.roll.order
      ∙ ap (λ (n : ℕ). count (λ p. eqb p n) (laid 0 c.pools)) (omega arith) ∙ laid-count 0 c.pools pool

  -- the five counts of a pool add up to its units
  pub five-counts : (pool : ℕ) → sum (five_counts c.roll pool) ≡ (get_or c.pools pool no_pool).units
  five-counts pool = five-add pool c.roll ∙ pool-entries pool

  -- an entry's pool is one that is given
  pub entry-pools : Each (λ e. e.pool < length c.pools) c.roll
  entry-pools =
      each_more _ _ (λ e l. omega arith) c.roll
      (each-unmap (λ p. p < 0 + length c.pools) (λ e. e.pool) c.roll (rw ok.roll.order (laid-below 0 c.pools)))

  pub entry-ok : (i : ℕ) (d : Entry) → i < length c.roll → EntryOk c.head c.bids (get_or c.roll i d).pool (get_or c.roll i d).state
  entry-ok i d l = each_at (λ e. EntryOk c.head c.bids e.pool e.state) c.roll i d l ok.roll.each

  -- ---- by number

  pub pool-ok : (pool : ℕ) → ((get_or c.pools pool no_pool).units ≤ 1000) × ((get_or c.pools pool no_pool).mark ≤ 1)
  pool-ok pool =
      let P : Pool → Type 0 = λ x. (x.units ≤ 1000) × (x.mark ≤ 1) in
      each-get P c.pools pool no_pool (omega arith, omega arith) (each_more PoolOk P (λ x o. (o.1, o.2)) c.pools ok.pools.each)

  pub member-ok : (m : ℕ) → MemberOk c.head (member_at c.members m)
  member-ok = the_member c ok

  pub bid-ok : (b : ℕ) → b < length c.bids → BidOk c.head (length c.rounds) (get_or c.bids b no_bid)
  bid-ok b l = each_at (BidOk c.head (length c.rounds)) c.bids b no_bid l ok.bids.each

  pub round-ok : (r : ℕ) → r < length c.rounds → RoundOk c.head (get_or c.rounds r no_round)
  round-ok r l = each_at (RoundOk c.head) c.rounds r no_round l ok.rounds

  pub rounds-few : length c.rounds ≤ 2
  rounds-few = few-rounds c.stage (length c.rounds) ok.stage

  -- also where there is no such round or pool
  pub reserve-ok : (round pool : ℕ) → reserve c.rounds round pool ≤ price_limit
  unfolding reserve
  reserve-ok round pool =
      let r = get_or c.rounds (round - 1) no_round in
      ⊎_elim
      (λ l. each-get (λ p. p ≤ price_limit) r.reserves pool 0 (omega arith) (round-ok (round - 1) l).prices)
      (λ g. rw (get_or-eq_default c.rounds no_round {n = round - 1} g) (omega arith))
      (lt-or-le (round - 1) (length c.rounds))

  -- who is not in the set has nothing
  pub outside-nothing : (m : ℕ) → in_set c.head m ≡ false → member_at c.members m ≡ no_member
  outside-nothing m e =
      let x = member_at c.members m in
      (member-ok m).absent (cases x.given (x.given ≡ false) (λ g. absurd (false≢true (sym e ∙ ok.members.given-in-set m g))) (λ g. g))

  -- a set of 32 bits has no member above 31
  pub in-set-below : c.head.set < 2 ^ 32 → (m : ℕ) → in_set c.head m ≡ true → m < 32
  in-set-below small m e =
      ⊎_elim (λ l. l) (λ g. absurd (false≢true (sym (member-high c.head.set m small g) ∙ e))) (lt-or-le m 32)

  -- ---- units won

  pub won-le-units : (pool : ℕ) → won_where (of_pool pool) c.bids + open_units c.roll pool ≤ (get_or c.pools pool no_pool).units
  won-le-units pool = omega (arith, ok.won.total pool, open-and-taken pool c.roll, pool-entries pool)

  -- in all pools together
  pub won-small : sum (map (λ b. b.won) c.bids) ≤ 4000
  won-small =
      omega (
        arith,
        sum-keys 4 (λ (b : Bid). b.won) (λ b. b.pool) c.bids (each_more _ _ (λ b o. omega (arith, o.pool, ok.head.pools-most)) c.bids ok.bids.each),
        sum_to-bound 4 1000 (λ k. won_where (of_pool k) c.bids) (λ k l. omega (arith, won-le-units k, (pool-ok k).0)),
      )

  pub won-by-small : (p : Bid → Bool) → won_where p c.bids ≤ 4000
  won-by-small p =
      omega (
        arith,
        won-small,
        sum-keep-le p (λ b. true) (λ (b : Bid). b.won) c.bids (λ b e. refl),
        ap (λ (bs : List Bid). sum (map (λ (b : Bid). b.won) bs)) (keep_all c.bids),
      )

  pub won-by-member-small : (m pool : ℕ) → won_by_member c.bids m pool ≤ 1000
  unfolding won_by_member
  won-by-member-small m pool =
      omega (
        arith,
        won-le-units pool,
        (pool-ok pool).0,
        sum-keep-le (λ b. eqb b.member m && eqb b.pool pool) (of_pool pool) (λ (b : Bid). b.won) c.bids (λ b e. and_right (eqb b.member m) _ e),
      )

  -- a bid that won has a price at or above its pool's worst reserve
  won-above : Each (λ b. 0 < b.won → worst_reserve c.rounds b.pool ≤ b.price) c.bids
  unfolding worst_reserve reserve
  won-above =
      each_more _ _
      (λ b o w.
      let kept : Round → Bool = λ r. get_or r.opened b.pool false in
      let at : Round → ℕ = λ r. get_or r.reserves b.pool 0 in
      let ys = map at (keep kept c.rounds) in
      omega (
        arith,
        (o.1 w).1,
        each-kept-at (λ r. least ys ≤ at r) kept c.rounds (b.round - 1) no_round (each-unmap (λ y. least ys ≤ y) at (keep kept c.rounds) (least-each ys))
            (omega (arith, o.0.first, o.0.round)) (o.1 w).0,
      ))
      c.bids (each_both _ _ c.bids ok.bids.each ok.won.reserves)

  pub won-above-reserve : (b : ℕ) → 0 < (get_or c.bids b no_bid).won → worst_reserve c.rounds (get_or c.bids b no_bid).pool ≤ (get_or c.bids b no_bid).price
  won-above-reserve b =
      each-get (λ x. 0 < x.won → worst_reserve c.rounds x.pool ≤ x.price) c.bids b no_bid (λ w. absurd (omega arith)) won-above

  -- ---- the largest values

  module _ (m : ℕ) where
    pub W-small : (standing c m).W ≤ 4000
    unfolding standing
    W-small = won-by-small (λ b. eqb b.member m)

    pub D-small : (standing c m).D ≤ 8_000_000_000
    unfolding standing
    D-small =
        let mine = keep (λ (b : Bid). eqb b.member m) c.bids in
        omega (
          arith,
          won-by-small (λ b. eqb b.member m),
          sum-scaled price_limit (λ (b : Bid). b.won * (b.price - worst_reserve c.rounds b.pool)) (λ b. b.won) mine
              (each-kept _ (λ (b : Bid). eqb b.member m) c.bids
              (each_more _ _ (λ b o. mul-le-mul_left b.won (omega (arith, o.price))) c.bids ok.bids.each)),
        )

    pub expected-small : (standing c m).expected ≤ 4000
    unfolding standing
    expected-small =
        let o = member-ok m in
        let xs = (member_at c.members m).expected in
        omega (arith, some_left (sold_by_agreement c.roll) 0 xs, sum_bound 1000 xs o.expected-most, o.expected4)

  -- every price in the roll is in range
  pub prices-ok : Each (λ e. price_of c.bids e.state ≤ price_limit) c.roll
  unfolding price_of
  prices-ok = each_more _ _ (λ e o. one e.pool e.state o) c.roll ok.roll.each
    where
      one : (pool : ℕ) (s : UnitState) → EntryOk c.head c.bids pool s → price_of c.bids s ≤ price_limit
      one pool Open o = omega arith
      one pool (Sold b) o = (bid-ok b o.0).price
      one pool (Allocated m price) o = o.1
      one pool (Moved m) o = omega arith
      one pool (Torn price) o = o
      one pool (Agreed m price) o = o.1

  pub prices-few : length (prices c.bids c.roll) ≤ 4000
  unfolding prices
  prices-few =
      let kept = keep (λ (e : Entry). not (is_open e)) c.roll in
      omega (arith, length-map (λ (e : Entry). price_of c.bids e.state) kept, keep-few (λ (e : Entry). not (is_open e)) c.roll, roll-small)

  pub requirement-small : requirement c ≤ 8_000_000_000
  unfolding requirement
  requirement-small = omega (arith, prices-few, ok.head.hedge, ok.head.other)

  -- what members of the set have, each at most b
  members-sum : (f : ℕ → ℕ) (b : ℕ) → ((m : ℕ) → f m ≤ b) → sum (map f (members c.head.set)) ≤ 32 * b
  members-sum f b h =
      omega (
        arith,
        sum-members c.head.set f,
        sum_to-bound 32 b (λ m. when member c.head.set m then f m else 0)
            (λ m l. either (λ n. n ≤ b) (member c.head.set m) {x = f m} {y = 0} (h m) (omega arith)),
      )

  pub contributions-small : contributions c ≤ 16_000_000_000
  unfolding contributions
  contributions-small = omega (arith, members-sum (contribution_of c) 500_000_000 (λ m. (member-ok m).contribution-most))

  pub payments-small : payments c ≤ 16_000_000_000
  unfolding payments
  payments-small =
      omega (arith, members-sum (payment_of c) 500_000_000 (λ m. let o = member-ok m in omega (arith, o.paid-most, o.called-most, o.contribution-most)))

  pub prefunded-small : prefunded c ≤ 24_500_000_000
  unfolding prefunded
  prefunded-small = omega (arith, contributions-small, ok.head.margin, ok.head.fund, ok.head.house)
