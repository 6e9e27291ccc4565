-- What CLOSE does to the units won. Of the auction only `allot-le`, `allot-reserve-met` and `allot-sum-le` are used. Assumes nothing.
use mathlib.Core.Path.{◌≡◌, refl, ap}
use mathlib.Core.Bool.{Bool, true, false, ◌&&◌}
use mathlib.Core.List.{List, [], ◌∷◌, map}
use Prim.Native.Nat.{ℕ, suc, ◌+◌, ◌≤◌, ◌<◌}
use native.Mathlib.Omega.{arith}
use lib.Dec.{eqb}
use lib.ListN.{length, get_or, drop, get_or-map}
use borrow.Author.Tests.{eqb-true}
use Rattle.lists.specs.Lists.{when◌then◌else◌, sum, keep, among, map_from, tab}
use Rattle.lists.proofs.Bools.{either, and_right}
use Rattle.lists.proofs.Places.{get_or-tab}
use Rattle.lists.proofs.Keep.{put_back-at, put_back-sum, sum-keep-cons, sum-from}
use Rattle.lists.proofs.Each.{Each}
use Rattle.auction.specs.Auction.{allot}
use Rattle.auction.proofs.Laws.{allot-le, allot-reserve-met}
use Rattle.auction.proofs.Totals.{allot-sum-le}
use Rattle.machine.specs.Roll.{Bid, no_bid, with_won, open_units}
use Rattle.machine.specs.State.{Case}
use Rattle.machine.specs.Calls.{reserve, in_round, in_auction, won_in, won_given}
use Rattle.machine.proofs.Giving.{won_where, won_then}
use Rattle.machine.proofs.Invariant.{of_pool}

-- what the auction of a pool gives to the bid at a place
module _ (c : Case) (round pool : ℕ) where
  pub won-at : (i : ℕ) → i < length c.bids
      → (get_or (won_in c round pool) i 0 ≤ (get_or c.bids i no_bid).units)
      × (0 < get_or (won_in c round pool) i 0 → reserve c.rounds round pool ≤ (get_or c.bids i no_bid).price)
  unfolding won_in among
  won-at i l =
      let p = in_auction round pool in
      let n = open_units c.roll pool in
      let r = reserve c.rounds round pool in
      let ks = keep p c.bids in
      let us = map (λ (b : Bid). b.units) ks in
      let ps = map (λ (b : Bid). b.price) ks in
      put_back-at (λ b v. (v ≤ b.units) × (0 < v → r ≤ b.price)) (λ b. (omega arith, λ z. absurd (omega arith))) p no_bid c.bids (allot n r us ps)
      (λ k m. (
        rw (get_or-map (λ (b : Bid). b.units) ks k no_bid) at (allot-le n r us ps k),
        λ w. rw (get_or-map (λ (b : Bid). b.price) ks k no_bid) at (allot-reserve-met n r us ps k w),
      )) i l

  pub won-sum : sum (won_in c round pool) ≤ open_units c.roll pool
  unfolding won_in among
  won-sum =
      let ks = keep (in_auction round pool) c.bids in
      let n = open_units c.roll pool in
      let r = reserve c.rounds round pool in
      let us = map (λ (b : Bid). b.units) ks in
      let ps = map (λ (b : Bid). b.price) ks in
      omega (arith, put_back-sum (in_auction round pool) c.bids (allot n r us ps), allot-sum-le n r us ps)

-- the units won of a pool below `pools`, in the table of all pools
pub wins-at : (c : Case) (round pools pool : ℕ) → pool < pools → (i : ℕ)
    → get_or (get_or (tab pools (won_in c round)) pool []) i 0 ≡ get_or (won_in c round pool) i 0
wins-at c round pools pool l i = ap (λ (w : List ℕ). get_or w i 0) (get_or-tab pools (won_in c round) pool [] l)

-- the bids of a round, given what `wins` says of their pool and place
module _ (round : ℕ) (wins : List (List ℕ)) where
  -- nothing but the units won changes
  pub given-same : {A : Type 0} (g : Bid → A) → ((b : Bid) (v : ℕ) → g (with_won b v) ≡ g b) → (i : ℕ) (b : Bid) → g (won_given round wins i b) ≡ g b
  unfolding won_given in_round
  given-same g same i b = either (λ (x : Bid). g x ≡ g b) (in_round round b) (same b (get_or (get_or wins b.pool []) i 0)) refl

  -- a bid of this round had won nothing, and has what it is given; the others keep theirs
  pub given-won : (i : ℕ) (b : Bid) → (b.round ≡ round → b.won ≡ 0) → b.won + won_then round (won_given round wins i b) ≤ (won_given round wins i b).won
  unfolding won_given in_round
  given-won i b none = go (in_round round b) refl
    where
      new : ℕ
      new = get_or (get_or wins b.pool []) i 0

      go : (t : Bool) → in_round round b ≡ t → b.won + won_then round (when t then with_won b new else b) ≤ (when t then with_won b new else b).won
      go true e = rw e (omega (arith, none (eqb-true b.round round (and_right b.stands _ e))))
      go false e = rw e (omega arith)

  module _ (pool : ℕ) where
    abbrev part : Bid → ℕ
    part b = when in_auction round pool b then b.won else 0

    part-given : (i : ℕ) (b : Bid) (x : ℕ) → (b.pool ≡ pool → get_or (get_or wins b.pool []) i 0 ≤ x) → part (won_given round wins i b) ≤ x
    unfolding won_given in_auction in_round
    part-given i b x h = go (in_round round b) (eqb b.pool pool) refl refl
      where
        new : ℕ
        new = get_or (get_or wins b.pool []) i 0

        go : (t u : Bool) → in_round round b ≡ t → eqb b.pool pool ≡ u
            → (when in_round round (when t then with_won b new else b) && eqb (when t then with_won b new else b).pool pool then (when t then with_won b new else b).won else 0) ≤ x
        go true true e f = rw (e, f) (h (eqb-true b.pool pool f))
        go true false e f = rw (e, f) (omega arith)
        go false u e f = rw e (omega arith)

    -- what the bids of the pool are given is at most what the auction gave
    pub given-le : (pools : ℕ) (W : List ℕ) → (pool < pools → (i : ℕ) → get_or (get_or wins pool []) i 0 ≡ get_or W i 0) → (i : ℕ) (bs : List Bid)
        → Each (λ b. b.pool < pools) bs → won_where (in_auction round pool) (map_from i (won_given round wins) bs) ≤ sum (drop i W)
    unfolding map_from keep sum
    given-le pools W same i [] fit = omega arith
    given-le pools W same i (b ∷ bs) fit =
        omega (
          arith,
          sum-from W i,
          sum-keep-cons (in_auction round pool) (λ (x : Bid). x.won) (won_given round wins i b) (map_from (suc i) (won_given round wins) bs),
          given-le pools W same (suc i) bs fit.1,
          part-given i b (get_or W i 0) (λ e. rw e (omega (arith, same (omega (arith, fit.0)) i))),
        )

    -- a bid's new units won are its old ones, or those given now
    won-given : (i : ℕ) (b : Bid) → (when of_pool pool (won_given round wins i b) then (won_given round wins i b).won else 0)
        ≤ (when of_pool pool b then b.won else 0) + part (won_given round wins i b)
    unfolding won_given in_auction in_round
    won-given i b = go (in_round round b) (eqb b.pool pool) refl refl
      where
        new : ℕ
        new = get_or (get_or wins b.pool []) i 0

        go : (t u : Bool) → in_round round b ≡ t → eqb b.pool pool ≡ u
            → (when eqb (when t then with_won b new else b).pool pool then (when t then with_won b new else b).won else 0)
            ≤ (when u then b.won else 0) + (when in_round round (when t then with_won b new else b) && eqb (when t then with_won b new else b).pool pool then (when t then with_won b new else b).won else 0)
        go true true e f = rw (e, f) (omega arith)
        go true false e f = rw (e, f) (omega arith)
        go false true e f = rw (e, f) (omega arith)
        go false false e f = rw (e, f) (omega arith)

    pub won-grows : (i : ℕ) (bs : List Bid)
        → won_where (of_pool pool) (map_from i (won_given round wins) bs) ≤ won_where (of_pool pool) bs + won_where (in_auction round pool) (map_from i (won_given round wins) bs)
    unfolding map_from keep sum
    won-grows i [] = omega arith
    won-grows i (b ∷ bs) =
        let x = won_given round wins i b in
        let xs = map_from (suc i) (won_given round wins) bs in
        omega (
          arith,
          sum-keep-cons (of_pool pool) (λ (y : Bid). y.won) x xs,
          sum-keep-cons (in_auction round pool) (λ (y : Bid). y.won) x xs,
          sum-keep-cons (of_pool pool) (λ (y : Bid). y.won) b bs,
          won-given i b,
          won-grows (suc i) bs,
        )
