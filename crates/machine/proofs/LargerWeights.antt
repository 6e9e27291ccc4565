-- Document 02, C-15: in every split of the machine a share of a larger weight is never below that of a smaller one, of any case. Assumes nothing.
use mathlib.Core.Path.{◌≡◌, sym, ap, ◌∙◌}
use mathlib.Core.Logic.{⊎_elim}
use mathlib.Core.Bool.{Bool, true}
use mathlib.Core.List.{List, [], map}
use Prim.Native.Nat.{ℕ, ◌-◌, ◌≤◌, ◌<◌, min}
use native.Mathlib.Nat.{zero-add}
use native.Mathlib.Omega.{arith}
use lib.Dec.{eqb}
use lib.ListN.{get_or, get_or-map, get_or-eq_default}
use borrow.Author.Tests.{eqb-true}
use Rattle.lists.specs.Lists.{when◌then◌else◌, tab}
use Rattle.lists.proofs.Bools.{lt-or-le, and_left, and_right}
use Rattle.lists.proofs.Places.{length-tab}
use Rattle.lists.proofs.Each.{get_or-map_from}
use Rattle.splitting.proofs.Among.{shares-order}
use Rattle.auction.proofs.Laws.{won-order}
use Rattle.auction.proofs.Absent.{allot-among}
use Rattle.waterfall.proofs.ByRank.{charge-order}
use Rattle.machine.specs.Roll.{Bid, no_bid, open_units}
use Rattle.machine.specs.State.{Case, in_set, member_at, round_of}
use Rattle.machine.specs.Requirement.{requirement, prefunded, contribution_of, contributions}
use Rattle.machine.specs.Calls.{reserve, in_round, in_auction, won_in, won_given, bids_after, after_close, shortfall, total_shortfall, allocation, calls}
use Rattle.machine.specs.Result.{rank, payment_of, charge, on_contribution, on_payments}
use Rattle.machine.proofs.Closing.{wins-at}
use Rattle.machine.proofs.CallsKept.{stands-there}
use Rattle.machine.proofs.AsThoughNotSent.{in-stands}

-- ---- CLOSE

module _ (c : Case) (round pool : ℕ) where
  abbrev bids : List Bid
  bids = c.bids

  abbrev bid : ℕ → Bid
  bid i = get_or bids i no_bid

  abbrev counts : Bid → Bool
  counts = in_auction round pool

  abbrev wins : List (List ℕ)
  wins = tab c.head.pools (won_in c round)

  abbrev units : Bid → ℕ
  units b = b.units

  abbrev price : Bid → ℕ
  price b = b.price

  -- its units, or 0 for a bid that does not count
  abbrev weight : Bid → ℕ
  weight b = when counts b then units b else 0

  won-in-order : (j i : ℕ) → counts (bid j) ≡ true → counts (bid i) ≡ true → (bid i).price ≡ (bid j).price → (bid i).units < (bid j).units
      → get_or (won_in c round pool) i 0 ≤ get_or (won_in c round pool) j 0
  unfolding won_in in_auction in_round
  won-in-order j i on-j on-i e h =
      let n = open_units c.roll pool in
      let r = reserve c.rounds round pool in
      let weight-at : (k : ℕ) → counts (bid k) ≡ true → get_or (map weight bids) k 0 ≡ (bid k).units = λ k on. get_or-map weight bids k no_bid ∙ rw on in
      rw (sym (allot-among n r counts units price bids))
      (won-order n r (map weight bids) (map price bids) j i
      (get_or-map price bids i no_bid ∙ e ∙ sym (get_or-map price bids j no_bid))
      (omega (arith, weight-at i on-i, weight-at j on-j)))

  -- a bid that counts has won what the table of the pools says
  won-is : (i : ℕ) → counts (bid i) ≡ true → (get_or (bids_after c round) i no_bid).won ≡ get_or (get_or wins pool []) i 0
  unfolding bids_after won_given in_auction
  won-is i e =
      let b = bid i in
      let in-round : in_round round b ≡ true = and_left (in_round round b) (eqb b.pool pool) e in
      let in-pool : b.pool ≡ pool = eqb-true b.pool pool (and_right (in_round round b) (eqb b.pool pool) e) in
      ap (λ (x : Bid). x.won) (get_or-map_from (won_given round wins) 0 bids i no_bid (stands-there bids i (in-stands round pool b e)))
      ∙ rw (zero-add i, in-round, in-pool)

  bids-order : (j i : ℕ) → counts (bid j) ≡ true → counts (bid i) ≡ true → (bid i).price ≡ (bid j).price → (bid i).units < (bid j).units
      → (get_or (bids_after c round) i no_bid).won ≤ (get_or (bids_after c round) j no_bid).won
  bids-order j i on-j on-i e h =
      rw (won-is i on-i, won-is j on-j)
      (⊎_elim
      (λ l. omega (
        arith,
        won-in-order j i on-j on-i e h,
        wins-at c round c.head.pools pool l i,
        wins-at c round c.head.pools pool l j,
      ))
      (λ g. rw (get_or-eq_default wins [] {n = pool} (omega (arith, length-tab c.head.pools (won_in c round)))) (omega arith))
      (lt-or-le pool c.head.pools))

module _ (c : Case) where
  -- of two bids that stand in the round, in one pool and at one price, the one for more units has won no fewer
  pub close-order : (pool j i : ℕ)
      → in_auction (round_of c.stage) pool (get_or c.bids j no_bid) ≡ true → in_auction (round_of c.stage) pool (get_or c.bids i no_bid) ≡ true
      → (get_or c.bids i no_bid).price ≡ (get_or c.bids j no_bid).price → (get_or c.bids i no_bid).units < (get_or c.bids j no_bid).units
      → (get_or (after_close c).bids i no_bid).won ≤ (get_or (after_close c).bids j no_bid).won
  unfolding after_close
  close-order pool j i = bids-order c (round_of c.stage) pool j i

  -- ---- ALLOCATE, CALL and FINISH: j is of the set

  module _ (j i : ℕ) (l : j < 32) (on : in_set c.head j ≡ true) where
    pub allocation-order : (pool : ℕ) → shortfall c pool i < shortfall c pool j → get_or (allocation c pool) i 0 ≤ get_or (allocation c pool) j 0
    unfolding allocation
    allocation-order pool = shares-order 32 (in_set c.head) (min (open_units c.roll pool) (total_shortfall c pool)) (shortfall c pool) j i l on

    pub calls-order : (member_at c.members i).contribution < (member_at c.members j).contribution → get_or (calls c) i 0 ≤ get_or (calls c) j 0
    unfolding calls
    calls-order = shares-order 32 (in_set c.head) (min (requirement c - prefunded c) (contributions c)) (contribution_of c) j i l on

    pub on-contribution-order : rank c i ≡ rank c j → (member_at c.members i).contribution < (member_at c.members j).contribution
        → on_contribution c i ≤ on_contribution c j
    unfolding on_contribution
    on-contribution-order = charge-order c.head.set (rank c) (contribution_of c) (charge c 3) j i l on

    pub on-payments-order : (member_at c.members i).paid < (member_at c.members j).paid → on_payments c i ≤ on_payments c j
    unfolding on_payments
    on-payments-order = shares-order 32 (in_set c.head) (charge c 5) (payment_of c) j i l on
