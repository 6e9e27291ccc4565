-- What is proved of document 01's machine, in one place: over every state, every list of calls, any bytes. Each claim cites its proof. Assumes nothing.
use mathlib.Core.Path.{◌≡◌, refl, sym, ap, ◌∙◌}
use mathlib.Core.Bool.{true, false, ◌&&◌}
use mathlib.Core.List.{List, [], ◌∷◌, ◌++◌, map, map-map}
use mathlib.Core.Option.{none, some}
use Prim.Native.Nat.{ℕ, suc, ◌+◌, ◌-◌, ◌≤◌, ◌<◌, min}
use lib.Dec.{eqb, ltb}
use lib.IntN.{pos, negsuc, ◌+ℤ◌, ◌-ℤ◌}
use lib.ListN.{length, get_or, set, take, drop}
use lib.Signed.{le_z}
use Rattle.lists.specs.Lists.{when◌then◌else◌, sum, count, all, keep}
use Rattle.lists.proofs.Each.{Each, each_at}
use Rattle.lists.specs.Tests.{Passed, First}
use Rattle.auction.specs.Price.{price_limit, price_ok, cents, at_least0}
use Rattle.machine.specs.Wire.{Call, ROUND, BID, ALLOCATE, CALL, FINISH, SALE, WITHDRAW, number, price, signed, decode}
use Rattle.machine.specs.Roll.{Entry, Sold, Allocated, Moved, Agreed, Bid, no_bid, withdrawn, with_state, is_agreed, open_units, price_of, prices, agreed_prices}
use Rattle.machine.specs.State.{Finished, Case, State, the_case, letter, letter_of, is_b, round_of, with_stage, with_bids, no_pool, no_member, no_round, in_set, member_list, member_at}
use Rattle.machine.specs.Requirement.{requirement, contributions, prefunded}
use Rattle.machine.specs.Calls.{new_bid, reserve, in_auction, bids_after, won_by_member, shortfall, total_shortfall, allocation, calls, after_close, after_allocate, after_sale, accepted}
use Rattle.machine.specs.Refusals.{sale_too_dear, tests}
use Rattle.machine.specs.Machine.{step}
use Rattle.machine.specs.Table.{ByTable}
use Rattle.machine.specs.Result.{worst_reserve, standing, rank, payments, limits, charge, spent, on_contribution, on_payments}
use Rattle.machine.specs.Run.{Result, MemberResult, run_from, five_counts, sum_of_prices, result_of, observed}
use Rattle.machine.specs.Running.{left_sum, added, nothing_kept, kept_from, over_pools, reading}
use Rattle.machine.proofs.Answers as A
use Rattle.machine.proofs.Tables as T
use Rattle.machine.proofs.Invariant.{CaseOk}
use Rattle.machine.proofs.RollChanges.{no_entry, sold_to}
use Rattle.machine.proofs.CallsKept as K
use Rattle.machine.proofs.Shares as H
use Rattle.machine.proofs.Reached as R
use Rattle.machine.proofs.RollSteps as S
use Rattle.machine.proofs.AgreedStay as G
use Rattle.machine.proofs.AsThoughNotSent as N
use Rattle.machine.proofs.Withdrawing as D
use Rattle.machine.proofs.Selling as E
use Rattle.machine.proofs.SoldOut as O
use Rattle.machine.proofs.WholePools as W
use Rattle.machine.proofs.Bounds as B
use Rattle.machine.proofs.Bytes as Y
use Rattle.machine.proofs.Prices as P
use Rattle.machine.proofs.Later as L
use Rattle.machine.proofs.Finish as F
use Rattle.machine.proofs.LargerWeights as Q
use Rattle.machine.proofs.Running as U

-- ---- answers, in any state

module _ (s : State) (bytes : List ℕ) where
  -- "a refused call leaves all as it was"
  pub refused-unchanged : ((step s bytes).answer ≡ 0 → ⊥) → (step s bytes).state ≡ s
  refused-unchanged = A.refused-unchanged s bytes

  -- bytes that are no call are answered 1
  pub no_call : decode bytes ≡ none → (step s bytes).answer ≡ 1
  no_call = A.no_call s bytes

  -- the answer to a call is 0 exactly if every test of its list fails; otherwise it is the number of a test that holds and no earlier one does, and that is
  -- the least number of a test that holds
  module _ (call : Call) (is : decode bytes ≡ some call) where
    pub accepted-passed : (step s bytes).answer ≡ 0 → Passed (tests s (the_case s) call)
    accepted-passed e = A.accepted-passed s call (sym (A.call-answer s bytes call is) ∙ e)

    pub passed-accepted : Passed (tests s (the_case s) call) → (step s bytes).answer ≡ 0
    passed-accepted t = A.call-answer s bytes call is ∙ A.passed-accepts s call t

    pub answer-first : ((step s bytes).answer ≡ 0 → ⊥) → First (step s bytes).answer (tests s (the_case s) call)
    answer-first h = rw (A.call-answer s bytes call is) (A.refusal-first s call (λ e. h (A.call-answer s bytes call is ∙ e)))

    pub answer-least : Each (λ t. t.1 ≡ true → (step s bytes).answer ≤ t.0) (tests s (the_case s) call)
    answer-least = rw (A.call-answer s bytes call is) (A.refusal-least s call)

-- a step is answered 1 or 2 exactly where 01's table of stages says so, and an accepted call leaves the case in the table's stage
pub step-by-table : (s : State) (bytes : List ℕ) → ByTable s bytes
step-by-table = T.by-table

-- ---- prices, of any bytes

module _ (at : ℕ) (v : List ℕ) (bytes : Each Y.Byte v) where
  -- the 4 bytes of a price are in range exactly if the price that they mean is: "prices and reserves −10^6 to 10^6"
  pub price-in-range : price_ok (price at v) ≡ (le_z (negsuc 999_999) (signed (number at 4 v)) && le_z (signed (number at 4 v)) (pos 1_000_000))
  price-in-range = P.price-in-range at v bytes

  -- and what is held of them then means those cents
  pub price-in-cents : price_ok (price at v) ≡ true → cents (price at v) ≡ signed (number at 4 v)
  price-in-cents = P.price-in-cents at v bytes

-- ---- the roll, in any state

module _ (s : State) (bytes : List ℕ) where
  -- the roll keeps its entries and each its pool; an accepted POOL adds its units behind them
  pub roll-kept : map (λ e. e.pool) (S.roll_of (step s bytes).state) ≡ map (λ e. e.pool) (S.roll_of s) ++ S.added s bytes
  roll-kept = S.step-pools s bytes

  -- the open units of a pool never grow but by POOL
  pub open-units-fall : (pool : ℕ) → open_units (S.roll_of (step s bytes).state) pool ≤ open_units (S.roll_of s) pool + count (λ p. eqb p pool) (S.added s bytes)
  open-units-fall = S.step-open s bytes

  -- document 02, C-12: a unit sold by agreement stays so, to its member and at its price
  pub agreed-stay : (i : ℕ) → i < length (S.roll_of s) → is_agreed (get_or (S.roll_of s) i no_entry).state ≡ true
      → get_or (S.roll_of (step s bytes).state) i no_entry ≡ get_or (S.roll_of s) i no_entry
  agreed-stay = G.agreed-stay s bytes

  -- and no call but SALE sells another: the units sold by agreement are those that were, in number and by pool, member and price
  pub agreed-kept : ((pool m price : ℕ) → decode bytes ≡ some (SALE pool m price) → ⊥)
      → keep (λ e. is_agreed e.state) (S.roll_of (step s bytes).state) ≡ keep (λ e. is_agreed e.state) (S.roll_of s)
  agreed-kept = G.agreed-kept s bytes

  -- document 02, C-14: every bid stays at its number, with the fields that were sent
  pub numbers-kept : (n : ℕ) → n < length (D.bids_of s) → (n < length (D.bids_of (step s bytes).state)) × (D.sent (D.bid_at (step s bytes).state n) ≡ D.sent (D.bid_at s n))
  numbers-kept = D.numbers-kept s bytes

  -- and one that does not stand stays as it is
  pub withdrawn-stay : (n : ℕ) → n < length (D.bids_of s) → (D.bid_at s n).stands ≡ false → D.bid_at (step s bytes).state n ≡ D.bid_at s n
  withdrawn-stay = D.withdrawn-stay s bytes

-- ---- document 02, C-14: an accepted WITHDRAW of bid n, in any state

module _ (s : State) (bytes : List ℕ) (m n : ℕ) (is : decode bytes ≡ some (WITHDRAW m n)) (taken : (step s bytes).answer ≡ 0) where
  -- it was a "standing bid of that member in the open round"
  pub withdraw-own : ((D.bid_at s n).stands ≡ true) × ((D.bid_at s n).round ≡ round_of (the_case s).stage) × ((D.bid_at s n).member ≡ m)
  withdraw-own = D.withdraw-own s bytes m n is taken

  -- nothing changes but its mark
  pub withdraw-only : (step s bytes).state ≡ some (with_bids (the_case s) (set (D.bids_of s) n (withdrawn (D.bid_at s n))))
  withdraw-only = D.withdraw-only s bytes m n is taken

  -- "the bid keeps its number and still counts towards 256": each other bid is at its number as it was, and there are as many
  pub withdraw-others : (k : ℕ) → (k ≡ n → ⊥) → D.bid_at (step s bytes).state k ≡ D.bid_at s k
  withdraw-others = D.withdraw-others s bytes m n is taken

  pub withdraw-counts : length (D.bids_of (step s bytes).state) ≡ length (D.bids_of s)
  withdraw-counts = D.withdraw-counts s bytes m n is taken

  -- the bids that stand are those of the list without this one
  pub withdraw-drops : N.standing_bids (D.bids_of (step s bytes).state) ≡ N.standing_bids (take n (D.bids_of s) ++ drop (suc n) (D.bids_of s))
  withdraw-drops = D.withdraw-drops s bytes m n is taken

  -- a bid sent again stands behind all others, with a number of its own, which is how many bids there were
  module _ (more : List ℕ) (pool units price : ℕ) (bid : decode more ≡ some (BID pool m units price)) (also : (step (step s bytes).state more).answer ≡ 0) where
    pub sent-again : D.bids_of (step (step s bytes).state more).state
        ≡ set (D.bids_of s) n (withdrawn (D.bid_at s n)) ++ (new_bid (round_of (the_case s).stage) pool m units price ∷ [])
    sent-again = D.sent-again s bytes m n is taken more pool units price bid also

    pub again-last : D.bid_at (step (step s bytes).state more).state (length (D.bids_of s)) ≡ new_bid (round_of (the_case s).stage) pool m units price
    again-last = D.again-last s bytes m n is taken more pool units price bid also

  -- after any calls the bid is what it was, but for the mark, and another WITHDRAW of it is declined by 18, after 2 and 4
  module _ (calls : List (List ℕ)) where
    abbrev later : State
    later = run_from (step s bytes).state calls

    pub withdrawn-for-good : D.bid_at later n ≡ withdrawn (D.bid_at s n)
    withdrawn-for-good = D.withdrawn-for-good s bytes m n is taken calls

    pub withdrawn-again : (more : List ℕ) (k : ℕ) → decode more ≡ some (WITHDRAW k n)
        → (step later more).answer ≡ (when is_b later then (when in_set (the_case later).head k then 18 else 4) else 2)
    withdrawn-again = D.withdrawn-again s bytes m n is taken calls

-- ---- C-14: "CLOSE allots as though a withdrawn bid had not been sent", of any case

-- the bids that stand win what they win where the others are not in the list
pub standing-win : (c : Case) (round : ℕ) → N.standing_bids (bids_after c round) ≡ bids_after (with_bids c (N.standing_bids c.bids)) round
standing-win = N.standing-win

-- d is c without its withdrawn bids, the others numbered from 0 again: then it is so after CLOSE, each entry sold to the same bid
module _ (c d : Case) (w : N.Without c d) where
  pub close-without : N.Without (after_close c) (after_close d)
  close-without = N.close-without c d w

  -- and counts, holdings and prices are alike
  pub close-observed : (n : ℕ) → observed n (some (after_close c)) ≡ observed n (some (after_close d))
  close-observed = N.close-observed c d w

-- "ALLOCATE is accepted at most once in a pool": after one, no later one is
pub allocate-once : (calls more : List (List ℕ)) (one two : List ℕ) (pool price later : ℕ)
    → decode one ≡ some (ALLOCATE pool price) → (step (run_from none calls) one).answer ≡ 0
    → decode two ≡ some (ALLOCATE pool later) → (step (run_from (step (run_from none calls) one).state more) two).answer ≡ 0 → ⊥
allocate-once = L.allocate-once

-- ---- the case after any list of calls

module _ (calls : List (List ℕ)) (c : Case) (here : run_from none calls ≡ some c) where
  -- all of the invariant, by groups
  pub in_order : CaseOk c
  in_order = rw here at (R.reached calls)

  -- each unit is exactly one of the five
  pub five-counts : (pool : ℕ) → sum (five_counts c.roll pool) ≡ (get_or c.pools pool no_pool).units
  five-counts = B.five-counts c in_order

  -- sizes
  pub roll-small : length c.roll ≤ 4000
  roll-small = B.roll-small c in_order

  pub bids-few : length c.bids ≤ 256
  bids-few = in_order.bids.few

  pub rounds-few : length c.rounds ≤ 2
  rounds-few = B.rounds-few c in_order

  pub reserves-all : (r : ℕ) → r < length c.rounds → length (get_or c.rounds r no_round).reserves ≡ c.head.pools
  reserves-all r l = (B.round-ok c in_order r l).reserves-all

  pub members-all : length c.members ≡ 32
  members-all = in_order.members.all32

  -- members
  module _ (m : ℕ) where
    pub expected-four : length (member_at c.members m).expected ≡ 4
    expected-four = (B.member-ok c in_order m).expected4

    pub allocated-four : length (member_at c.members m).allocated ≡ 4
    allocated-four = (B.member-ok c in_order m).allocated4

    pub expected-most : (pool : ℕ) → get_or (member_at c.members m).expected pool 0 ≤ 1000
    expected-most = (B.member-ok c in_order m).expected-most

    pub allocated-most : (pool : ℕ) → get_or (member_at c.members m).allocated pool 0 ≤ get_or (member_at c.members m).expected pool 0
    allocated-most = (B.member-ok c in_order m).allocated-most

    pub paid-most : (member_at c.members m).paid ≤ (member_at c.members m).called
    paid-most = (B.member-ok c in_order m).paid-most

    pub called-most : (member_at c.members m).called ≤ (member_at c.members m).contribution
    called-most = (B.member-ok c in_order m).called-most

    pub contribution-most : (member_at c.members m).contribution ≤ 500_000_000
    contribution-most = (B.member-ok c in_order m).contribution-most

    -- who is not in the set, or not given, has nothing
    pub outside-nothing : in_set c.head m ≡ false → member_at c.members m ≡ no_member
    outside-nothing = B.outside-nothing c in_order m

    pub not-given-nothing : (member_at c.members m).given ≡ false → member_at c.members m ≡ no_member
    not-given-nothing = (B.member-ok c in_order m).absent

    pub won-by-member-small : (pool : ℕ) → won_by_member c.bids m pool ≤ 1000
    won-by-member-small = B.won-by-member-small c in_order m

    -- of bytes, no member is above 31
    pub member_below : Y.Bytes calls → in_set c.head m ≡ true → m < 32
    member_below bytes = B.in-set-below c in_order (Y.set-fits calls bytes c here) m

    -- the standing by which members rank
    pub D-small : (standing c m).D ≤ 8_000_000_000
    D-small = B.D-small c in_order m

    pub W-small : (standing c m).W ≤ 4000
    W-small = B.W-small c in_order m

    pub expected-small : (standing c m).expected ≤ 4000
    expected-small = B.expected-small c in_order m

  -- bids
  module _ (b : ℕ) (l : b < length c.bids) where
    pub bid-won-most : (get_or c.bids b no_bid).won ≤ (get_or c.bids b no_bid).units
    bid-won-most = (B.bid-ok c in_order b l).won

    pub bid-units-most : (get_or c.bids b no_bid).units ≤ 1000
    bid-units-most = (B.bid-ok c in_order b l).most

    pub bid-price-ok : (get_or c.bids b no_bid).price ≤ price_limit
    bid-price-ok = (B.bid-ok c in_order b l).price

    pub bid-member-in-set : in_set c.head (get_or c.bids b no_bid).member ≡ true
    bid-member-in-set = (B.bid-ok c in_order b l).member

  -- a bid that won has a price at or above its pool's worst reserve, so that D is exact
  pub won-above-reserve : (b : ℕ) → 0 < (get_or c.bids b no_bid).won → worst_reserve c.rounds (get_or c.bids b no_bid).pool ≤ (get_or c.bids b no_bid).price
  won-above-reserve = B.won-above-reserve c in_order

  -- document 02, C-14: a bid that was taken back has won nothing
  pub withdrawn-won-none : (b : ℕ) → b < length c.bids → (get_or c.bids b no_bid).stands ≡ false → (get_or c.bids b no_bid).won ≡ 0
  withdrawn-won-none b l = each_at _ c.bids b no_bid l in_order.won.withdrawn

  -- C-14: "CLOSE allots as though a withdrawn bid had not been sent": where bid b is sent and withdrawn, and bids bs are sent after it, CLOSE leaves the counts,
  -- the holdings and the sum of prices that it leaves where bs alone are sent
  pub close-not-sent : (b : Bid) (bs : List Bid) (n : ℕ)
      → observed n (some (after_close (with_bids c (c.bids ++ (withdrawn b ∷ bs))))) ≡ observed n (some (after_close (with_bids c (c.bids ++ bs))))
  close-not-sent = N.close-not-sent c in_order

  -- every case reached has one without its withdrawn bids, to which `close-without` applies
  pub without-there : N.Without c (N.without c)
  without-there = N.without-there c in_order

  -- the units won in a pool and those open are at most its units, and a bid has at most as many entries as it won
  pub won-in-pool : (pool : ℕ) → sum (map (λ b. b.won) (keep (λ b. eqb b.pool pool) c.bids)) + open_units c.roll pool ≤ (get_or c.pools pool no_pool).units
  won-in-pool = B.won-le-units c in_order

  pub sold-at-most-won : (b : ℕ) → count (sold_to b) c.roll ≤ (get_or c.bids b no_bid).won
  sold-at-most-won = in_order.won.sold

  -- entries: a sold one names a bid of its pool, one allocated, moved or sold by agreement a member of the set; every price is in range
  module _ (i : ℕ) (d : Entry) (l : i < length c.roll) where
    pub sold-names-bid : (b : ℕ) → (get_or c.roll i d).state ≡ Sold b → (b < length c.bids) × ((get_or c.bids b no_bid).pool ≡ (get_or c.roll i d).pool)
    sold-names-bid b e = rw e at (B.entry-ok c in_order i d l)

    pub allocated-names-member : (m price : ℕ) → (get_or c.roll i d).state ≡ Allocated m price → in_set c.head m ≡ true
    allocated-names-member m price e = (rw e at (B.entry-ok c in_order i d l)).0

    pub agreed-names-member : (m price : ℕ) → (get_or c.roll i d).state ≡ Agreed m price → in_set c.head m ≡ true
    agreed-names-member m price e = (rw e at (B.entry-ok c in_order i d l)).0

    pub moved-names-member : (m : ℕ) → (get_or c.roll i d).state ≡ Moved m → in_set c.head m ≡ true
    moved-names-member m e = rw e at (B.entry-ok c in_order i d l)

    pub entry-pool-given : (get_or c.roll i d).pool < length c.pools
    entry-pool-given = each_at _ c.roll i d l (B.entry-pools c in_order)

    pub entry-price-ok : price_of c.bids (get_or c.roll i d).state ≤ price_limit
    entry-price-ok = each_at _ c.roll i d l (B.prices-ok c in_order)

  pub reserve-ok : (round pool : ℕ) → reserve c.rounds round pool ≤ price_limit
  reserve-ok = B.reserve-ok c in_order

  -- CLOSE: a pool's open units fall by what its bids of this round are given
  pub close-gives : letter c.stage ≡ 2 → (pool : ℕ)
      → open_units (after_close c).roll pool + sum (map (λ b. b.won) (keep (in_auction (round_of c.stage) pool) (after_close c).bids)) ≡ open_units c.roll pool
  unfolding after_close bids_after
  close-gives bidding = K.close-gives c in_order bidding

  -- document 02, C-12: in S the units that have left are those sold by agreement, and 17 says that the requirement after the sale passes margin and fund
  pub setup-prices : letter c.stage ≡ 1 → prices c.bids c.roll ≡ agreed_prices c.bids c.roll
  setup-prices = E.setup-prices c in_order

  pub sale-by-requirement : letter c.stage ≡ 1 → (pool m price : ℕ)
      → sale_too_dear c pool m price ≡ ltb (c.head.margin + c.head.fund) (requirement (after_sale c pool m price))
  sale-by-requirement = E.sale-by-requirement c in_order

  -- C-12: SALE "sells the whole pool to one member": every unit of it, and no other
  pub sale-whole : (bytes : List ℕ) (pool m price : ℕ) → decode bytes ≡ some (SALE pool m price) → (step (some c) bytes).answer ≡ 0
      → S.roll_of (step (some c) bytes).state ≡ map (λ e. when eqb e.pool pool then with_state e (Agreed m price) else e) c.roll
  sale-whole bytes pool m price is e =
      let zero = sym (A.call-answer (some c) bytes (SALE pool m price) is) ∙ e in
      ap S.roll_of (A.call-accepted (some c) bytes (SALE pool m price) is zero)
      ∙ W.sale-whole c (W.whole-pools calls c here) pool m price (A.accepted-passed (some c) (SALE pool m price) zero)

  -- C-12: A without a round, where no unit was left open by the last SALE. Every unit is sold by agreement, and the requirement is within margin and fund, so
  -- that no layer after them (2, counted from 0) is charged
  module _ (after : letter c.stage ≡ 3) (no-round : length c.rounds ≡ 0) where
    so : O.SoldOut c
    so = O.sold-out calls c here

    pub sold-out-agreed : Each (λ e. is_agreed e.state ≡ true) c.roll
    sold-out-agreed = (so after no-round).0

    pub sold-out-requirement : requirement c ≤ c.head.margin + c.head.fund
    sold-out-requirement = (so after no-round).1

    pub sold-out-charges : (layer : ℕ) → 2 ≤ layer → charge c layer ≡ 0
    sold-out-charges = O.layers-unused c in_order so after no-round

    -- "a ROUND is declined by 8", after 1 and 5; CALL is declined by 12; FINISH is accepted, and nothing else is
    module _ (bytes : List ℕ) where
      pub sold-out-round : (reserves : List ℕ) → decode bytes ≡ some (ROUND reserves)
          → (step (some c) bytes).answer ≡ (when eqb (length reserves) c.head.pools then (when all price_ok reserves then 8 else 5) else 1)
      sold-out-round reserves is = A.call-answer (some c) bytes (ROUND reserves) is ∙ O.round-answer c in_order so after no-round reserves

      pub sold-out-call : decode bytes ≡ some CALL → (step (some c) bytes).answer ≡ 12
      sold-out-call is = A.call-answer (some c) bytes CALL is ∙ O.call-answer c in_order so after no-round

      pub sold-out-finish : decode bytes ≡ some FINISH → (step (some c) bytes).answer ≡ 0
      sold-out-finish is = A.call-answer (some c) bytes FINISH is ∙ O.finish-answer c in_order so after no-round

      pub sold-out-only-finish : (step (some c) bytes).answer ≡ 0 → decode bytes ≡ some FINISH
      sold-out-only-finish =
          A.step-cases (λ n next. n ≡ 0 → decode bytes ≡ some FINISH) (some c) bytes (λ n h z. absurd (h z))
          (λ call is t z. is ∙ ap (λ (x : Call). some x) (O.only-finish c in_order so after no-round call t))

  -- the largest sums of money
  pub requirement-small : requirement c ≤ 8_000_000_000
  requirement-small = B.requirement-small c in_order

  pub contributions-small : contributions c ≤ 16_000_000_000
  contributions-small = B.contributions-small c in_order

  pub prefunded-small : prefunded c ≤ 24_500_000_000
  prefunded-small = B.prefunded-small c in_order

  pub payments-small : payments c ≤ 16_000_000_000
  payments-small = B.payments-small c in_order

-- ---- document 02, C-16: the running sums and the reading, after any list of calls

module _ (calls : List (List ℕ)) where
  -- the running sum of a pool is the full addition over the roll, and so are the sums of all pools together
  pub running-sum : (pool : ℕ) → (kept_from nothing_kept calls).gone pool ≡ left_sum (the_case (run_from none calls)) pool
  running-sum = U.running-sum calls

  pub running-total : (c : Case) → run_from none calls ≡ some c → over_pools (kept_from nothing_kept calls).gone ≡ sum_of_prices c
  running-total = U.running-total calls

  -- "the reading equals the full addition over the roll"; "with no case the reading is declined by 2"
  pub reading-full : (c : Case) → run_from none calls ≡ some c → reading (kept_from nothing_kept calls) ≡ (0, requirement c)
  reading-full = U.reading-full calls

  pub reading-declined : run_from none calls ≡ none → reading (kept_from nothing_kept calls) ≡ (2, 0)
  reading-declined = U.reading-declined calls

  -- what an accepted call adds to the sum of a pool
  pub call-adds : (c : Case) → run_from none calls ≡ some c → (call : Call) → Passed (tests (some c) c call) → (pool : ℕ)
      → left_sum (accepted c call) pool ≡ left_sum c pool +ℤ added c call pool
  call-adds c here call t pool = U.call-adds pool c (rw here at (R.reached calls)) call t

-- ---- what is split among the members, of any case

module _ (c : Case) where
  -- ALLOCATE gives out the smaller of open units and total shortfall, and no member more than it is short of; the pool's open units fall by as many
  pub allocation-sum : (pool : ℕ) → sum (map (λ m. get_or (allocation c pool) m 0) (member_list c.head)) ≡ min (open_units c.roll pool) (total_shortfall c pool)
  allocation-sum = H.allocation-sum c

  pub allocation-le : (pool m : ℕ) → get_or (allocation c pool) m 0 ≤ shortfall c pool m
  allocation-le = H.allocation-le c

  pub allocate-gives : (pool price : ℕ)
      → open_units (after_allocate c pool price).roll pool + min (open_units c.roll pool) (total_shortfall c pool) ≡ open_units c.roll pool
  allocate-gives = H.allocate-gives c

  -- CALL calls the smaller of what is missing and all contributions, and no member for more than its contribution
  pub calls-sum : sum (map (λ m. get_or (calls c) m 0) (member_list c.head)) ≡ min (requirement c - prefunded c) (contributions c)
  calls-sum = H.calls-sum c

  pub call-le : (m : ℕ) → get_or (calls c) m 0 ≤ (member_at c.members m).contribution
  call-le = H.call-le c

-- ---- document 02, C-15: "such a tie goes to the larger weight .. This holds for allotments, allocations, calls and charges alike": a share of a larger weight is
-- never below that of a smaller one, of any case

module _ (c : Case) where
  -- CLOSE: of two bids that stand in the round, in one pool and at one price, the one for more units has won no fewer
  pub close-order : (pool larger smaller : ℕ)
      → in_auction (round_of c.stage) pool (get_or c.bids larger no_bid) ≡ true → in_auction (round_of c.stage) pool (get_or c.bids smaller no_bid) ≡ true
      → (get_or c.bids smaller no_bid).price ≡ (get_or c.bids larger no_bid).price → (get_or c.bids smaller no_bid).units < (get_or c.bids larger no_bid).units
      → (get_or (after_close c).bids smaller no_bid).won ≤ (get_or (after_close c).bids larger no_bid).won
  close-order = Q.close-order c

  module _ (larger smaller : ℕ) (l : larger < 32) (on : in_set c.head larger ≡ true) where
    -- ALLOCATE: no member of the set that is short of more is allocated fewer units
    pub allocation-order : (pool : ℕ) → shortfall c pool smaller < shortfall c pool larger → get_or (allocation c pool) smaller 0 ≤ get_or (allocation c pool) larger 0
    allocation-order = Q.allocation-order c larger smaller l on

    -- CALL: none that contributed more is called for less
    pub calls-order : (member_at c.members smaller).contribution < (member_at c.members larger).contribution → get_or (calls c) smaller 0 ≤ get_or (calls c) larger 0
    calls-order = Q.calls-order c larger smaller l on

    -- FINISH: in one rank none that contributed more is charged less on its contribution, and none that paid more is charged less on its payments
    pub on-contribution-order : rank c smaller ≡ rank c larger → (member_at c.members smaller).contribution < (member_at c.members larger).contribution
        → on_contribution c smaller ≤ on_contribution c larger
    on-contribution-order = Q.on-contribution-order c larger smaller l on

    pub on-payments-order : (member_at c.members smaller).paid < (member_at c.members larger).paid → on_payments c smaller ≤ on_payments c larger
    on-payments-order = Q.on-payments-order c larger smaller l on

-- ---- the result: of any case, and so of the one that an accepted FINISH leaves

-- what is shown after an accepted FINISH
pub finish-shows : (s : State) (bytes : List ℕ) → decode bytes ≡ some FINISH → (step s bytes).answer ≡ 0
    → (observed 0 (step s bytes).state).result ≡ some (result_of (with_stage (the_case s) Finished))
unfolding observed accepted letter_of letter
finish-shows s bytes is e = rw (A.call-accepted s bytes FINISH is (sym (A.call-answer s bytes FINISH is) ∙ e))

module _ (c : Case) where
  abbrev r : Result
  r = result_of c

  -- the six charges and the uncovered rest add up to the loss
  pub charges-add-up : sum r.charges + r.uncovered ≡ r.loss
  unfolding result_of
  charges-add-up = F.layers-add-up c

  -- the loss is the requirement read off the roll: "hedge loss + other loss − the prices of all units not open, at least 0", in signed cents
  pub loss-is-requirement : r.loss ≡ requirement c
  unfolding result_of
  loss-is-requirement = refl

  pub requirement-in-cents : requirement c ≡ at_least0 (pos (c.head.hedge_loss + c.head.other_loss) -ℤ sum_of_prices c)
  requirement-in-cents = F.requirement-in-cents c

  -- the members' charges on contributions add up to layer four (3, counted from 0), those on payments to layer six
  pub on-contribution-sum : sum (map (λ x. x.on_contribution) r.members) ≡ get_or r.charges 3 0
  unfolding result_of charge
  on-contribution-sum = ap sum (map-map (λ (x : MemberResult). x.on_contribution) _ (member_list c.head)) ∙ F.on-contribution-sum c

  pub on-payments-sum : sum (map (λ x. x.on_payments) r.members) ≡ get_or r.charges 5 0
  unfolding result_of charge
  on-payments-sum = ap sum (map-map (λ (x : MemberResult). x.on_payments) _ (member_list c.head)) ∙ F.on-payments-sum c

  -- no layer is charged above its limit; none while an earlier one has money left; nothing is uncovered unless all six are spent
  pub layer-within : (layer : ℕ) → get_or r.charges layer 0 ≤ get_or (limits c) layer 0
  unfolding result_of charge
  layer-within = F.layer-within c

  pub layers-in-turn : (earlier later : ℕ) → earlier < later → 0 < get_or r.charges later 0 → spent c earlier ≡ true
  unfolding result_of charge
  layers-in-turn = F.layers-in-turn c

  pub uncovered-last : 0 < r.uncovered → (layer : ℕ) → spent c layer ≡ true
  unfolding result_of
  uncovered-last = F.uncovered-last c

  -- what is prefunded covers a requirement up to it, so that FINISH in stage A leaves nothing uncovered
  pub prefunded-covers : requirement c ≤ prefunded c → r.uncovered ≡ 0
  unfolding result_of
  prefunded-covers = F.prefunded-covers c

  -- no member is charged above its contribution or its payments
  pub on-contribution-le : (m : ℕ) → on_contribution c m ≤ (member_at c.members m).contribution
  on-contribution-le = F.on-contribution-le c

  pub on-payments-le : (m : ℕ) → on_payments c m ≤ (member_at c.members m).paid
  on-payments-le = F.on-payments-le c

  -- a rank is 1 to 32
  pub rank-ok : (m : ℕ) → m < 32 → in_set c.head m ≡ true → (1 ≤ rank c m) × (rank c m ≤ 32)
  rank-ok = F.rank-ok c

  -- "most junior rank first": a member is charged on its contribution only if every member of a rank junior to its own is charged all of its own
  pub juniors-first : (senior junior : ℕ) → junior < 32 → in_set c.head junior ≡ true → rank c senior < rank c junior → 0 < on_contribution c senior
      → on_contribution c junior ≡ (member_at c.members junior).contribution
  juniors-first = F.juniors-first c
