-- The units of the program and the machine's case: after every accepted call they are the units of its roll again. Assumes nothing.
use mathlib.Core.Path.{◌≡◌, refl, sym, ap, ◌∙◌}
use mathlib.Core.Bool.{false}
use mathlib.Core.Logic.{◌⊎◌, inl, inr, ⊎_elim}
use mathlib.Core.List.{List, [], ◌∷◌, ◌++◌}
use mathlib.Core.Option.{some}
use Prim.Native.Nat.{ℕ, ◌+◌, ◌^◌, ◌≤◌, ◌<◌, min}
use native.Mathlib.Omega.{arith}
use lib.Dec.{eqb}
use lib.ListN.{length, get_or, set, replicate, length-replicate, get_or-replicate, get_or-append, get_or-eq_default}
use lib.Seq.{get_or-set_other}
use borrow.Author.Tests.{leb-true, leb-false, lt-ltb, eqb-true, eqb-false, eq-eqb, ne_eqb, not-false}
use Rattle.lists.specs.Lists.{sum, count, tab}
use Rattle.lists.specs.Adding.{most16, add_at}
use Rattle.lists.proofs.Bools.{cases, or_left, lt-or-le}
use Rattle.lists.proofs.Places.{get_or-same}
use Rattle.lists.proofs.Each.{Each, each_more, each_at, get_or-map_from, length-map_from, set_cases}
use Rattle.lists.specs.Tests.{Passed}
use Rattle.sets.specs.Set.{members}
use Rattle.sets.proofs.Members.{members-each}
use Rattle.auction.specs.Price.{zero_price, price_limit}
use Rattle.machine.specs.Wire.{Head, Call, POOL, MEMBER, ROUND, BID, CLOSE, ALLOCATE, TEAR, CALL, PAY, MOVE, MISS, FINISH, SALE, WITHDRAW}
use Rattle.machine.specs.Roll.{Bid, no_bid, with_won, open_units, withdrawn}
use Rattle.machine.specs.State.{Case, new_case, letter, letter_of, round_of}
use Rattle.machine.specs.Requirement.{owes}
use Rattle.machine.specs.Calls.{accepted, in_auction, won_given, won_in, bids_after, allocation, new_bid}
use Rattle.machine.specs.Calls.{after_pool, after_member, after_round, after_bid, after_close, after_allocate, after_tear, after_call, after_pay, after_move, after_miss, sold, after_sale, after_withdraw}
use Rattle.machine.specs.Refusals.{tests, not_in_case, not_in_set, none_open}
use Rattle.machine.proofs.Invariant.{BidOk, CaseOk}
use Rattle.machine.proofs.RollChanges.{sold_is, sold_to}
use Rattle.machine.proofs.Giving.{won_where}
use Rattle.machine.proofs.Closing.{given-same}
use Rattle.machine.proofs.CallsKept.{pool-ok, bid-ok, close-gives, close-ok, round-complete, withdraw-ok}
use Rattle.machine.proofs.Shares.{allocation-sum}
use Rattle.machine.proofs.Bounds as B
use Rattle.machine.proofs.Stages.{letter-is, letter-AC}
use Rattle.machine.proofs.Later.{Settled, settled-refuses, allocate-settles}
use Rattle.units.specs.declared.Units.{Units}
use Rattle.units.specs.Places.{allocated_at, sold_at, moved_at, torn_at, missed_at, missed_moved_at, agreed_at, unit_at}
use Rattle.units.specs.Steps.{zero_sum, no_units, put_up_units, sell_units, allocate_units, tear_units, missed_to, miss_units, with_buyer, sale_units}
use Rattle.turns.specs.Keys.{live_keys}
use Rattle.units.specs.Groups.{move_units}
use Rattle.units.proofs.Places.{unit-open, unit-allocated, unit-sold, unit-moved, unit-torn, unit-agreed, by_place}
use Rattle.units.proofs.Weighing.{weigh-none}
use Rattle.units.proofs.Over.{count-over}
use Rattle.units.proofs.Tied.{in_pool}
use Rattle.units.proofs.Kept.{Kept, Lent, low-labels, count_at, open-shown, put-kept, sell-kept, allocate-kept, bids-kept}
use Rattle.units.proofs.Tears.{Free, tear-kept, miss-kept, sale-kept, torn-from, torn-less}
use Rattle.units.proofs.Passing.{move-kept, over-length}
use Rattle.units.proofs.History.{Begun, HadMove, History, call-goes, still-shut, moved-refuses, move-marks, Grown, history-next, none-grown}
use Rattle.units.proofs.Growth.{sold-less, shared-less, moved-less, missed-less, Cleared, cleared}

-- the units are those of the case's roll
pub record Right (c : Case) (u : Units) : Type 0 where
  pub kept : Kept u c.bids c.roll
  pub history : History c u.counts

-- ---- what follows from the limits of a case

module _ (h : Head) (rounds : ℕ) (bids : List Bid) (fit : Each (BidOk h rounds) bids) where
  bid-pool : h.pools ≤ 4 → (b : ℕ) → b < length bids → (get_or bids b no_bid).pool < 4
  bid-pool most b l = omega (arith, (each_at (BidOk h rounds) bids b no_bid l fit).pool)

  bid-price : (b : ℕ) → (get_or bids b no_bid).price ≤ price_limit
  bid-price b =
      ⊎_elim
      (λ l. (each_at (BidOk h rounds) bids b no_bid l fit).price)
      (λ past. rw (get_or-eq_default bids no_bid {n = b} past) (omega arith))
      (lt-or-le b (length bids))

-- the bids after CLOSE are the same but for what they won
module _ (c : Case) (round : ℕ) where
  after-long : length (bids_after c round) ≡ length c.bids
  unfolding bids_after
  after-long = length-map_from (won_given round (tab c.head.pools (won_in c round))) 0 c.bids

  after_same : (g : Bid → ℕ) → ((x : Bid) (v : ℕ) → g (with_won x v) ≡ g x) → (b : ℕ) → b < length c.bids → g (get_or (bids_after c round) b no_bid) ≡ g (get_or c.bids b no_bid)
  unfolding bids_after
  after_same g same b l =
      let wins = tab c.head.pools (won_in c round) in
      ap g (get_or-map_from (won_given round wins) 0 c.bids b no_bid l) ∙ given-same round wins g same (0 + b) (get_or c.bids b no_bid)

-- places that POOL and CLOSE add nothing to
put-less : (u : Units) (pool n : ℕ) → pool < 4 → (k : ℕ) → 4 ≤ k → get_or (put_up_units u pool n).counts k 0 ≤ get_or u.counts k 0
unfolding put_up_units add_at
put-less u pool n l k far = rw (lt-ltb pool 4 l) (omega (arith, get_or-set_other u.counts pool k (min (get_or u.counts pool 0 + n) most16) 0 (λ e. absurd (omega arith))))

sell-less : (u : Units) (kept round : ℕ) (rounds pools prices won : List ℕ) (k : ℕ) → (k < 132) ⊎ (388 ≤ k)
    → get_or (sell_units u kept round rounds pools prices won).counts k 0 ≤ get_or u.counts k 0
unfolding sell_units
sell-less u kept round rounds pools prices won k far = sold-less round rounds pools won k (min kept 256) u.counts (omega arith) far

allocate-less : (u : Units) (set' pool price : ℕ) (shares : List ℕ) → pool < 4 → (k : ℕ) → ((m : ℕ) → m < 32 → k ≡ allocated_at pool m → ⊥)
    → get_or (allocate_units u set' pool price shares).counts k 0 ≤ get_or u.counts k 0
unfolding allocate_units
allocate-less u set' pool price shares l k other =
    rw (lt-ltb pool 4 l) (shared-less pool shares k (members set') u.counts (each_more _ _ (λ m o. other m o.0) (members set') (members-each set')))

tear-less : (u : Units) (pool price : ℕ) → pool < 4 → (k : ℕ) → (k ≡ torn_at pool → ⊥) → get_or (tear_units u pool price).counts k 0 ≤ get_or u.counts k 0
unfolding tear_units
tear-less u pool price l k other = rw (lt-ltb pool 4 l) (torn-less u pool (torn_at pool) zero_price price k other)

tear-all : (u : Units) (pool price : ℕ) → pool < 4 → length u.counts ≡ 780 → get_or (tear_units u pool price).counts pool 0 ≡ 0
unfolding tear_units
tear-all u pool price l long = rw (lt-ltb pool 4 l) (torn-from u pool (torn_at pool) zero_price price (omega arith) (λ e. absurd (omega arith)))

sale-less : (u : Units) (pool m price : ℕ) → pool < 4 → (k : ℕ) → (k ≡ agreed_at pool → ⊥) → get_or (sale_units u pool m price).counts k 0 ≤ get_or u.counts k 0
unfolding sale_units
sale-less u pool m price l k other = rw (lt-ltb pool 4 l) (torn-less (with_buyer u pool m) pool (agreed_at pool) zero_price price k other)

sale-all : (u : Units) (pool m price : ℕ) → pool < 4 → length u.counts ≡ 780 → get_or (sale_units u pool m price).counts pool 0 ≡ 0
unfolding sale_units
sale-all u pool m price l long = rw (lt-ltb pool 4 l) (torn-from (with_buyer u pool m) pool (agreed_at pool) zero_price price (omega arith) (λ e. absurd (omega arith)))

move-less : (u : Units) (prices pools : List ℕ) (m owed k : ℕ) → ((p : ℕ) → p < 4 → k ≡ moved_at p m → ⊥) → get_or (move_units u prices pools m owed).counts k 0 ≤ get_or u.counts k 0
unfolding move_units
move-less u prices pools m owed k other = moved-less pools m k other 384 owed (live_keys u.allocation prices u.counts) u.counts u.sums

miss-is : (u : Units) (m price : ℕ) → m < 32 → miss_units u m price ≡ missed_to m price 4 u
unfolding miss_units
miss-is u m price l = rw (lt-ltb m 32 l)

module _ (c : Case) (ok : CaseOk c) where
  pool-small : (pool : ℕ) → not_in_case c.head pool ≡ false → pool < 4
  unfolding not_in_case
  pool-small pool t = omega (arith, leb-false c.head.pools pool t, ok.head.pools-most)

  -- the units sold to a bid
  pub sold-counted : (u : Units) → Kept u c.bids c.roll → (b : ℕ) → b < 256 → count (sold_to b) c.roll ≡ get_or u.counts (sold_at b) 0
  unfolding sold_is
  sold-counted u kept b l =
      let a = u.allocation in
      let r = u.noted in
      let y = u.buyers in
      count_at u.counts (unit_at a r y c.bids) c.roll kept.tied.counted (sold_to b) (sold_at b) (omega arith)
      (by_place (λ k. (k ≡ sold_at b → ⊥) → sold_to b (unit_at a r y c.bids k) ≡ false)
      (λ i li no. rw (unit-open a r y c.bids i li))
      (λ p m lp lm no. rw (unit-allocated a r y c.bids p m lp lm))
      (λ i li no. rw (unit-sold a r y c.bids i li) (ne_eqb i b (λ e. no (ap sold_at e))))
      (λ p m lp lm no. rw (unit-moved a r y c.bids p m lp lm))
      (λ i li no. rw (unit-torn a r y c.bids i li))
      (λ p lp no. rw (unit-agreed a r y c.bids p lp)))
      (rw (unit-sold a r y c.bids b l) (eq-eqb b b refl))

  -- a bid that has units is one of the bids
  pub sold-known : (u : Units) → Kept u c.bids c.roll → (b : ℕ) → b < 256 → 0 < get_or u.counts (sold_at b) 0 → b < length c.bids
  sold-known u kept b l live =
      ⊎_elim
      (λ h. h)
      (λ h. absurd (omega (arith, sold-counted u kept b l, ok.won.sold b, ap (λ (x : Bid). x.won) (get_or-eq_default c.bids no_bid {n = b} h))))
      (lt-or-le b (length c.bids))

  -- after an accepted call
  after-call : (call : Call) → Passed (tests (some c) c call) → (u v : Units) → Right c u → Kept v (accepted c call).bids (accepted c call).roll
      → Grown c (accepted c call) u.counts v.counts → Right (accepted c call) v
  after-call call t u v right kept grown = record {
    kept = kept;
    history = history-next c (accepted c call) u.counts v.counts right.history (λ begun. call-goes c ok begun call t) (still-shut c call t) grown;
  }

  same_units : (call : Call) → Passed (tests (some c) c call) → (u : Units) → Right c u → Kept u (accepted c call).bids (accepted c call).roll → Right (accepted c call) u
  same_units call t u right kept = after-call call t u u right kept (none-grown c (accepted c call) u.counts u.counts (λ pool m lp lm. omega arith) (λ k far. omega arith))

  -- ---- the calls that leave the units as they are

  pub member_right : (m contribution : ℕ) (expected : List ℕ) → Passed (tests (some c) c (MEMBER m contribution expected)) → (u : Units) → Right c u
      → Right (accepted c (MEMBER m contribution expected)) u
  unfolding accepted after_member
  member_right m contribution expected t u right = same_units (MEMBER m contribution expected) t u right right.kept

  pub round-right : (reserves : List ℕ) → Passed (tests (some c) c (ROUND reserves)) → (u : Units) → Right c u → Right (accepted c (ROUND reserves)) u
  unfolding accepted after_round
  round-right reserves t u right = same_units (ROUND reserves) t u right right.kept

  pub call-right : Passed (tests (some c) c CALL) → (u : Units) → Right c u → Right (accepted c CALL) u
  unfolding accepted after_call
  call-right t u right = same_units CALL t u right right.kept

  pub pay-right : (m amount : ℕ) → Passed (tests (some c) c (PAY m amount)) → (u : Units) → Right c u → Right (accepted c (PAY m amount)) u
  unfolding accepted after_pay
  pay-right m amount t u right = same_units (PAY m amount) t u right right.kept

  pub finish-right : Passed (tests (some c) c FINISH) → (u : Units) → Right c u → Right (accepted c FINISH) u
  unfolding accepted
  finish-right t u right = same_units FINISH t u right right.kept

  -- a new bid has no units
  pub bid-right : (pool m units price : ℕ) → Passed (tests (some c) c (BID pool m units price)) → (u : Units) → Right c u → Right (accepted c (BID pool m units price)) u
  unfolding accepted after_bid
  bid-right pool m units price t u right =
      let new = new_bid (round_of c.stage) pool m units price in
      let bids = c.bids ++ (new ∷ []) in
      let same : (b : ℕ) → b < 256 → 0 < get_or u.counts (sold_at b) 0 → get_or bids b no_bid ≡ get_or c.bids b no_bid =
      λ b l live. get_or-append c.bids (new ∷ []) no_bid b (sold-known u right.kept b l live) in
      same_units (BID pool m units price) t u right
      (bids-kept u c.bids bids c.roll right.kept (λ b l. bid-price c.head (length c.rounds) bids (bid-ok c ok pool m units price t).bids.each b)
      (λ b l live. (ap (λ (x : Bid). x.pool) (same b l live), ap (λ (x : Bid). x.price) (same b l live))))

  -- a bid that is withdrawn keeps its pool and its price
  pub withdraw-right : (m n : ℕ) → Passed (tests (some c) c (WITHDRAW m n)) → (u : Units) → Right c u → Right (accepted c (WITHDRAW m n)) u
  unfolding accepted after_withdraw
  withdraw-right m n t u right =
      let new = withdrawn (get_or c.bids n no_bid) in
      let bids = set c.bids n new in
      same_units (WITHDRAW m n) t u right
      (bids-kept u c.bids bids c.roll right.kept (λ b l. bid-price c.head (length c.rounds) bids (withdraw-ok c ok m n t).bids.each b)
      (λ b l live. (
        set_cases (λ (x : Bid). x.pool ≡ (get_or c.bids b no_bid).pool) c.bids n new no_bid b (λ e. rw e) refl,
        set_cases (λ (x : Bid). x.price ≡ (get_or c.bids b no_bid).price) c.bids n new no_bid b (λ e. rw e) refl,
      )))

  -- ---- POOL

  pub pool-right : (pool units mark : ℕ) → Passed (tests (some c) c (POOL pool units mark)) → (u : Units) → Right c u
      → Right (accepted c (POOL pool units mark)) (put_up_units u pool units)
  unfolding accepted after_pool tests in_pool
  pool-right pool units mark t u right =
      let d = after_pool c pool units mark in
      let fits = pool-ok c ok pool units mark t in
      let l = pool-small pool (or_left _ _ t.1.0) in
      after-call (POOL pool units mark) t u (put_up_units u pool units) right
      (put-kept u c.bids c.roll right.kept pool units l
      (λ q. omega (arith, count-over (λ e. eqb e.pool q) d.roll, B.pool-entries d fits q, (B.pool-ok d fits q).0))
      (omega (arith, over-length d.roll, B.roll-small d fits)))
      (none-grown c d u.counts (put_up_units u pool units).counts
      (λ p m lp lm. put-less u pool units l (allocated_at p m) (omega arith))
      (λ k far. put-less u pool units l k (omega arith)))

  -- ---- CLOSE; the lists that are lent are those of the bids after it

  close-few : letter c.stage ≡ 2 → (pool : ℕ) → won_where (in_auction (round_of c.stage) pool) (bids_after c (round_of c.stage)) ≤ open_units c.roll pool
  unfolding bids_after
  close-few bidding pool = omega (arith, close-gives c ok bidding pool)

  pub close-right : Passed (tests (some c) c CLOSE) → (u : Units) → Right c u → (rounds pools prices won : List ℕ)
      → Lent (bids_after c (round_of c.stage)) rounds pools prices won
      → Right (accepted c CLOSE) (sell_units u (length c.bids) (round_of c.stage) rounds pools prices won)
  unfolding accepted after_close tests letter_of
  close-right t u right rounds pools prices won lent =
      let round = round_of c.stage in
      let bids = bids_after c round in
      let fits = close-ok c ok t in
      let long : length bids ≡ length c.bids = after-long c round in
      let all = bids-kept u c.bids bids c.roll right.kept (λ b l. bid-price c.head (length c.rounds) bids fits.bids.each b)
      (λ b l live. (after_same c round (λ x. x.pool) (λ x v. refl) b (sold-known u right.kept b l live), after_same c round (λ x. x.price) (λ x v. refl) b (sold-known u right.kept b l live))) in
      after-call CLOSE t u (sell_units u (length c.bids) round rounds pools prices won) right
      (rw (← long)
      (sell-kept u bids c.roll all fits.bids.few (bid-pool c.head (length c.rounds) bids fits.bids.each ok.head.pools-most) round rounds pools prices won lent
      (λ b l. each_at _ bids b no_bid l fits.won.withdrawn)
      (λ pool l. close-few (letter-is c.stage 2 t.0) pool)))
      (none-grown c (after_close c) u.counts (sell_units u (length c.bids) round rounds pools prices won).counts
      (λ p m lp lm. sell-less u (length c.bids) round rounds pools prices won (allocated_at p m) (inl (omega arith)))
      (λ k far. sell-less u (length c.bids) round rounds pools prices won k (inr far)))

  -- ---- ALLOCATE and TEAR

  pub allocate-right : (pool price : ℕ) → Passed (tests (some c) c (ALLOCATE pool price)) → (u : Units) → Right c u
      → Right (accepted c (ALLOCATE pool price)) (allocate_units u c.head.set pool price (allocation c pool))
  unfolding accepted after_allocate tests letter_of
  allocate-right pool price t u right =
      let d = after_allocate c pool price in
      let l = pool-small pool t.1.0 in
      let v = allocate_units u c.head.set pool price (allocation c pool) in
      let begun : Begun c = omega (arith, letter-is c.stage 3 t.0) in
      let settles = allocate-settles c ok pool price t in
      let refused : Settled pool c → ⊥ = λ h. settled-refuses c pool price h t in
      let less : (k : ℕ) → ((m : ℕ) → m < 32 → k ≡ allocated_at pool m → ⊥) → get_or v.counts k 0 ≤ get_or u.counts k 0 =
      allocate-less u c.head.set pool price (allocation c pool) l in
      after-call (ALLOCATE pool price) t u v right
      (allocate-kept u c.bids c.roll right.kept c.head.set pool price l (leb-true price price_limit (not-false _ t.1.1.0)) (allocation c pool)
      (omega (arith, allocation-sum c pool))
      (λ m lm. ⊎_elim (λ live. absurd (refused (right.history.allocated pool m l lm live).1)) (λ h. omega arith) (lt-or-le 0 (get_or u.counts (allocated_at pool m) 0))))
      (record {
        allocated = λ p m lp lm. cases (eqb p pool) _
            (λ e. let is = eqb-true p pool e in inr (begun, rw is settles, rw is refused))
            (λ e. inl (less (allocated_at p m) (λ x lx is. eqb-false p pool e (omega arith))));
        torn = λ p lp. inl (less (torn_at p) (λ x lx is. absurd (omega arith)));
        missed = λ p m lp lm. inl (less (missed_at p m) (λ x lx is. absurd (omega arith)));
        moved = λ p m lp lm. inl (less (moved_at p m) (λ x lx is. absurd (omega arith)));
        cleared = λ p m lp lm. inl (less (missed_moved_at p m) (λ x lx is. absurd (omega arith)));
        agreed = λ p lp. inl (less (agreed_at p) (λ x lx is. absurd (omega arith)));
      })

  pub tear-right : (pool price : ℕ) → Passed (tests (some c) c (TEAR pool price)) → (u : Units) → Right c u → Right (accepted c (TEAR pool price)) (tear_units u pool price)
  unfolding accepted after_tear tests letter_of
  tear-right pool price t u right =
      let d = after_tear c pool price in
      let l = pool-small pool t.1.0 in
      let v = tear_units u pool price in
      let begun : Begun c = omega (arith, letter-is c.stage 3 t.0) in
      let kept = tear-kept u c.bids c.roll right.kept pool price l (leb-true price price_limit (not-false _ t.1.1.0))
      (λ has. ⊎_elim
      (λ used. absurd (omega (arith, (right.history.torn pool l used).1, open-shown u c.bids c.roll right.kept pool l)))
      (λ h. omega arith)
      (lt-or-le 0 (get_or u.counts (torn_at pool) 0))) in
      let less : (k : ℕ) → (k ≡ torn_at pool → ⊥) → get_or v.counts k 0 ≤ get_or u.counts k 0 = tear-less u pool price l in
      after-call (TEAR pool price) t u v right kept
      (record {
        allocated = λ p m lp lm. inl (less (allocated_at p m) (λ is. absurd (omega arith)));
        torn = λ p lp. cases (eqb p pool) _
            (λ e. let is = eqb-true p pool e in inr (begun, rw is (omega (arith, open-shown v c.bids d.roll kept pool l, tear-all u pool price l right.kept.tied.long))))
            (λ e. inl (less (torn_at p) (λ is. eqb-false p pool e (omega arith))));
        missed = λ p m lp lm. inl (less (missed_at p m) (λ is. absurd (omega arith)));
        moved = λ p m lp lm. inl (less (moved_at p m) (λ is. absurd (omega arith)));
        cleared = λ p m lp lm. inl (less (missed_moved_at p m) (λ is. absurd (omega arith)));
        agreed = λ p lp. inl (less (agreed_at p) (λ is. absurd (omega arith)));
      })

  -- ---- SALE

  pub sale-right : (pool m price : ℕ) → Passed (tests (some c) c (SALE pool m price)) → (u : Units) → Right c u → Right (accepted c (SALE pool m price)) (sale_units u pool m price)
  unfolding accepted after_sale sold tests none_open not_in_case
  sale-right pool m price t u right =
      let d = after_sale c pool m price in
      let l = pool-small pool t.1.0 in
      let v = sale_units u pool m price in
      let some-open : 0 < open_units c.roll pool = omega (arith, eqb-false (open_units c.roll pool) 0 t.1.1.1.1.0) in
      let given : pool < length c.pools = omega (arith, leb-false c.head.pools pool t.1.0, (round-complete c ok t.1.1.1.1.1.0).0) in
      let none-there : get_or u.counts (agreed_at pool) 0 ≡ 0 = ⊎_elim
      (λ used. absurd (omega (arith, (right.history.agreed pool l used).1)))
      (λ h. omega arith)
      (lt-or-le 0 (get_or u.counts (agreed_at pool) 0)) in
      let kept = sale-kept u c.bids c.roll right.kept pool m none-there price l (leb-true price price_limit (not-false _ t.1.1.1.0)) in
      let less : (k : ℕ) → (k ≡ agreed_at pool → ⊥) → get_or v.counts k 0 ≤ get_or u.counts k 0 = sale-less u pool m price l in
      after-call (SALE pool m price) t u v right kept
      (record {
        allocated = λ p x lp lx. inl (less (allocated_at p x) (λ is. absurd (omega arith)));
        torn = λ p lp. inl (less (torn_at p) (λ is. absurd (omega arith)));
        missed = λ p x lp lx. inl (less (missed_at p x) (λ is. absurd (omega arith)));
        moved = λ p x lp lx. inl (less (moved_at p x) (λ is. absurd (omega arith)));
        cleared = λ p x lp lx. inl (less (missed_moved_at p x) (λ is. absurd (omega arith)));
        agreed = λ p lp. cases (eqb p pool) _
            (λ e. let is = eqb-true p pool e in inr (rw is (given, omega (arith, open-shown v c.bids d.roll kept pool l, sale-all u pool m price l right.kept.tied.long))))
            (λ e. inl (less (agreed_at p) (λ is. eqb-false p pool e (omega arith))));
      })

  -- ---- MOVE and MISS; the lists that are lent are those of the bids

  module _ (bits : c.head.set < 2 ^ 32) where
    member-small : (m : ℕ) → not_in_set c.head m ≡ false → m < 32
    unfolding not_in_set
    member-small m t = B.in-set-below c ok bits m (not-false _ t)

    pub move-right : (m : ℕ) → Passed (tests (some c) c (MOVE m)) → (u : Units) → Right c u → (prices pools : List ℕ)
        → ((b : ℕ) → b < length c.bids → get_or prices b 0 ≡ (get_or c.bids b no_bid).price) → ((b : ℕ) → b < length c.bids → get_or pools b 0 ≡ (get_or c.bids b no_bid).pool)
        → Right (accepted c (MOVE m)) (move_units u prices pools m (owes c.members m))
    unfolding accepted after_move tests
    move-right m t u right prices pools priced pooled =
        let d = after_move c m in
        let l = member-small m t.1.0 in
        let owed = owes c.members m in
        let v = move_units u prices pools m owed in
        let marks = move-marks c ok m l t in
        let refused : HadMove c m → ⊥ = λ h. moved-refuses c m h t in
        let less : (k : ℕ) → ((p : ℕ) → p < 4 → k ≡ moved_at p m → ⊥) → get_or v.counts k 0 ≤ get_or u.counts k 0 = move-less u prices pools m owed in
        after-call (MOVE m) t u v right
        (move-kept u c.bids c.roll right.kept ok.bids.few prices pools priced pooled
        (bid-pool c.head (length c.rounds) c.bids ok.bids.each ok.head.pools-most) (sold-known u right.kept) m owed l)
        (record {
          allocated = λ p a lp la. inl (less (allocated_at p a) (λ q lq is. absurd (omega arith)));
          torn = λ p lp. inl (less (torn_at p) (λ q lq is. absurd (omega arith)));
          missed = λ p a lp la. inl (less (missed_at p a) (λ q lq is. absurd (omega arith)));
          moved = λ p a lp la. cases (eqb a m) _
              (λ e. let is = eqb-true a m e in inr (marks.0, rw is marks.1, rw is refused))
              (λ e. inl (less (moved_at p a) (λ q lq is. eqb-false a m e (omega arith))));
          cleared = λ p a lp la. inl (less (missed_moved_at p a) (λ q lq is. absurd (omega arith)));
          agreed = λ p lp. inl (less (agreed_at p) (λ q lq is. absurd (omega arith)));
        })

    pub miss-right : (m price : ℕ) → Passed (tests (some c) c (MISS m price)) → (u : Units) → Right c u → Right (accepted c (MISS m price)) (miss_units u m price)
    unfolding accepted after_miss tests letter_of
    miss-right m price t u right =
        let d = after_miss c m price in
        let l = member-small m t.1.0 in
        let v = miss_units u m price in
        let begun : Begun c = omega (arith, letter-AC c.stage t.0) in
        let h = right.history in
        let later = call-goes c ok begun (MISS m price) t in
        let low = leb-true price price_limit (not-false _ t.1.1.0) in
        let free : (p : ℕ) → p < 4 → Free c.bids m price l low u p = λ p lp. record {
          allocated = λ has. ⊎_elim (λ used. absurd (omega (arith, (h.missed p m lp l used).2))) (λ none-there. omega arith) (lt-or-le 0 (get_or u.counts (missed_at p m) 0));
          moved = λ has. ⊎_elim (λ used. absurd (omega (arith, (h.cleared p m lp l used).2))) (λ none-there. omega arith) (lt-or-le 0 (get_or u.counts (missed_moved_at p m) 0));
        } in
        let is : v ≡ missed_to m price 4 u = miss-is u m price l in
        let less : (k : ℕ) → ((q : ℕ) → q < 4 → (k ≡ missed_at q m → ⊥) × (k ≡ missed_moved_at q m → ⊥)) → get_or (missed_to m price 4 u).counts k 0 ≤ get_or u.counts k 0 =
        missed-less u right.kept.tied.long m price l 4 in
        let none_left : (p : ℕ) → p < 4 → Cleared u right.kept.tied.long m price l 4 p = λ p lp. cleared u right.kept.tied.long m price l 4 p (omega arith) lp in
        after-call (MISS m price) t u v right
        (miss-kept c.bids m price l low u c.roll right.kept free (each_more _ _ (λ e o. lt-ltb e.pool 4 (omega (arith, o, ok.pools.few, ok.head.pools-most))) c.roll (B.entry-pools c ok)))
        (rw is (record {
          allocated = λ p a lp la. inl (less (allocated_at p a) (λ q lq. (λ e. absurd (omega arith), λ e. absurd (omega arith))));
          torn = λ p lp. inl (less (torn_at p) (λ q lq. (λ e. absurd (omega arith), λ e. absurd (omega arith))));
          missed = λ p a lp la. cases (eqb a m) _
              (λ e.
              let same = eqb-true a m e in
              rw same (⊎_elim
              (λ has. inr (later.begun, later.settled p (h.allocated p m lp l has).1, (none_left p lp).allocated))
              (λ none-there. inl ((none_left p lp).missed (omega arith)))
              (lt-or-le 0 (get_or u.counts (allocated_at p m) 0))))
              (λ e. inl (less (missed_at p a) (λ q lq. (λ x. eqb-false a m e (omega arith), λ x. absurd (omega arith)))));
          moved = λ p a lp la. inl (less (moved_at p a) (λ q lq. (λ e. absurd (omega arith), λ e. absurd (omega arith))));
          cleared = λ p a lp la. cases (eqb a m) _
              (λ e.
              let same = eqb-true a m e in
              rw same (⊎_elim
              (λ has. inr (later.begun, later.had m (h.moved p m lp l has).1, (none_left p lp).moved))
              (λ none-there. inl ((none_left p lp).missed-moved (omega arith)))
              (lt-or-le 0 (get_or u.counts (moved_at p m) 0))))
              (λ e. inl (less (missed_moved_at p a) (λ q lq. (λ x. absurd (omega arith), λ x. eqb-false a m e (omega arith)))));
          agreed = λ p lp. inl (less (agreed_at p) (λ q lq. (λ e. absurd (omega arith), λ e. absurd (omega arith))));
        }))

-- ---- a new case has no unit

abbrev zeros : ℕ → List ℕ
zeros n = replicate n 0

zeros-at : (n k : ℕ) → get_or (zeros n) k 0 ≡ 0
zeros-at n k = get_or-same n k 0

pub new-right : (h : Head) → Right (new_case h) no_units
unfolding no_units sum
new-right h =
    record {
      kept = record {
        tied = record {
          long = length-replicate {A = ℕ} 780 0;
          four = length-replicate {A = ℕ} 4 zero_sum;
          counted = record { all = λ f. sym (weigh-none (zeros 780) (λ k. f (unit_at (zeros 4) (zeros 264) (zeros 4) [] k)) (λ k l has. absurd (omega (arith, zeros-at 780 k)))) };
          summed = λ pool l. omega (arith, get_or-replicate 4 pool zero_sum 0 l);
          few = λ pool. omega arith;
          all = omega arith;
          low = low-labels (zeros 4) (zeros 264) (zeros 4) []
              (record { given = λ p l. omega (arith, zeros-at 4 p); torn = λ i l. omega (arith, zeros-at 264 i); bid = λ b l. omega arith });
        };
        four = length-replicate {A = ℕ} 4 0;
        long = length-replicate {A = ℕ} 264 0;
        buyers = length-replicate {A = ℕ} 4 0;
      };
      history = record {
        allocated = λ pool m lp lm has. absurd (omega (arith, zeros-at 780 (allocated_at pool m)));
        torn = λ pool lp has. absurd (omega (arith, zeros-at 780 (torn_at pool)));
        missed = λ pool m lp lm has. absurd (omega (arith, zeros-at 780 (missed_at pool m)));
        moved = λ pool m lp lm has. absurd (omega (arith, zeros-at 780 (moved_at pool m)));
        cleared = λ pool m lp lm has. absurd (omega (arith, zeros-at 780 (missed_moved_at pool m)));
        agreed = λ pool lp has. absurd (omega (arith, zeros-at 780 (agreed_at pool)));
      };
    }
