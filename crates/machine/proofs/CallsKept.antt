-- Each accepted call keeps what holds of the case: one lemma for each call. Assumes nothing.
use mathlib.Core.Path.{◌≡◌, refl, sym, ap, ◌∙◌}
use mathlib.Core.Bool.{Bool, true, false, ◌&&◌, ◌||◌, not, false≢true}
use mathlib.Core.Logic.{inl, ⊎_elim}
use mathlib.Core.List.{List, [], ◌∷◌, ◌++◌, append-nil, append_assoc, map}
use mathlib.Core.Option.{some}
use Prim.Native.Nat.{ℕ, zero, suc, ◌+◌, ◌-◌, ◌≤◌, ◌<◌}
use native.Mathlib.Nat.{zero-add}
use native.Mathlib.Omega.{arith}
use lib.Dec.{leb, ltb, eqb}
use lib.ListN.{length, get_or, set, take, drop, replicate, length-append, length-set, get_or-map, get_or-append, get_or-eq_default}
use lib.Seq.{get_or_at, set-get_or, get_or-take, get_or-drop}
use borrow.Author.Tests.{leb-true, leb-false, ltb-true, ltb-false, lt-ltb, eqb-true, eqb-false, not-false}
use Rattle.lists.specs.Lists.{between, sum, count, all, keep, places, map_from, tab, when◌then◌else◌}
use Rattle.lists.proofs.Bools.{same-choice, cases, either, by-test, and_left, and_right, or_left, or_right, lt-or-le}
use Rattle.lists.proofs.Places.{length-tab, get_or-tab, get_or-same}
use Rattle.lists.proofs.Sums.{entry-le}
use Rattle.lists.proofs.Keep.{sum-keep-cons, sum-keep}
use Rattle.lists.proofs.Counts.{count-append, count-replicate-out, each_all, each-any}
use Rattle.lists.proofs.Each.{Each, set_cases, each_at, each_map, each_append, each-replicate, each_more, each_both, each_keep, each-map_from, each-map_from-at, each-kept-at, each-get, same-map_from, length-map_from, map-append, map-replicate, map-set, each_set}
use Rattle.lists.proofs.Pairs.{Pairs, pairs-map_from, pairs-at}
use Rattle.lists.specs.Tests.{Passed}
use Rattle.auction.specs.Price.{price_ok, price_limit}
use Rattle.sets.specs.Set.{members}
use Rattle.machine.specs.Wire.{Head, POOL, MEMBER, ROUND, BID, CLOSE, ALLOCATE, TEAR, CALL, PAY, MOVE, MISS, FINISH, SALE, WITHDRAW}
use Rattle.machine.specs.Roll.{UnitState, Open, Sold, Allocated, Moved, Torn, Agreed, Entry, Bid, no_bid, with_state, kind, is_open, is_agreed, open_in, changed_if, open_units, any_open, put_up, passed_to, withdrawn}
use Rattle.machine.specs.State.{Stage, CallsOut, Finished, Pool, Member, Round, Case, new_case, no_member, no_round, letter, letter_of, round_of, with_stage, with_members, with_roll, with_allocated, with_moved, with_called, in_set, member_list, member_at}
use Rattle.machine.specs.Requirement.{owes}
use Rattle.machine.specs.Move.{move_all}
use Rattle.machine.specs.Calls.{new_member, new_round, new_bid, reserve, in_auction, won_in, won_given, bids_after, sell, after_pool, after_member, after_round, after_bid, after_close, shortfall, allocation, also_allocated, after_allocate, calls, after_tear, after_call, after_pay, after_move, after_miss, sold, after_sale, in_round, after_withdraw}
use Rattle.machine.specs.Refusals.{tests, head_ok, pool_ok, member_ok, bid_ok, payment_ok, not_in_case, not_in_set, not_given, none_stands}
use Rattle.machine.proofs.RollChanges.{taken_in, taken, sold_is, sold_to, changes-changed, changes-torn, changes-shares, changes-move, changes-sell, same-pools, changed-each}
use Rattle.machine.proofs.Giving.{won_where, won_then, sell-open, sell-taken, sell-sold}
use Rattle.machine.proofs.Invariant.{HeadOk, PoolOk, MemberOk, Uncalled, MembersOk, RoundOk, BidOk, laid, EntryOk, RollOk, of_pool, ReserveOk, CaseOk}
use Rattle.machine.proofs.Closing.{won-at, won-sum, wins-at, given-same, given-won, given-le, won-grows}
use Rattle.machine.proofs.Stages.{letter-some, letter-is, letter-AC, letter-round, round-stage, bidding-stage, few-rounds}
use Rattle.machine.proofs.Shares.{allocation-le, call-le}
use Rattle.machine.proofs.Setters.{Allowed, no_member-ok, none_open_lem, all-shut, with-roll, with-members, with-member, with-stage, with-after, the_member}

-- a bid that stands is there
pub stands-there : (bids : List Bid) (n : ℕ) → (get_or bids n no_bid).stands ≡ true → n < length bids
stands-there bids n s =
    ⊎_elim (λ l. l) (λ g. absurd (false≢true (ap (λ (b : Bid). b.stands) (sym (get_or-eq_default bids no_bid {n = n} g)) ∙ s)))
    (lt-or-le n (length bids))

-- ---- HEAD

pub head-ranges : (h : Head) → head_ok h ≡ true → HeadOk h
unfolding head_ok
head-ranges h e =
    let t = each_all (λ (b : Bool). b) _ e in
    record {
      pools-some = leb-true 1 h.pools (and_left _ _ t.0);
      pools-most = leb-true h.pools 4 (and_right (leb 1 h.pools) _ t.0);
      least-some = leb-true 1 h.least_bid (and_left _ _ t.1.0);
      least-most = leb-true h.least_bid 1000 (and_right (leb 1 h.least_bid) _ t.1.0);
      set-some = ltb-true 0 h.set t.1.1.0;
      hedge = leb-true h.hedge_loss _ t.1.1.1.0;
      other = leb-true h.other_loss _ t.1.1.1.1.0;
      margin = leb-true h.margin _ t.1.1.1.1.1.0;
      fund = leb-true h.fund _ t.1.1.1.1.1.1.0;
      house = leb-true h.house _ t.1.1.1.1.1.1.1.0;
    }

pub head_ok_lem : (h : Head) → head_ok h ≡ true → CaseOk (new_case h)
unfolding laid letter member_at keep sum count
head_ok_lem h fit =
    record {
      head = head-ranges h fit;
      stage = refl;
      pools = record { few = omega arith; each = tt; complete = λ l. absurd (omega arith) };
      members = record {
        all32 = refl;
        each = each-replicate (MemberOk h) 32 no_member (no_member-ok h);
        uncalled = λ l. each-replicate Uncalled 32 no_member (refl, refl, refl);
        given-in-set = λ m g. absurd (false≢true (ap (λ (x : Member). x.given) (sym (get_or-same 32 m no_member)) ∙ g));
        complete = λ l. absurd (omega arith);
      };
      rounds = tt;
      bids = record { few = omega arith; each = tt };
      roll = record { order = refl; each = tt };
      won = record { total = λ pool. omega arith; reserves = tt; unsold = λ e. tt; sold = λ b. omega arith; withdrawn = tt };
      units = record { opened = λ e. absurd (omega arith); none = λ l. absurd (omega arith); setup = λ e. tt; sold-out = λ a. absurd (omega arith) };
    }

-- ---- POOL

laid_more : (i : ℕ) (xs : List Pool) (x : Pool) → laid i (xs ++ (x ∷ [])) ≡ laid i xs ++ replicate x.units (i + length xs)
unfolding laid
laid_more i [] x = append-nil _ ∙ ap (λ (n : ℕ). replicate x.units n) (omega arith)
laid_more i (y ∷ xs) x =
    let e : suc i + length xs ≡ i + suc (length xs) = omega arith in
    rw (laid_more (suc i) xs x, append_assoc, e)

put_keeps : (h : Head) (pools : List Pool) (bids : List Bid) (roll : List Entry) (x : Pool) → RollOk h pools bids roll
    → RollOk h (pools ++ (x ∷ [])) bids (put_up (length pools) x.units roll)
unfolding put_up
put_keeps h pools bids roll x ok =
    let new : Entry = record { pool = length pools; state = Open } in
    record {
      order =
          map-append (λ (e : Entry). e.pool) roll (replicate x.units new)
          ∙ rw (ok.order, map-replicate, laid_more 0 pools x, zero-add);
      each = each_append _ roll (replicate x.units new) ok.each (each-replicate _ x.units new tt);
    }

-- the units put up are neither taken nor sold
pub put-counts : (pool n : ℕ) (roll : List Entry) → ((k : ℕ) → taken k roll ≤ taken k (put_up pool n roll)) × ((b : ℕ) → count (sold_to b) (put_up pool n roll) ≡ count (sold_to b) roll)
unfolding put_up sold_is
put-counts pool n roll =
    let new : Entry = record { pool = pool; state = Open } in (
      λ k. omega (arith, count-append (taken_in k) roll (replicate n new)),
      λ b. omega (arith, count-append (sold_to b) roll (replicate n new), count-replicate-out (sold_to b) n new refl),
    )

-- ---- the bids change, and the roll does not

-- bids that are not fewer, each in its pool
record Wider (old new : List Bid) : Type 0 where
  many : length old ≤ length new
  same : (b : ℕ) → b < length old → (get_or new b no_bid).pool ≡ (get_or old b no_bid).pool

entry-wider : (h : Head) (old new : List Bid) → Wider old new → (pool : ℕ) (s : UnitState) → EntryOk h old pool s → EntryOk h new pool s
entry-wider h old new w pool Open o = tt
entry-wider h old new w pool (Sold b) o = (omega (arith, w.many, o.0), w.same b o.0 ∙ o.1)
entry-wider h old new w pool (Allocated m price) o = o
entry-wider h old new w pool (Moved m) o = o
entry-wider h old new w pool (Torn price) o = o
entry-wider h old new w pool (Agreed m price) o = o

bids-keep : (h : Head) (pools : List Pool) (old new : List Bid) (roll : List Entry) → Wider old new → RollOk h pools old roll → RollOk h pools new roll
bids-keep h pools old new roll w ok =
    record { order = ok.order; each = each_more _ _ (λ e. entry-wider h old new w e.pool e.state) roll ok.each }

-- a bid more, which has won nothing
pub won-more : (p : Bid → Bool) (bs : List Bid) (b : Bid) → b.won ≡ 0 → won_where p (bs ++ (b ∷ [])) ≡ won_where p bs
unfolding keep sum
won-more p [] b e = omega (arith, sum-keep-cons p (λ (x : Bid). x.won) b [], either (λ (n : ℕ). n ≡ 0) (p b) {x = b.won} {y = 0} e refl)
won-more p (x ∷ bs) b e =
    omega (
      arith,
      sum-keep-cons p (λ (y : Bid). y.won) x (bs ++ (b ∷ [])),
      sum-keep-cons p (λ (y : Bid). y.won) x bs,
      won-more p bs b e,
    )

won-appended : (bs : List Bid) (b : Bid) (k : ℕ) → (get_or bs k no_bid).won ≤ (get_or (bs ++ (b ∷ [])) k no_bid).won
won-appended [] b k = omega arith
won-appended (x ∷ bs) b zero = omega arith
won-appended (x ∷ bs) b (suc k) = won-appended bs b k

-- a member that is allocated nothing more is as it was
also-none : (pool n : ℕ) (x : Member) → n ≡ 0 → also_allocated pool n x ≡ x
unfolding also_allocated
also-none pool n x e =
    let same : get_or x.allocated pool 0 + n ≡ get_or x.allocated pool 0 = omega arith in
    ap (λ (k : ℕ). with_allocated x (set x.allocated pool k)) same ∙ ap (with_allocated x) (set-get_or x.allocated pool 0)

-- the units put up are open
put-open : (pool n : ℕ) (roll : List Entry) → Each (λ e. (is_open e || is_agreed e.state) ≡ true) roll
    → Each (λ e. (is_open e || is_agreed e.state) ≡ true) (put_up pool n roll)
unfolding put_up is_open kind
put-open pool n roll h = each_append _ roll (replicate n (record { pool = pool; state = Open })) h (each-replicate _ n (record { pool = pool; state = Open }) refl)

or-true : (b : Bool) → (b || true) ≡ true
or-true true = refl
or-true false = refl

module _ (c : Case) (ok : CaseOk c) where
  pub pool-ok : (pool units mark : ℕ) → Passed (tests (some c) c (POOL pool units mark)) → CaseOk (after_pool c pool units mark)
  unfolding tests after_pool not_in_case pool_ok letter_of
  pool-ok pool units mark t =
      let x : Pool = record { units = units; mark = mark } in
      let setup = letter-is c.stage 1 t.0 in
      let range : (between 1 1000 units && leb mark 1) ≡ true = not-false _ t.1.1.0 in
      let below = leb-false c.head.pools pool (or_left _ _ t.1.0) in
      let next = eqb-true pool (length c.pools) (not-false _ (or_right (leb c.head.pools pool) _ t.1.0)) in
      let counts = put-counts pool units c.roll in
      record {
        head = ok.head;
        stage = ok.stage;
        members = ok.members;
        rounds = ok.rounds;
        bids = ok.bids;
        pools = record {
          few = omega (arith, ok.pools.few, length-append c.pools (x ∷ []));
          each = each_append PoolOk c.pools (x ∷ []) ok.pools.each (
            (
              leb-true 1 units (and_left _ _ (and_left _ (leb mark 1) range)),
              leb-true units 1000 (and_right (leb 1 units) _ (and_left _ (leb mark 1) range)),
              leb-true mark 1 (and_right (between 1 1000 units) _ range),
            ),
            tt,
          );
          complete = λ l. absurd (omega arith);
        };
        roll = rw next (put_keeps c.head c.pools c.bids c.roll x ok.roll);
        won = record {
          total = λ p. omega (arith, ok.won.total p, counts.0 p);
          reserves = ok.won.reserves;
          unsold = ok.won.unsold;
          sold = λ b. omega (arith, ok.won.sold b, counts.1 b);
          withdrawn = ok.won.withdrawn;
        };
        units = record { opened = λ e. absurd (omega arith); none = λ l. absurd (omega arith); setup = λ e. put-open pool units c.roll (ok.units.setup e); sold-out = λ a. absurd (omega arith) };
      }

  -- ---- MEMBER

  pub member-ok : (m contribution : ℕ) (expected : List ℕ) → length expected ≡ 4 → Passed (tests (some c) c (MEMBER m contribution expected))
      → CaseOk (after_member c m contribution expected)
  unfolding tests after_member member_ok not_in_set letter_of
  member-ok m contribution expected four t =
      let setup = letter-is c.stage 1 t.0 in
      let n = c.head.pools in
      let range : (leb contribution 500_000_000 && all (λ k. leb k 1000) (take n expected) && all (λ k. eqb k 0) (drop n expected)) ≡ true = not-false _ t.1.1.0 in
      let first = and_left (leb contribution 500_000_000 && all (λ k. leb k 1000) (take n expected)) _ range in
      let most = leb-true contribution 500_000_000 (and_left _ _ first) in
      let given : Each (λ k. leb k 1000 ≡ true) (take n expected) = each_all (λ k. leb k 1000) (take n expected) (and_right (leb contribution 500_000_000) _ first) in
      let lacking : Each (λ k. eqb k 0 ≡ true) (drop n expected) = each_all (λ k. eqb k 0) (drop n expected)
      (and_right (leb contribution 500_000_000 && all (λ k. leb k 1000) (take n expected)) _ range) in
      let lacks : (pool : ℕ) → n ≤ pool → get_or expected pool 0 ≡ 0 =
      λ pool l.
      let same : n + (pool - n) ≡ pool = omega arith in
      rw same at (sym (get_or-drop n expected (pool - n) 0) ∙ eqb-true _ 0 (each-get (λ k. eqb k 0 ≡ true) (drop n expected) (pool - n) 0 refl lacking)) in
      with-member c ok m (new_member contribution expected)
      (record {
        expected4 = four;
        allocated4 = refl;
        expected-most = λ pool. ⊎_elim
            (λ l. rw (get_or-take n expected pool 0 l) at (leb-true (get_or (take n expected) pool 0) 1000 (each-get (λ k. leb k 1000 ≡ true) (take n expected) pool 0 refl given)))
            (λ l. omega (arith, lacks pool l)) (lt-or-le pool n);
        expected-lacks = lacks;
        allocated-most = λ pool. omega (arith, get_or-same {A = ℕ} 4 pool 0);
        paid-most = omega arith;
        called-most = omega arith;
        contribution-most = most;
        absent = λ e. absurd (false≢true (sym e));
      })
      (λ l. (refl, refl, refl))
      (λ g. not-false _ (or_left _ _ t.1.0))
      (λ l. absurd (omega arith))

  -- ---- ROUND

  -- all pools and members are given
  pub round-complete : not_given c ≡ false → (length c.pools ≡ c.head.pools) × ((m : ℕ) → m < 32 → in_set c.head m ≡ true → (member_at c.members m).given ≡ true)
  unfolding not_given members
  round-complete e =
      let few = ltb-false (length c.pools) c.head.pools (or_left _ _ e) in
      let P : ℕ → Type 0 = λ m. not (member_at c.members m).given ≡ false in
      let each = each-any (λ m. not (member_at c.members m).given) (member_list c.head) (or_right (ltb (length c.pools) c.head.pools) _ e) in (
        omega (arith, few, ok.pools.few),
        λ m l i. not-false _ (rw (get_or-tab 32 (λ (k : ℕ). k) m 0 l) at (each-kept-at P (in_set c.head) (places 32) m 0 each (omega (arith, length-tab 32 (λ (k : ℕ). k))) (rw (get_or-tab 32 (λ (k : ℕ). k) m 0 l) i))),
      )

  -- where A has no round, no unit is open, and 8 declines ROUND
  pub round-open : (reserves : List ℕ) → Passed (tests (some c) c (ROUND reserves)) → letter c.stage ≡ 3 → length c.rounds ≡ 0 → ⊥
  unfolding tests letter_of
  round-open reserves t a z = false≢true (sym (rw (a, all-shut c.roll (ok.units.sold-out a z)) at t.1.1.1.0))

  pub round-ok : (reserves : List ℕ) → Passed (tests (some c) c (ROUND reserves)) → CaseOk (after_round c reserves)
  unfolding tests after_round new_round letter_of letter round_of reserve
  round-ok reserves t =
      let old = ok.members in
      let n = c.head.pools in
      let next = new_round n c.roll reserves in
      let more = length-append c.rounds (next ∷ []) in
      let from = round-stage c.stage (length c.rounds) ok.stage (round-open reserves t) (letter-round c.stage t.1.0) in
      let complete = round-complete t.1.1.1.1.0 in
      record {
        head = ok.head;
        stage = (omega (arith, more, from.0), omega arith, omega (arith, from.1));
        pools = record { few = ok.pools.few; each = ok.pools.each; complete = λ l. complete.0 };
        members = record {
          all32 = old.all32;
          each = old.each;
          uncalled = λ l. old.uncalled from.2;
          given-in-set = old.given-in-set;
          complete = λ l. complete.1;
        };
        rounds = each_append (RoundOk c.head) c.rounds (next ∷ []) ok.rounds (
          record {
            reserves-all = eqb-true (length reserves) n (not-false _ (rw (letter-some c.stage) at t.0));
            opened-all = length-tab n (λ pool. ltb 0 (open_units c.roll pool));
            prices = each_more _ _ (λ price e. leb-true price price_limit e) reserves (each_all price_ok reserves (not-false _ t.1.1.0));
          },
          tt,
        );
        bids = record {
          few = ok.bids.few;
          each = each_more _ _ (λ b o. record {
            first = o.first;
            round = omega (arith, more, o.round);
            pool = o.pool;
            member = o.member;
            least = o.least;
            some = o.some;
            most = o.most;
            price = o.price;
            won = o.won;
          }) c.bids ok.bids.each;
        };
        roll = ok.roll;
        won = record {
          total = ok.won.total;
          reserves = each_more (λ b. BidOk c.head (length c.rounds) b × ReserveOk c.rounds b) _
              (λ b o w. rw (get_or-append c.rounds (next ∷ []) no_round (b.round - 1) (omega (arith, o.0.first, o.0.round))) (o.1 w))
              c.bids (each_both _ _ c.bids ok.bids.each ok.won.reserves);
          unsold = λ e. each_more _ _ (λ b o r. absurd (omega (arith, o.round, from.0))) c.bids ok.bids.each;
          sold = ok.won.sold;
          withdrawn = ok.won.withdrawn;
        };
        units = record {
          opened = λ e. ap (λ (r : Round). r.opened)
              (get_or_at c.rounds next [] no_round (suc (round_of c.stage) - 1) (omega (arith, from.0)));
          none = λ l. absurd (omega arith);
          setup = λ e. absurd (omega arith);
          sold-out = λ a. absurd (omega arith);
        };
      }

  -- ---- BID

  pub bid-ok : (pool m units price : ℕ) → Passed (tests (some c) c (BID pool m units price)) → CaseOk (after_bid c pool m units price)
  unfolding tests after_bid letter_of not_in_case not_in_set bid_ok keep sum
  bid-ok pool m units price t =
      let bidding = letter-is c.stage 2 t.0 in
      let at = bidding-stage c.stage (length c.rounds) ok.stage bidding in
      let b = new_bid (round_of c.stage) pool m units price in
      let range : (between 1 1000 units && price_ok price) ≡ true = not-false _ t.1.1.1.0 in
      let fit : BidOk c.head (length c.rounds) b = record {
        first = at.1;
        round = omega (arith, at.0);
        pool = leb-false c.head.pools pool t.1.0;
        member = not-false _ t.1.1.0;
        least = ltb-false units c.head.least_bid t.1.1.1.1.0;
        some = leb-true 1 units (and_left _ _ (and_left _ (price_ok price) range));
        most = leb-true units 1000 (and_right (leb 1 units) _ (and_left _ (price_ok price) range));
        price = leb-true price price_limit (and_right (between 1 1000 units) _ range);
        won = omega arith;
      } in
      let more = length-append c.bids (b ∷ []) in
      record {
        head = ok.head;
        stage = ok.stage;
        pools = ok.pools;
        members = ok.members;
        rounds = ok.rounds;
        bids = record {
          few = omega (arith, more, leb-false _ (length c.bids) t.1.1.1.1.1.0);
          each = each_append _ c.bids (b ∷ []) ok.bids.each (fit, tt);
        };
        roll = bids-keep _ _ _ _ _ (record {
          many = omega (arith, more);
          same = λ k l. ap (λ (x : Bid). x.pool) (get_or-append c.bids (b ∷ []) no_bid k l);
        }) ok.roll;
        won = record {
          total = λ p. omega (arith, ok.won.total p, won-more (of_pool p) c.bids b refl);
          reserves = each_append (ReserveOk c.rounds) c.bids (b ∷ []) ok.won.reserves (λ w. absurd (omega arith), tt);
          unsold = λ e. each_append _ c.bids (b ∷ []) (ok.won.unsold e) (λ r. refl, tt);
          sold = λ k. omega (arith, ok.won.sold k, won-appended c.bids b k);
          withdrawn = each_append _ c.bids (b ∷ []) ok.won.withdrawn (λ r. refl, tt);
        };
        units = ok.units;
      }

  -- ---- CLOSE

  module _ (bidding : letter c.stage ≡ 2) where
    abbrev round : ℕ
    round = round_of c.stage

    abbrev wins : List (List ℕ)
    wins = tab c.head.pools (won_in c round)

    abbrev new : ℕ → Bid → Bid
    new = won_given round wins

    abbrev bids : List Bid
    bids = map_from 0 new c.bids

    abbrev Fit : Bid → Type 0
    Fit = BidOk c.head (length c.rounds)

    -- every bid has at least what it had, and with that what it is given now
    pub close-won : Pairs (λ x y. x.won + won_then round y ≤ y.won) c.bids bids
    close-won =
        pairs-map_from _ new no_bid c.bids
        (λ i l. given-won round wins i (get_or c.bids i no_bid) (each_at _ c.bids i no_bid l (ok.won.unsold bidding))) 0 c.bids refl

    -- what the bids of a pool are given is open
    pub close-sold : (pool : ℕ) → won_where (in_auction round pool) bids ≤ open_units c.roll pool
    close-sold pool =
        omega (
          arith,
          won-sum c round pool,
          given-le round wins pool c.head.pools (won_in c round pool) (λ l. wins-at c round c.head.pools pool l) 0 c.bids
              (each_more _ (λ b. b.pool < c.head.pools) (λ b o. o.pool) c.bids ok.bids.each),
        )

    -- so each pool's open units fall by what its bids of this round are given
    pub close-gives : (pool : ℕ) → open_units (sell round 0 bids c.roll) pool + won_where (in_auction round pool) bids ≡ open_units c.roll pool
    close-gives pool = sell-open pool round 0 bids c.roll (close-sold pool)

    close-fits : Each Fit bids
    unfolding won_given
    close-fits =
        each-map_from-at Fit Fit new no_bid c.bids
        (λ i l o.
        let b = get_or c.bids i no_bid in
        either Fit (in_round round b)
        (record {
          first = o.first;
          round = o.round;
          pool = o.pool;
          member = o.member;
          least = o.least;
          some = o.some;
          most = o.most;
          price = o.price;
          won = omega (arith, wins-at c round c.head.pools b.pool o.pool i, (won-at c round b.pool i l).0);
        }) o) 0 c.bids refl ok.bids.each

    close-reserves : Each (ReserveOk c.rounds) bids
    unfolding won_given in_round reserve
    close-reserves =
        each-map_from-at (λ b. Fit b × ReserveOk c.rounds b) (ReserveOk c.rounds) new no_bid c.bids
        (λ i l o.
        let b = get_or c.bids i no_bid in
        by-test (ReserveOk c.rounds) (in_round round b)
        (λ e w.
        let here = wins-at c round c.head.pools b.pool o.0.pool i in
        let some : 0 < get_or (won_in c round b.pool) i 0 = omega (arith, here, w) in
        let many : 0 < open_units c.roll b.pool = omega (arith, entry-le (won_in c round b.pool) i, won-sum c round b.pool) in
        rw (eqb-true b.round round (and_right b.stands _ e))
        ((
          rw (ok.units.opened bidding) (get_or-tab c.head.pools _ b.pool false o.0.pool ∙ lt-ltb 0 _ many),
          (won-at c round b.pool i l).1 some,
        )))
        (λ e. o.1))
        0 c.bids refl (each_both Fit (ReserveOk c.rounds) c.bids ok.bids.each ok.won.reserves)

    close-withdrawn : Each (λ b. b.stands ≡ false → b.won ≡ 0) bids
    unfolding won_given in_round
    close-withdrawn =
        each-map_from (λ b. b.stands ≡ false → b.won ≡ 0) (λ b. b.stands ≡ false → b.won ≡ 0) new
        (λ i b o.
        by-test (λ (x : Bid). x.stands ≡ false → x.won ≡ 0) (b.stands && eqb b.round round)
        (λ e s. absurd (false≢true (sym s ∙ and_left _ _ e)))
        (λ e. o)) 0 c.bids ok.won.withdrawn

    close-wider : Wider c.bids bids
    close-wider =
        let pool_of : Bid → ℕ = λ b. b.pool in
        let same = same-map_from pool_of new (given-same round wins pool_of (λ b v. refl)) 0 c.bids in
        record {
          many = omega (arith, length-map_from new 0 c.bids);
          same = λ k l. sym (get_or-map pool_of bids k no_bid) ∙ ap (λ (l : List ℕ). get_or l k 0) same ∙ get_or-map pool_of c.bids k no_bid;
        }

    close-roll : RollOk c.head c.pools bids (sell round 0 bids c.roll)
    close-roll =
        let old = bids-keep _ _ c.bids bids c.roll close-wider ok.roll in
        let New = EntryOk c.head bids in
        let changes = changes-sell New bids (λ i l. (l, refl)) round 0 bids c.roll refl in
        record {
          order = same-pools New c.roll _ changes ∙ old.order;
          each = changed-each New c.roll _ changes New (λ pool s n. n) old.each;
        }

  pub close-ok : Passed (tests (some c) c CLOSE) → CaseOk (after_close c)
  unfolding tests after_close bids_after letter_of letter
  close-ok t =
      let bidding = letter-is c.stage 2 t.0 in
      let at = bidding-stage c.stage (length c.rounds) ok.stage bidding in
      let old = ok.members in
      record {
        head = ok.head;
        stage = (inl at.0, at.1, at.2);
        pools = record { few = ok.pools.few; each = ok.pools.each; complete = λ l. ok.pools.complete (omega arith) };
        members = record {
          all32 = old.all32;
          each = old.each;
          uncalled = λ l. old.uncalled (omega arith);
          given-in-set = old.given-in-set;
          complete = λ l. old.complete (omega arith);
        };
        rounds = ok.rounds;
        bids = record { few = omega (arith, length-map_from (new bidding) 0 c.bids, ok.bids.few); each = close-fits bidding };
        roll = close-roll bidding;
        won = record {
          total = λ pool. omega (
            arith,
            ok.won.total pool,
            won-grows (round bidding) (wins bidding) pool 0 c.bids,
            sell-taken pool (round bidding) (bids bidding) c.roll (close-sold bidding pool),
          );
          reserves = close-reserves bidding;
          unsold = λ e. absurd (omega arith);
          sold = λ b. omega (
            arith,
            ok.won.sold b,
            rw (zero-add b) at (sell-sold b (round bidding) 0 (bids bidding) c.roll),
            pairs-at _ c.bids (bids bidding) b no_bid (omega (arith, same-choice {A = ℕ} (in_round (round bidding) no_bid) 0)) (close-won bidding),
          );
          withdrawn = close-withdrawn bidding;
        };
        units = record { opened = λ e. absurd (omega arith); none = λ l. absurd (omega arith); setup = λ e. absurd (omega arith); sold-out = λ a z. absurd (omega (arith, at.0, at.1)) };
      }

  -- ---- ALLOCATE and CALL change every member by its place

  -- what a change of all members must show
  mapped-members : (s : Stage) (f : ℕ → Member → Member) → 2 ≤ letter c.stage
      → ((m : ℕ) → m < length c.members → MemberOk c.head (f m (get_or c.members m no_member)))
      → ((m : ℕ) (x : Member) → (f m x).given ≡ x.given) → (letter s < 4 → Each Uncalled (map_from 0 f c.members))
      → MembersOk c.head s (map_from 0 f c.members)
  unfolding member_at
  mapped-members s f begun fits given uncalled =
      let old = ok.members in
      let same : (m : ℕ) → (get_or (map_from 0 f c.members) m no_member).given ≡ (get_or c.members m no_member).given =
      λ m. pairs-at (λ (x y : Member). y.given ≡ x.given) c.members (map_from 0 f c.members) m no_member refl
      (pairs-map_from (λ (x y : Member). y.given ≡ x.given) f no_member c.members (λ i l. given i (get_or c.members i no_member)) 0 c.members refl) in
      record {
        all32 = length-map_from f 0 c.members ∙ old.all32;
        each = each-map_from-at (MemberOk c.head) (MemberOk c.head) f no_member c.members (λ m l o. fits m l) 0 c.members refl old.each;
        uncalled = uncalled;
        given-in-set = λ m g. old.given-in-set m (sym (same m) ∙ g);
        complete = λ l m b i. same m ∙ old.complete begun m b i;
      }

  pub allocate-ok : (pool price : ℕ) → Passed (tests (some c) c (ALLOCATE pool price)) → CaseOk (after_allocate c pool price)
  unfolding tests after_allocate also_allocated letter_of shortfall member_at members kind sold_is
  allocate-ok pool price t =
      let after = letter-is c.stage 3 t.0 in
      let shares = allocation c pool in
      let more : ℕ → Member → Member = λ m x. also_allocated pool (get_or shares m 0) x in
      let old = ok.members in
      let fit = leb-true price price_limit (not-false _ t.1.1.0) in
      with-roll (with_members c (map_from 0 more c.members))
      (with-members c ok _ (mapped-members c.stage more (omega arith)
      (λ m l.
      let x = get_or c.members m no_member in
      let o = each_at (MemberOk c.head) c.members m no_member l old.each in
      let most = allocation-le c pool m in
      record {
        expected4 = o.expected4;
        allocated4 = length-set x.allocated pool _ ∙ o.allocated4;
        expected-most = o.expected-most;
        expected-lacks = o.expected-lacks;
        allocated-most = λ k. set_cases (λ (n : ℕ). n ≤ get_or x.expected k 0) x.allocated pool (get_or x.allocated pool 0 + get_or shares m 0) 0 k
            (λ e. rw e (omega (arith, most, o.allocated-most pool))) (o.allocated-most k);
        paid-most = o.paid-most;
        called-most = o.called-most;
        contribution-most = o.contribution-most;
        absent = λ g. also-none pool (get_or shares m 0) x
            (omega (arith, most, ap (λ (y : Member). get_or y.expected pool 0) (o.absent g), get_or-same {A = ℕ} 4 pool 0)) ∙ o.absent g;
      })
      (λ m x. refl)
      (λ l. each-map_from Uncalled Uncalled more (λ i x o. o) 0 c.members (old.uncalled l))))
      _
      (changes-shares (Allowed c.head c.bids) pool price shares (member_list c.head) c.roll
      (each_more _ _ (λ m i. record { fits = (i, fit); closed = refl; unsold = λ b. refl }) (member_list c.head) (each_keep (in_set c.head) (places 32))))
      (λ e. omega arith) (λ e. absurd (omega arith))

  -- ---- TEAR and MISS

  torn-allowed : (price : ℕ) → price_ok price ≡ true → (pool : ℕ) → Allowed c.head c.bids pool (Torn price)
  unfolding kind sold_is
  torn-allowed price e pool = record { fits = leb-true price price_limit e; closed = refl; unsold = λ b. refl }

  pub tear-ok : (pool price : ℕ) → Passed (tests (some c) c (TEAR pool price)) → CaseOk (after_tear c pool price)
  unfolding tests after_tear letter_of
  tear-ok pool price t =
      let after = letter-is c.stage 3 t.0 in
      with-roll c ok _ (changes-torn _ (open_in pool) price c.roll (torn-allowed price (not-false _ t.1.1.0))) (λ e. omega arith) (λ e. absurd (omega arith))

  pub miss-ok : (m price : ℕ) → Passed (tests (some c) c (MISS m price)) → CaseOk (after_miss c m price)
  unfolding tests after_miss letter_of
  miss-ok m price t =
      let after = letter-AC c.stage t.0 in
      with-roll c ok _ (changes-torn _ (λ e. passed_to m e.state) price c.roll (torn-allowed price (not-false _ t.1.1.0))) (λ e. omega arith) (λ e. absurd (omega arith))

  -- ---- CALL and FINISH

  pub call_ok : Passed (tests (some c) c CALL) → CaseOk (after_call c)
  unfolding tests after_call letter_of letter member_at
  call_ok t =
      let after = letter-is c.stage 3 t.0 in
      let shares = calls c in
      let called : ℕ → Member → Member = λ m x. with_called x (get_or shares m 0) in
      let old = ok.members in
      record {
        head = ok.head;
        stage = few-rounds c.stage (length c.rounds) ok.stage;
        pools = record { few = ok.pools.few; each = ok.pools.each; complete = λ l. ok.pools.complete (omega arith) };
        members = mapped-members CallsOut called (omega arith)
            (λ m l.
            let x = get_or c.members m no_member in
            let o = each_at (MemberOk c.head) c.members m no_member l old.each in
            let none = each_at Uncalled c.members m no_member l (old.uncalled (omega arith)) in
            record {
              expected4 = o.expected4;
              allocated4 = o.allocated4;
              expected-most = o.expected-most;
              expected-lacks = o.expected-lacks;
              allocated-most = o.allocated-most;
              paid-most = omega (arith, none.1);
              called-most = call-le c m;
              contribution-most = o.contribution-most;
              absent = λ g. ap (λ (y : Member). with_called y (get_or shares m 0)) (o.absent g)
                  ∙ ap (with_called no_member) (let z : get_or shares m 0 ≡ 0 = omega (arith, call-le c m, ap (λ (y : Member). y.contribution) (o.absent g)) in z);
            })
            (λ m x. refl)
            (λ l. absurd (omega arith));
        rounds = ok.rounds;
        bids = ok.bids;
        roll = ok.roll;
        won = record { total = ok.won.total; reserves = ok.won.reserves; unsold = λ e. absurd (omega arith); sold = ok.won.sold; withdrawn = ok.won.withdrawn };
        units = record { opened = λ e. absurd (omega arith); none = λ l. none_open_lem c.roll t.1.0; setup = λ e. absurd (omega arith); sold-out = λ a. absurd (omega arith) };
      }

  pub finish-ok : Passed (tests (some c) c FINISH) → CaseOk (with_stage c Finished)
  unfolding tests letter_of letter
  finish-ok t =
      let after = letter-AC c.stage t.0 in
      with-stage c ok Finished (few-rounds c.stage (length c.rounds) ok.stage) (omega arith) (omega arith)
      (none_open_lem c.roll t.1.0)

  -- ---- PAY and MOVE

  -- who owes something is given
  owes-given : (m : ℕ) → 0 < owes c.members m → (member_at c.members m).given ≡ true
  unfolding owes
  owes-given m owed =
      let x = member_at c.members m in
      let o = the_member c ok m in
      let most : 0 < x.called = omega (arith, owed, either (λ (n : ℕ). n ≤ x.called) x.moved {x = 0} {y = x.called - x.paid} (omega arith) (omega arith)) in
      cases x.given (x.given ≡ true) (λ e. e) (λ e. absurd (omega (arith, most, ap (λ (y : Member). y.called) (o.absent e))))

  pub pay-ok : (m amount : ℕ) → Passed (tests (some c) c (PAY m amount)) → CaseOk (after_pay c m amount)
  unfolding tests after_pay letter_of owes not_in_set payment_ok
  pay-ok m amount t =
      let out = letter-is c.stage 4 t.0 in
      let x = member_at c.members m in
      let o = the_member c ok m in
      let some = leb-true 1 amount (and_left _ _ (not-false _ t.1.1.0)) in
      let owed = ltb-false (owes c.members m) amount t.1.1.1.0 in
      let given = owes-given m (omega (arith, some, owed)) in
      let le : amount ≤ x.called - x.paid =
      omega (arith, owed, either (λ (n : ℕ). n ≤ x.called - x.paid) x.moved {x = 0} {y = x.called - x.paid} (omega arith) (omega arith)) in
      with-member c ok m _
      (record {
        expected4 = o.expected4;
        allocated4 = o.allocated4;
        expected-most = o.expected-most;
        expected-lacks = o.expected-lacks;
        allocated-most = o.allocated-most;
        paid-most = omega (arith, o.paid-most);
        called-most = o.called-most;
        contribution-most = o.contribution-most;
        absent = λ e. absurd (false≢true (sym e ∙ given));
      })
      (λ l. absurd (omega arith)) (λ g. not-false _ t.1.0) (λ l. given)

  pub move-ok : (m : ℕ) → Passed (tests (some c) c (MOVE m)) → CaseOk (after_move c m)
  unfolding tests after_move letter_of move_all not_in_set kind sold_is
  move-ok m t =
      let out = letter-is c.stage 4 t.0 in
      let o = the_member c ok m in
      let owed = eqb-false (owes c.members m) 0 t.1.1.0 in
      let given = owes-given m (omega (arith, owed)) in
      let here = not-false _ t.1.0 in
      with-roll _
      (with-member c ok m (with_moved (member_at c.members m))
      (record {
        expected4 = o.expected4;
        allocated4 = o.allocated4;
        expected-most = o.expected-most;
        expected-lacks = o.expected-lacks;
        allocated-most = o.allocated-most;
        paid-most = o.paid-most;
        called-most = o.called-most;
        contribution-most = o.contribution-most;
        absent = λ e. absurd (false≢true (sym e ∙ given));
      })
      (λ l. absurd (omega arith)) (λ g. here) (λ l. given))
      _
      (changes-move (Allowed c.head c.bids) c.bids m (λ pool. record { fits = here; closed = refl; unsold = λ b. refl })
      (length c.roll) (owes c.members m) c.roll)
      (λ e. omega arith) (λ e. absurd (omega arith))

  -- ---- WITHDRAW

  -- what does not say whether a bid stands is as it was
  withdrawn-same : (n : ℕ) (g : Bid → ℕ) → ((b : Bid) → g (withdrawn b) ≡ g b) → map g (set c.bids n (withdrawn (get_or c.bids n no_bid))) ≡ map g c.bids
  withdrawn-same n g same =
      let b = get_or c.bids n no_bid in
      map-set g c.bids n (withdrawn b)
      ∙ ap (set (map g c.bids) n) (same b ∙ sym (get_or-map g c.bids n no_bid))
      ∙ set-get_or (map g c.bids) n (g no_bid)

  pub withdraw-ok : (m n : ℕ) → Passed (tests (some c) c (WITHDRAW m n)) → CaseOk (after_withdraw c n)
  unfolding tests after_withdraw letter_of none_stands in_round
  withdraw-ok m n t =
      let b = get_or c.bids n no_bid in
      let new = withdrawn b in
      let stands = and_left _ _ (and_left _ _ (not-false _ t.1.1.0)) in
      let o = each_at (BidOk c.head (length c.rounds)) c.bids n no_bid (stands-there c.bids n stands) ok.bids.each in
      let none = each_at _ c.bids n no_bid (stands-there c.bids n stands) (ok.won.unsold (letter-is c.stage 2 t.0))
      (eqb-true b.round (round_of c.stage) (and_right b.stands _ (and_left _ _ (not-false _ t.1.1.0)))) in
      record {
        head = ok.head;
        stage = ok.stage;
        pools = ok.pools;
        members = ok.members;
        rounds = ok.rounds;
        bids = record {
          few = omega (arith, length-set c.bids n new, ok.bids.few);
          each = each_set _ c.bids n new (record {
            first = o.first;
            round = o.round;
            pool = o.pool;
            member = o.member;
            least = o.least;
            some = o.some;
            most = o.most;
            price = o.price;
            won = o.won;
          }) ok.bids.each;
        };
        roll = bids-keep _ _ _ _ _ (record {
          many = omega (arith, length-set c.bids n new);
          same = λ k l. set_cases (λ (x : Bid). x.pool ≡ (get_or c.bids k no_bid).pool) c.bids n new no_bid k (λ e. rw e) refl;
        }) ok.roll;
        won = record {
          total = λ p. omega (
            arith,
            ok.won.total p,
            sum-keep (of_pool p) (λ (x : Bid). x.won) c.bids,
            sum-keep (of_pool p) (λ (x : Bid). x.won) (set c.bids n new),
            ap sum (withdrawn-same n (λ x. when of_pool p x then x.won else 0) (λ x. refl)),
          );
          reserves = each_set (ReserveOk c.rounds) c.bids n new
              (each-get (ReserveOk c.rounds) c.bids n no_bid (λ w. absurd (omega arith)) ok.won.reserves) ok.won.reserves;
          unsold = λ e. each_set _ c.bids n new
              (each-get (λ x. x.round ≡ round_of c.stage → x.won ≡ 0) c.bids n no_bid (λ r. refl) (ok.won.unsold e)) (ok.won.unsold e);
          withdrawn = each_set _ c.bids n new (λ s. none) ok.won.withdrawn;
          sold = λ k. set_cases (λ (x : Bid). count (sold_to k) c.roll ≤ x.won) c.bids n new no_bid k
              (λ e. omega (arith, ok.won.sold k, ap (λ (i : ℕ). (get_or c.bids i no_bid).won) e)) (ok.won.sold k);
        };
        units = ok.units;
      }

  -- ---- SALE

  pub sale-ok : (pool m price : ℕ) → Passed (tests (some c) c (SALE pool m price)) → CaseOk (after_sale c pool m price)
  unfolding tests after_sale sold letter_of not_in_set kind sold_is is_agreed
  sale-ok pool m price t =
      let setup = letter-is c.stage 1 t.0 in
      let here = not-false _ t.1.1.0 in
      let fit = leb-true price price_limit (not-false _ t.1.1.1.0) in
      let complete = round-complete t.1.1.1.1.1.0 in
      let roll = sold pool m price c.roll in
      let kept = with-roll c ok roll
      (changes-changed (Allowed c.head c.bids) (open_in pool) (Agreed m price) c.roll (λ k. record { fits = (here, fit); closed = refl; unsold = λ b. refl }))
      (λ e. omega arith)
      (λ e. each_map _ _ (changed_if (open_in pool) (Agreed m price))
      (λ x o. either (λ (y : Entry). (is_open y || is_agreed y.state) ≡ true) (open_in pool x) {x = with_state x (Agreed m price)} {y = x} (or-true (is_open (with_state x (Agreed m price)))) o) c.roll (ok.units.setup e)) in
      by-test (λ (s : Stage). CaseOk (with_stage (with_roll c roll) s)) (any_open roll)
      (λ e. kept)
      (λ e. with-after (with_roll c roll) kept setup complete.0 complete.1 (none_open_lem roll e))
