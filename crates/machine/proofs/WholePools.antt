-- Document 02, C-12: SALE "sells the whole pool to one member". In S a pool with an open unit has only such units, so that the open units that SALE takes are
-- the pool. Assumes nothing.
use mathlib.Core.Path.{◌≡◌, refl, ap}
use mathlib.Core.Bool.{Bool, true, false}
use mathlib.Core.List.{List, map}
use mathlib.Core.Option.{none, some}
use Prim.Native.Nat.{ℕ, ◌≤◌, ◌<◌}
use native.Mathlib.Omega.{arith}
use lib.Dec.{eqb}
use lib.ListN.{length, replicate}
use borrow.Author.Tests.{eqb-true, eqb-false, not-false}
use Rattle.lists.specs.Lists.{when◌then◌else◌}
use Rattle.lists.proofs.Bools.{cases, by-test, and_right, and-false, or_right}
use Rattle.lists.proofs.Counts.{count-append, count-replicate-out, count_none}
use Rattle.lists.proofs.Each.{Each, each_append, each-replicate, each_map, each_more, each-always, map-ext}
use Rattle.lists.specs.Tests.{Passed}
use Rattle.machine.specs.Wire.{Call, HEAD, POOL, MEMBER, ROUND, BID, CLOSE, ALLOCATE, TEAR, CALL, PAY, MOVE, MISS, FINISH, SALE, WITHDRAW}
use Rattle.machine.specs.Roll.{Agreed, Entry, with_state, kind, is_open, open_in, changed_if, open_units, put_up}
use Rattle.machine.specs.State.{Case, letter, letter_of}
use Rattle.machine.specs.Calls.{accepted, after_pool, after_member, after_round, after_bid, after_close, after_allocate, after_tear, after_call, after_pay, after_move, after_miss, sold, after_sale, after_withdraw}
use Rattle.machine.specs.Refusals.{tests, none_open, not_in_case}
use Rattle.machine.specs.Run.{run_from}
use Rattle.machine.proofs.RollChanges.{Closed, changes-changed, open-falls}
use Rattle.machine.proofs.RollSteps.{open_entry}
use Rattle.machine.proofs.Invariant.{CaseOk}
use Rattle.machine.proofs.Bounds.{entry-pools}
use Rattle.machine.proofs.Stages.{letter-is, letter-AC}
use Rattle.machine.proofs.Reached.{reached-too}

-- every unit of the pool is open
abbrev OpenThere : ℕ → Entry → Type 0
OpenThere pool e = eqb e.pool pool ≡ true → is_open e ≡ true

-- no pool is open in part
abbrev Whole : List Entry → Type 0
Whole roll = (pool : ℕ) → 0 < open_units roll pool → Each (OpenThere pool) roll

-- ---- POOL and SALE

-- units put up in a pool that has none yet
whole-put : (pool n : ℕ) (roll : List Entry) → Each (λ e. e.pool < pool) roll → Whole roll → Whole (put_up pool n roll)
unfolding put_up open_units open_in is_open kind
whole-put pool n roll below whole k more =
    let new = open_entry pool in
    each_append (OpenThere k) roll (replicate n new)
    (cases (eqb pool k) (Each (OpenThere k) roll)
    (λ e. each_more _ (OpenThere k) (λ x l i. absurd (omega (arith, eqb-true x.pool k i, eqb-true pool k e))) roll below)
    (λ e. whole k (omega (arith, count-append (open_in k) roll (replicate n new), count-replicate-out (open_in k) n new e))))
    (each-replicate (OpenThere k) n new (λ i. refl))

module _ (pool m price : ℕ) (roll : List Entry) where
  -- the pool sold has no open unit left
  sold-shut : open_units (sold pool m price roll) pool ≡ 0
  unfolding sold open_units open_in is_open kind
  sold-shut =
      count_none (open_in pool) (map (changed_if (open_in pool) (Agreed m price)) roll)
      (each_map (λ e. Unit {0}) (λ e. open_in pool e ≡ false) (changed_if (open_in pool) (Agreed m price))
      (λ e u. by-test (λ x. open_in pool x ≡ false) (open_in pool e) {x = with_state e (Agreed m price)} {y = e} (λ o. refl) (λ o. o)) roll
      (each-always (λ e. Unit {0}) (λ e. tt) roll))

  sold-falls : (k : ℕ) → open_units (sold pool m price roll) k ≤ open_units roll k
  unfolding sold kind
  sold-falls k =
      open-falls (λ p s. Closed s) roll (map (changed_if (open_in pool) (Agreed m price)) roll)
      (changes-changed (λ p s. Closed s) (open_in pool) (Agreed m price) roll (λ p. refl)) (λ p s h. h) k

  whole-sale : Whole roll → Whole (sold pool m price roll)
  unfolding sold open_in
  whole-sale whole k more =
      each_map (OpenThere k) (OpenThere k) (changed_if (open_in pool) (Agreed m price))
      (λ e h. by-test (OpenThere k) (open_in pool e) {x = with_state e (Agreed m price)} {y = e}
      (λ o i.
      let same : k ≡ pool = omega (arith, eqb-true e.pool k i, eqb-true e.pool pool (and_right (is_open e) _ o)) in
      absurd (omega (arith, rw same at more, sold-shut)))
      (λ o. h))
      roll (whole k (omega (arith, more, sold-falls k)))

-- ---- every call keeps it

abbrev pub WholeInSetup : Case → Type 0
WholeInSetup c = letter c.stage ≡ 1 → Whole c.roll

module _ (c : Case) (ok : CaseOk c) (whole : WholeInSetup c) where
  whole-call : (call : Call) → Passed (tests (some c) c call) → WholeInSetup (accepted c call)
  unfolding accepted tests letter_of letter after_pool after_member after_round after_bid after_close after_allocate after_tear after_call after_pay after_move after_miss after_sale after_withdraw
  whole-call (HEAD h) t s = λ pool l. tt
  whole-call (POOL pool units mark) t s =
      let next = eqb-true pool (length c.pools) (not-false _ (or_right (not_in_case c.head pool) _ t.1.0)) in
      whole-put pool units c.roll (each_more _ (λ e. e.pool < pool) (λ e l. omega arith) c.roll (entry-pools c ok)) (whole s)
  whole-call (MEMBER m contribution expected) t s = whole s
  whole-call (ROUND reserves) t s = absurd (omega arith)
  whole-call (BID pool m units price) t s = absurd (omega (arith, letter-is c.stage 2 t.0))
  whole-call CLOSE t s = absurd (omega arith)
  whole-call (ALLOCATE pool price) t s = absurd (omega (arith, letter-is c.stage 3 t.0))
  whole-call (TEAR pool price) t s = absurd (omega (arith, letter-is c.stage 3 t.0))
  whole-call CALL t s = absurd (omega arith)
  whole-call (PAY m amount) t s = absurd (omega (arith, letter-is c.stage 4 t.0))
  whole-call (MOVE m) t s = absurd (omega (arith, letter-is c.stage 4 t.0))
  whole-call (MISS m price) t s = absurd (omega (arith, (letter-AC c.stage t.0).0))
  whole-call FINISH t s = absurd (omega arith)
  whole-call (SALE pool m price) t s = whole-sale pool m price c.roll (whole (letter-is c.stage 1 t.0))
  whole-call (WITHDRAW m n) t s = absurd (omega (arith, letter-is c.stage 2 t.0))

-- after every list of calls
pub whole-pools : (calls : List (List ℕ)) (c : Case) → run_from none calls ≡ some c → WholeInSetup c
unfolding open_units
whole-pools = reached-too WholeInSetup (λ h s pool l. tt) whole-call

-- ---- the sale

-- the open units of such a pool are its units
there : (pool : ℕ) (e : Entry) → OpenThere pool e → open_in pool e ≡ eqb e.pool pool
unfolding open_in
there pool e h = cases (eqb e.pool pool) _ (λ i. rw (i, h i)) (λ i. rw i (and-false (is_open e)))

pub sale-whole : (c : Case) → WholeInSetup c → (pool m price : ℕ) → Passed (tests (some c) c (SALE pool m price))
    → (accepted c (SALE pool m price)).roll ≡ map (changed_if (λ e. eqb e.pool pool) (Agreed m price)) c.roll
unfolding accepted tests letter_of after_sale sold none_open
sale-whole c whole pool m price t =
    let left = eqb-false (open_units c.roll pool) 0 t.1.1.1.1.0 in
    map-ext (changed_if (open_in pool) (Agreed m price)) (changed_if (λ e. eqb e.pool pool) (Agreed m price)) c.roll
    (each_more _ (λ e. changed_if (open_in pool) (Agreed m price) e ≡ changed_if (λ e. eqb e.pool pool) (Agreed m price) e)
    (λ e h. ap (λ (b : Bool). when b then with_state e (Agreed m price) else e) (there pool e h)) c.roll
    (whole (letter-is c.stage 1 t.0) pool (omega (arith, left))))
