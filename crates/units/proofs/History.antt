-- What the places of a case's units tell of the calls before: where units are allocated, torn up or moved, the call that brought them cannot be again. So no place
-- ever has units of two labels. Assumes nothing.
use mathlib.Core.Path.{◌≡◌, refl, sym, ap, ◌∙◌}
use mathlib.Core.Bool.{true, false≢true}
use mathlib.Core.Logic.{◌⊎◌, inl, ⊎_elim}
use mathlib.Core.List.{List, [], ◌∷◌}
use mathlib.Core.Option.{some}
use Prim.Native.Nat.{ℕ, ◌≤◌, ◌<◌}
use native.Mathlib.Omega.{arith}
use lib.Dec.{eqb}
use lib.ListN.{length, get_or, length-append}
use lib.Seq.{get_or-set_same}
use borrow.Author.Tests.{eqb-true, eqb-false, ne_eqb, not-false}
use Rattle.lists.specs.Lists.{count}
use Rattle.lists.proofs.Bools.{or_right}
use Rattle.lists.proofs.Counts.{count-replicate-out}
use Rattle.lists.proofs.Pairs.{pairs-at, pairs_set, pairs-map_from}
use Rattle.lists.specs.Tests.{Passed}
use Rattle.machine.specs.Wire.{Call, HEAD, POOL, MEMBER, ROUND, BID, CLOSE, ALLOCATE, TEAR, CALL, PAY, MOVE, MISS, FINISH, SALE, WITHDRAW}
use Rattle.machine.specs.Roll.{open_units}
use Rattle.machine.specs.State.{Member, Case, no_member, member_at, letter, letter_of, with_called}
use Rattle.machine.specs.Requirement.{owes}
use Rattle.machine.specs.Calls.{accepted, allocation, also_allocated, calls}
use Rattle.machine.specs.Calls.{after_pool, after_member, after_round, after_bid, after_close, after_allocate, after_tear, after_call, after_pay, after_move, after_miss, after_sale, after_withdraw}
use Rattle.machine.specs.Refusals.{tests, not_in_case}
use Rattle.machine.proofs.Invariant.{CaseOk}
use Rattle.machine.proofs.Stages.{letter-is, letter-some}
use Rattle.machine.proofs.RollSteps.{put_up_by, call-open}
use Rattle.machine.proofs.Later.{later-call, Settled, settled-later}
use Rattle.units.specs.Places.{allocated_at, moved_at, torn_at, missed_at, missed_moved_at, agreed_at}

-- a round has begun
abbrev pub Begun : Case → Type 0
Begun c = 2 ≤ letter c.stage

-- a member had its MOVE
abbrev pub HadMove : Case → ℕ → Type 0
HadMove c m = (member_at c.members m).moved ≡ true

-- a pool is given and none of its units is open
abbrev pub Shut : Case → ℕ → Type 0
Shut c pool = (pool < length c.pools) × (open_units c.roll pool ≡ 0)

pub record History (c : Case) (counts : List ℕ) : Type 0 where
  -- where units are allocated, ALLOCATE has been in the pool, and cannot be again
  pub allocated : (pool m : ℕ) → pool < 4 → m < 32 → 0 < get_or counts (allocated_at pool m) 0 → Begun c × Settled pool c
  -- where units were torn up by TEAR, none is open
  pub torn : (pool : ℕ) → pool < 4 → 0 < get_or counts (torn_at pool) 0 → Begun c × (open_units c.roll pool ≡ 0)
  -- where allocated units were torn up by MISS, none is allocated
  pub missed : (pool m : ℕ) → pool < 4 → m < 32 → 0 < get_or counts (missed_at pool m) 0 → Begun c × Settled pool c × (get_or counts (allocated_at pool m) 0 ≡ 0)
  -- where units are moved, the member had its MOVE
  pub moved : (pool m : ℕ) → pool < 4 → m < 32 → 0 < get_or counts (moved_at pool m) 0 → Begun c × HadMove c m
  -- where moved units were torn up by MISS, none is moved
  pub cleared : (pool m : ℕ) → pool < 4 → m < 32 → 0 < get_or counts (missed_moved_at pool m) 0 → Begun c × HadMove c m × (get_or counts (moved_at pool m) 0 ≡ 0)
  -- where units were sold by agreement, their pool is given and none of it is open
  pub agreed : (pool : ℕ) → pool < 4 → 0 < get_or counts (agreed_at pool) 0 → Shut c pool

-- ---- a call later

-- what a call leaves as it was, once a round has begun
pub record Goes (c d : Case) : Type 0 where
  pub begun : Begun d
  pub settled : (pool : ℕ) → Settled pool c → Settled pool d
  pub shut : (pool : ℕ) → open_units c.roll pool ≡ 0 → open_units d.roll pool ≡ 0
  pub had : (m : ℕ) → HadMove c m → HadMove d m

abbrev Flags : Member → Member → Type 0
Flags x y = x.moved ≡ true → y.moved ≡ true

module _ (c : Case) (ok : CaseOk c) (begun : Begun c) where
  still-moved : (call : Call) → Passed (tests (some c) c call) → (m : ℕ) → HadMove c m → HadMove (accepted c call) m
  unfolding accepted tests letter_of letter member_at after_pool after_member after_round after_bid after_close after_allocate after_tear after_call after_pay after_move after_miss after_sale after_withdraw also_allocated
  still-moved (HEAD h) t m f = absurd (false≢true (sym (letter-some c.stage) ∙ not-false _ t.0))
  still-moved (POOL pool units mark) t m f = f
  still-moved (MEMBER x contribution expected) t m f = absurd (omega (arith, letter-is c.stage 1 t.0))
  still-moved (ROUND reserves) t m f = f
  still-moved (BID pool x units price) t m f = f
  still-moved CLOSE t m f = f
  still-moved (ALLOCATE pool price) t m f =
      pairs-at Flags c.members _ m no_member (λ e. e) (pairs-map_from Flags (λ i x. also_allocated pool (get_or (allocation c pool) i 0) x) no_member c.members (λ i l e. e) 0 c.members refl) f
  still-moved (TEAR pool price) t m f = f
  still-moved CALL t m f =
      pairs-at Flags c.members _ m no_member (λ e. e) (pairs-map_from Flags (λ i x. with_called x (get_or (calls c) i 0)) no_member c.members (λ i l e. e) 0 c.members refl) f
  still-moved (PAY x amount) t m f =
      pairs-at Flags c.members _ m no_member (λ e. e) (pairs_set Flags (λ y e. e) c.members x _ no_member (λ e. e)) f
  still-moved (MOVE x) t m f =
      pairs-at Flags c.members _ m no_member (λ e. e) (pairs_set Flags (λ y e. e) c.members x _ no_member (λ e. refl)) f
  still-moved (MISS x price) t m f = f
  still-moved FINISH t m f = f
  still-moved (SALE pool x price) t m f = f
  still-moved (WITHDRAW x n) t m f = f

  pub call-goes : (call : Call) → Passed (tests (some c) c call) → Goes c (accepted c call)
  call-goes call t =
      let later = later-call c ok begun call t in
      record {
        begun = later.begun;
        settled = settled-later c (accepted c call) later;
        shut = λ pool none. omega (arith, later.units pool);
        had = still-moved call t;
      }

-- ---- a pool that is given and has no open unit stays so

module _ (c : Case) (call : Call) (t : Passed (tests (some c) c call)) where
  -- no unit is put up in a pool that is given
  not-put : (pool : ℕ) → pool < length c.pools → count (λ p. eqb p pool) (put_up_by call) ≡ 0
  unfolding tests count
  not-put pool l = go call t
    where
      go : (call : Call) → Passed (tests (some c) c call) → count (λ p. eqb p pool) (put_up_by call) ≡ 0
      go (HEAD h) t = refl
      go (POOL new units mark) t = count-replicate-out (λ p. eqb p pool) units new (ne_eqb new pool (λ e. absurd (omega (arith, eqb-true new (length c.pools) (not-false _ (or_right (not_in_case c.head new) _ t.1.0))))))
      go (MEMBER x contribution expected) t = refl
      go (ROUND reserves) t = refl
      go (BID p x units price) t = refl
      go CLOSE t = refl
      go (ALLOCATE p price) t = refl
      go (TEAR p price) t = refl
      go CALL t = refl
      go (PAY x amount) t = refl
      go (MOVE x) t = refl
      go (MISS x price) t = refl
      go FINISH t = refl
      go (SALE p x price) t = refl
      go (WITHDRAW x n) t = refl

  still-given : (pool : ℕ) → pool < length c.pools → pool < length (accepted c call).pools
  unfolding accepted tests letter_of after_pool after_member after_round after_bid after_close after_allocate after_tear after_call after_pay after_move after_miss after_sale after_withdraw
  still-given pool l = go call t
    where
      go : (call : Call) → Passed (tests (some c) c call) → pool < length (accepted c call).pools
      go (HEAD h) t = absurd (false≢true (sym (letter-some c.stage) ∙ not-false _ t.0))
      go (POOL new units mark) t = omega (arith, length-append c.pools (record { units = units; mark = mark } ∷ []))
      go (MEMBER x contribution expected) t = l
      go (ROUND reserves) t = l
      go (BID p x units price) t = l
      go CLOSE t = l
      go (ALLOCATE p price) t = l
      go (TEAR p price) t = l
      go CALL t = l
      go (PAY x amount) t = l
      go (MOVE x) t = l
      go (MISS x price) t = l
      go FINISH t = l
      go (SALE p x price) t = l
      go (WITHDRAW x n) t = l

  pub still-shut : (pool : ℕ) → Shut c pool → Shut (accepted c call) pool
  still-shut pool shut = (still-given pool shut.0, omega (arith, call-open (some c) call t pool, not-put pool shut.0, shut.1))

-- who had its MOVE is refused another
pub moved-refuses : (c : Case) (m : ℕ) → HadMove c m → Passed (tests (some c) c (MOVE m)) → ⊥
unfolding tests owes
moved-refuses c m f t = eqb-false (owes c.members m) 0 t.1.1.0 (rw f)

-- MOVE leaves its mark
pub move-marks : (c : Case) → CaseOk c → (m : ℕ) → m < 32 → Passed (tests (some c) c (MOVE m)) → Begun (accepted c (MOVE m)) × HadMove (accepted c (MOVE m)) m
unfolding accepted tests letter_of member_at after_move
move-marks c ok m l t =
    (omega (arith, letter-is c.stage 4 t.0), ap (λ (x : Member). x.moved) (get_or-set_same c.members m _ no_member (omega (arith, ok.members.all32))))

-- ---- the history after a call

-- the places that have more units than before, and what holds of them then
pub record Grown (c d : Case) (old new : List ℕ) : Type 0 where
  pub allocated : (pool m : ℕ) → pool < 4 → m < 32 → (get_or new (allocated_at pool m) 0 ≤ get_or old (allocated_at pool m) 0) ⊎ (Begun d × Settled pool d × (Settled pool c → ⊥))
  pub torn : (pool : ℕ) → pool < 4 → (get_or new (torn_at pool) 0 ≤ get_or old (torn_at pool) 0) ⊎ (Begun d × (open_units d.roll pool ≡ 0))
  pub missed : (pool m : ℕ) → pool < 4 → m < 32 → (get_or new (missed_at pool m) 0 ≤ get_or old (missed_at pool m) 0) ⊎ (Begun d × Settled pool d × (get_or new (allocated_at pool m) 0 ≡ 0))
  pub moved : (pool m : ℕ) → pool < 4 → m < 32 → (get_or new (moved_at pool m) 0 ≤ get_or old (moved_at pool m) 0) ⊎ (Begun d × HadMove d m × (HadMove c m → ⊥))
  pub cleared : (pool m : ℕ) → pool < 4 → m < 32 → (get_or new (missed_moved_at pool m) 0 ≤ get_or old (missed_moved_at pool m) 0) ⊎ (Begun d × HadMove d m × (get_or new (moved_at pool m) 0 ≡ 0))
  pub agreed : (pool : ℕ) → pool < 4 → (get_or new (agreed_at pool) 0 ≤ get_or old (agreed_at pool) 0) ⊎ Shut d pool

pub history-next : (c d : Case) (old new : List ℕ) → History c old → (Begun c → Goes c d) → ((pool : ℕ) → Shut c pool → Shut d pool) → Grown c d old new → History d new
history-next c d old new h goes stays grown = record {
  allocated = λ pool m lp lm some. ⊎_elim
      (λ less. let was = h.allocated pool m lp lm (omega arith) in let g = goes was.0 in (g.begun, g.settled pool was.1))
      (λ now. (now.0, now.1))
      (grown.allocated pool m lp lm);
  torn = λ pool lp some. ⊎_elim
      (λ less. let was = h.torn pool lp (omega arith) in let g = goes was.0 in (g.begun, g.shut pool was.1))
      (λ now. now)
      (grown.torn pool lp);
  missed = λ pool m lp lm some. ⊎_elim
      (λ less.
      let was = h.missed pool m lp lm (omega arith) in
      let g = goes was.0 in
      (g.begun, g.settled pool was.1, ⊎_elim (λ fewer. omega (arith, was.2)) (λ now. absurd (now.2 was.1)) (grown.allocated pool m lp lm)))
      (λ now. now)
      (grown.missed pool m lp lm);
  moved = λ pool m lp lm some. ⊎_elim
      (λ less. let was = h.moved pool m lp lm (omega arith) in let g = goes was.0 in (g.begun, g.had m was.1))
      (λ now. (now.0, now.1))
      (grown.moved pool m lp lm);
  cleared = λ pool m lp lm some. ⊎_elim
      (λ less.
      let was = h.cleared pool m lp lm (omega arith) in
      let g = goes was.0 in
      (g.begun, g.had m was.1, ⊎_elim (λ fewer. omega (arith, was.2)) (λ now. absurd (now.2 was.1)) (grown.moved pool m lp lm)))
      (λ now. now)
      (grown.cleared pool m lp lm);
  agreed = λ pool lp some. ⊎_elim (λ less. stays pool (h.agreed pool lp (omega arith))) (λ now. now) (grown.agreed pool lp);
}

-- where no place has more units than before
pub none-grown : (c d : Case) (old new : List ℕ) → ((pool m : ℕ) → pool < 4 → m < 32 → get_or new (allocated_at pool m) 0 ≤ get_or old (allocated_at pool m) 0)
    → ((k : ℕ) → 388 ≤ k → get_or new k 0 ≤ get_or old k 0) → Grown c d old new
none-grown c d old new a b = record {
  allocated = λ pool m lp lm. inl (a pool m lp lm);
  torn = λ pool lp. inl (b (torn_at pool) (omega arith));
  missed = λ pool m lp lm. inl (b (missed_at pool m) (omega arith));
  moved = λ pool m lp lm. inl (b (moved_at pool m) (omega arith));
  cleared = λ pool m lp lm. inl (b (missed_moved_at pool m) (omega arith));
  agreed = λ pool lp. inl (b (agreed_at pool) (omega arith));
}
