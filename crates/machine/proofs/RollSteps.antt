-- The roll through any call, in any state: it keeps its entries and their pools, and POOL adds its units; no entry becomes open. Assumes nothing.
use mathlib.Core.Path.{◌≡◌, refl, sym, ap, ◌∙◌}
use mathlib.Core.Bool.{false≢true}
use mathlib.Core.List.{List, [], ◌∷◌, ◌++◌, map, append-nil}
use mathlib.Core.Option.{Option, none, some}
use Prim.Native.Nat.{ℕ, ◌+◌, ◌≤◌}
use native.Mathlib.Omega.{arith}
use lib.Dec.{eqb}
use lib.ListN.{length, get_or, replicate}
use borrow.Author.Tests.{ne_eqb, not-false}
use Rattle.lists.specs.Lists.{when◌then◌else◌, count}
use Rattle.lists.proofs.Counts.{count-append, count-of-map}
use Rattle.lists.proofs.Each.{each-always, map-append, map-replicate}
use Rattle.lists.specs.Tests.{Passed}
use Rattle.machine.specs.Wire.{Call, HEAD, POOL, MEMBER, ROUND, BID, CLOSE, ALLOCATE, TEAR, CALL, PAY, MOVE, MISS, FINISH, SALE, WITHDRAW, decode}
use Rattle.machine.specs.Roll.{UnitState, Open, Sold, Allocated, Moved, Torn, Agreed, Entry, no_bid, kind, is_open, open_in, open_units, put_up, passed_to}
use Rattle.machine.specs.State.{State, the_case, letter_of, member_list, round_of}
use Rattle.machine.specs.Requirement.{owes}
use Rattle.machine.specs.Move.{move_all}
use Rattle.machine.specs.Calls.{accepted, after_pool, after_member, after_round, after_bid, bids_after, after_close, allocation, after_allocate, after_tear, after_call, after_pay, after_move, after_miss, sold, after_sale, after_withdraw}
use Rattle.machine.specs.Refusals.{tests}
use Rattle.machine.specs.Machine.{step}
use Rattle.machine.proofs.Answers.{step-cases}
use Rattle.machine.proofs.RollChanges.{Closed, Changes, changes-none, changes-changed, changes-torn, changes-shares, changes-move, changes-sell, same-pools, open-falls}
use Rattle.machine.proofs.Stages.{letter-some}

-- the pools of the units that a call puts up
abbrev pub put_up_by : Call → List ℕ
put_up_by (HEAD h) = []
put_up_by (POOL pool units mark) = replicate units pool
put_up_by (MEMBER m contribution expected) = []
put_up_by (ROUND reserves) = []
put_up_by (BID pool m units price) = []
put_up_by CLOSE = []
put_up_by (ALLOCATE pool price) = []
put_up_by (TEAR pool price) = []
put_up_by CALL = []
put_up_by (PAY m amount) = []
put_up_by (MOVE m) = []
put_up_by (MISS m price) = []
put_up_by FINISH = []
put_up_by (SALE pool m price) = []
put_up_by (WITHDRAW m n) = []

abbrev pub open_entry : ℕ → Entry
open_entry pool = record { pool = pool; state = Open }

-- the roll with the units put up
abbrev pub put_up_all : List ℕ → List Entry → List Entry
put_up_all added roll = roll ++ map open_entry added

abbrev pub roll_of : State → List Entry
roll_of s = (the_case s).roll

-- an accepted call, in any state, for any claim about the states given: HEAD is accepted only where there is no roll yet, and SALE alone sells by agreement
module _
    (New : ℕ → UnitState → Type 0)
    (sold-new : (k i : ℕ) → New k (Sold i))
    (allocated-new : (k m price : ℕ) → New k (Allocated m price))
    (Moved-new : (k m : ℕ) → New k (Moved m))
    (torn-new : (k price : ℕ) → New k (Torn price))
  where
    none-added : (roll new : List Entry) → Changes New roll new → Changes New (put_up_all [] roll) new
    none-added roll new h = rw (append-nil roll) h

    same-roll : (s : State) → Changes New (put_up_all [] (roll_of s)) (roll_of s)
    same-roll s = none-added (roll_of s) (roll_of s) (changes-none New (roll_of s))

    pub roll-changes : (s : State) (call : Call) → ((pool m price : ℕ) → call ≡ SALE pool m price → (k : ℕ) → New k (Agreed m price))
        → Passed (tests s (the_case s) call) → Changes New (put_up_all (put_up_by call) (roll_of s)) (accepted (the_case s) call).roll
    unfolding accepted after_pool after_member after_round after_bid after_close after_allocate after_tear after_call after_pay after_move after_miss sold after_sale after_withdraw put_up move_all tests letter_of
    roll-changes none (HEAD h) agreed t = tt
    roll-changes (some c) (HEAD h) agreed t = absurd (false≢true (sym (letter-some c.stage) ∙ not-false _ t.0))
    roll-changes s (POOL pool units mark) agreed t = rw (map-replicate open_entry units pool) (changes-none New (put_up pool units (roll_of s)))
    roll-changes s (MEMBER m contribution expected) agreed t = same-roll s
    roll-changes s (ROUND reserves) agreed t = same-roll s
    roll-changes s (BID pool m units price) agreed t = same-roll s
    roll-changes s CLOSE agreed t =
        let c = the_case s in
        let round = round_of c.stage in
        let bids = bids_after c round in
        none-added c.roll _ (changes-sell New bids (λ i l. sold-new (get_or bids i no_bid).pool i) round 0 bids c.roll refl)
    roll-changes s (ALLOCATE pool price) agreed t =
        let c = the_case s in
        let ms = member_list c.head in
        none-added c.roll _ (changes-shares New pool price (allocation c pool) ms c.roll (each-always _ (λ m. allocated-new pool m price) ms))
    roll-changes s (TEAR pool price) agreed t = none-added (roll_of s) _ (changes-torn New (open_in pool) price (roll_of s) (λ k. torn-new k price))
    roll-changes s CALL agreed t = same-roll s
    roll-changes s (PAY m amount) agreed t = same-roll s
    roll-changes s (MOVE m) agreed t =
        let c = the_case s in
        none-added c.roll _ (changes-move New c.bids m (λ k. Moved-new k m) (length c.roll) (owes c.members m) c.roll)
    roll-changes s (MISS m price) agreed t =
        none-added (roll_of s) _ (changes-torn New (λ e. passed_to m e.state) price (roll_of s) (λ k. torn-new k price))
    roll-changes s FINISH agreed t = same-roll s
    roll-changes s (SALE pool m price) agreed t = none-added (roll_of s) _ (changes-changed New (open_in pool) (Agreed m price) (roll_of s) (agreed pool m price refl))
    roll-changes s (WITHDRAW m n) agreed t = same-roll s

-- no state given is open
abbrev Shut : ℕ → UnitState → Type 0
Shut pool s = Closed s

roll-step : (s : State) (call : Call) → Passed (tests s (the_case s) call) → Changes Shut (put_up_all (put_up_by call) (roll_of s)) (accepted (the_case s) call).roll
unfolding kind
roll-step s call t = roll-changes Shut (λ k i. refl) (λ k m price. refl) (λ k m. refl) (λ k price. refl) s call (λ pool m price e k. refl) t

module _ (s : State) (call : Call) (t : Passed (tests s (the_case s) call)) where
  -- the entries keep their pools, and those put up follow
  pub call-pools : map (λ e. e.pool) (accepted (the_case s) call).roll ≡ map (λ e. e.pool) (roll_of s) ++ put_up_by call
  call-pools =
      same-pools Shut (put_up_all (put_up_by call) (roll_of s)) (accepted (the_case s) call).roll (roll-step s call t)
      ∙ map-append (λ (e : Entry). e.pool) (roll_of s) (map open_entry (put_up_by call))
      ∙ ap (λ (l : List ℕ). map (λ (e : Entry). e.pool) (roll_of s) ++ l) (own (put_up_by call))
    where
      own : (ps : List ℕ) → map (λ (e : Entry). e.pool) (map open_entry ps) ≡ ps
      own [] = refl
      own (p ∷ ps) = ap (λ l. p ∷ l) (own ps)

  -- only those put up are newly open
  pub call-open : (pool : ℕ) → open_units (accepted (the_case s) call).roll pool ≤ open_units (roll_of s) pool + count (λ p. eqb p pool) (put_up_by call)
  unfolding open_units open_in is_open kind
  call-open pool =
      omega (
        arith,
        open-falls Shut (put_up_all (put_up_by call) (roll_of s)) (accepted (the_case s) call).roll (roll-step s call t) (λ k x h. h) pool,
        count-append (open_in pool) (roll_of s) (map open_entry (put_up_by call)),
        count-of-map (open_in pool) open_entry (put_up_by call),
      )

-- ---- any bytes, in any state

abbrev put_up_in : Option Call → List ℕ
put_up_in none = []
put_up_in (some call) = put_up_by call

-- the pools of the units that a step puts up: none where the call is refused
abbrev pub added : State → List ℕ → List ℕ
added s bytes = when eqb (step s bytes).answer 0 then put_up_in (decode bytes) else []

module _ (s : State) (bytes : List ℕ) where
  pub step-pools : map (λ e. e.pool) (roll_of (step s bytes).state) ≡ map (λ e. e.pool) (roll_of s) ++ added s bytes
  step-pools =
      step-cases (λ n next. map (λ e. e.pool) (roll_of next) ≡ map (λ e. e.pool) (roll_of s) ++ (when eqb n 0 then put_up_in (decode bytes) else [])) s bytes
      (λ n h. rw (ne_eqb n 0 h) (sym (append-nil _)))
      (λ call e t. rw e (call-pools s call t))

  pub step-open : (pool : ℕ) → open_units (roll_of (step s bytes).state) pool ≤ open_units (roll_of s) pool + count (λ p. eqb p pool) (added s bytes)
  step-open pool =
      step-cases
      (λ n next. open_units (roll_of next) pool ≤ open_units (roll_of s) pool + count (λ p. eqb p pool) (when eqb n 0 then put_up_in (decode bytes) else [])) s bytes
      (λ n h. omega arith)
      (λ call e t. rw e (call-open s call t pool))
