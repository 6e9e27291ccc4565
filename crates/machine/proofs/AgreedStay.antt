-- Document 02, C-12: a unit sold by agreement is "never moved: MOVE passes over it", and no other call changes it, in any state: it stays sold by
-- agreement, to its member and at its price; and no call but SALE sells another. Assumes nothing.
use mathlib.Core.Path.{◌≡◌, refl, sym, ap, ◌∙◌}
use mathlib.Core.Logic.{⊎_elim}
use mathlib.Core.Bool.{Bool, true, false, ◌&&◌, ◌||◌, not, false≢true}
use mathlib.Core.List.{List, [], ◌∷◌, map, append-nil}
use mathlib.Core.Option.{Option, none, some}
use Prim.Native.Nat.{ℕ, zero, suc, ◌-◌, ◌<◌}
use lib.Dec.{eqb}
use lib.ListN.{length, get_or, set, drop, get_or-append}
use borrow.Author.Tests.{not-false}
use Rattle.lists.specs.Lists.{when◌then◌else◌, keep}
use Rattle.lists.proofs.Bools.{cases, either, by-test, and_left, and_right}
use Rattle.lists.proofs.Each.{drop-step, map-replicate}
use Rattle.lists.proofs.Pairs.{Pairs, pairs-same, pairs-trans, pairs-map, pairs-change_first, pairs_set, pairs-at}
use Rattle.lists.specs.Tests.{Passed}
use Rattle.auction.specs.Price.{zero_price}
use Rattle.machine.specs.Wire.{Call, HEAD, POOL, MEMBER, ROUND, BID, CLOSE, ALLOCATE, TEAR, CALL, PAY, MOVE, MISS, FINISH, SALE, WITHDRAW, decode}
use Rattle.machine.specs.Roll.{UnitState, Open, Sold, Allocated, Moved, Torn, Agreed, Entry, Bid, with_state, kind, is_agreed, is_open, open_in, give_lowest, changed_if, price_of, passed_to, put_up}
use Rattle.machine.specs.State.{State, the_case, letter_of, member_list, round_of}
use Rattle.machine.specs.Requirement.{owes}
use Rattle.machine.specs.Move.{Found, may_move, turn, later, better, next_from, move_units, move_all}
use Rattle.machine.specs.Calls.{give_shares, sell, accepted, after_pool, after_member, after_round, after_bid, bids_after, after_close, allocation, after_allocate, after_tear, after_call, after_pay, after_move, after_miss, sold, after_sale, in_round, after_withdraw}
use Rattle.machine.specs.Refusals.{tests}
use Rattle.machine.specs.Machine.{step}
use Rattle.machine.proofs.Answers.{step-cases}
use Rattle.machine.proofs.RollChanges.{Becomes, Changes, no_entry}
use Rattle.machine.proofs.RollSteps.{put_up_by, open_entry, put_up_all, roll_of, roll-changes}
use Rattle.machine.proofs.Stages.{letter-some}

-- f is e where e is sold by agreement
abbrev Stays : Entry → Entry → Type 0
Stays e f = is_agreed e.state ≡ true → f ≡ e

stays : (e : Entry) → Stays e e
stays e a = refl

stays-trans : (e f g : Entry) → Stays e f → Stays f g → Stays e g
stays-trans e f g h k a = let same = h a in k (rw same a) ∙ same

-- an entry that is not sold by agreement may become anything
free : (e f : Entry) → is_agreed e.state ≡ false → Stays e f
free e f n a = absurd (false≢true (sym n ∙ a))

abbrev AllStay : List Entry → List Entry → Type 0
AllStay = Pairs Stays

-- ---- which entries calls change

open_free : (s : UnitState) → eqb (kind s) 0 ≡ true → is_agreed s ≡ false
unfolding kind is_agreed
open_free Open e = refl
open_free (Sold bid) e = refl
open_free (Allocated m price) e = refl
open_free (Moved m) e = refl
open_free (Torn price) e = refl
open_free (Agreed m price) e = absurd (false≢true e)

pub passed-free : (m : ℕ) (s : UnitState) → passed_to m s ≡ true → is_agreed s ≡ false
unfolding passed_to is_agreed
passed-free m Open e = refl
passed-free m (Sold bid) e = refl
passed-free m (Allocated a price) e = refl
passed-free m (Moved a) e = refl
passed-free m (Torn price) e = refl
passed-free m (Agreed a price) e = absurd (false≢true e)

pub open-in-free : (pool : ℕ) (e : Entry) → open_in pool e ≡ true → is_agreed e.state ≡ false
unfolding open_in is_open
open-in-free pool e o = open_free e.state (and_left _ _ o)

-- ---- the changes of the roll

stay-give : (pool : ℕ) (s : UnitState) (n : ℕ) (roll : List Entry) → AllStay roll (give_lowest pool s n roll)
unfolding give_lowest
stay-give pool s n roll = pairs-change_first Stays stays (open_in pool) (λ e. with_state e s) (λ e o. free e (with_state e s) (open-in-free pool e o)) n roll

stay-changed : (p : Entry → Bool) (s : UnitState) → ((e : Entry) → p e ≡ true → is_agreed e.state ≡ false) → (roll : List Entry)
    → AllStay roll (map (changed_if p s) roll)
stay-changed p s h roll =
    pairs-map Stays (changed_if p s) (λ e. by-test (Stays e) (p e) (λ o. free e (with_state e s) (h e o)) (λ o. stays e)) roll

stay-trans : (xs ys zs : List Entry) → AllStay xs ys → AllStay ys zs → AllStay xs zs
stay-trans = pairs-trans Stays stays-trans

stay-shares : (pool price : ℕ) (shares ms : List ℕ) (roll : List Entry) → AllStay roll (give_shares pool price shares ms roll)
unfolding give_shares
stay-shares pool price shares [] roll = pairs-same Stays stays roll
stay-shares pool price shares (m ∷ ms) roll =
    let next = give_lowest pool (Allocated m price) (get_or shares m 0) roll in
    stay-trans roll next _ (stay-give pool (Allocated m price) (get_or shares m 0) roll) (stay-shares pool price shares ms next)

stay-sell : (round i : ℕ) (bs : List Bid) (roll : List Entry) → AllStay roll (sell round i bs roll)
unfolding sell
stay-sell round i [] roll = pairs-same Stays stays roll
stay-sell round i (b ∷ bs) roll =
    let next = when in_round round b then give_lowest b.pool (Sold i) b.won roll else roll in
    stay-trans roll next _
    (either (AllStay roll) (in_round round b) (stay-give b.pool (Sold i) b.won roll) (pairs-same Stays stays roll))
    (stay-sell round (suc i) bs next)

-- ---- MOVE

-- what MOVE finds is the entry at its place, and one that may move
abbrev pub Finds : List Bid → List Entry → Option Found → Type 0
Finds bids roll none = Unit {0}
Finds bids roll (some x) = (get_or roll x.place no_entry ≡ x.entry) × (may_move bids x.entry ≡ true)

may-move-free : (bids : List Bid) (e : Entry) → may_move bids e ≡ true → is_agreed e.state ≡ false
unfolding may_move
may-move-free bids e h =
    let kinds = eqb (kind e.state) 1 || eqb (kind e.state) 2 in
    not-true (is_agreed e.state) (and_right kinds _ (and_left (kinds && not (is_agreed e.state)) _ h))
  where
    not-true : (b : Bool) → not b ≡ true → b ≡ false
    not-true true n = absurd (false≢true n)
    not-true false n = refl

finds-better : (bids : List Bid) (roll : List Entry) (found : Option Found) (y : Found) → Finds bids roll found → Finds bids roll (some y) → Finds bids roll (better bids found y)
unfolding better
finds-better bids roll none y f g = g
finds-better bids roll (some x) y f g = either (Finds bids roll) (later (turn bids y.entry) (turn bids x.entry)) {x = some x} {y = some y} f g

pub finds-next : (bids : List Bid) (roll : List Entry) (i : ℕ) (es : List Entry) (found : Option Found) → drop i roll ≡ es → Finds bids roll found
    → Finds bids roll (next_from bids i es found)
unfolding next_from
finds-next bids roll i [] found e f = f
finds-next bids roll i (x ∷ es) found e f =
    let r = drop-step roll i x no_entry es e in
    finds-next bids roll (suc i) es _ r.2
    (by-test (Finds bids roll) (may_move bids x) {x = better bids found (record { place = i; entry = x })} {y = found}
    (λ m. finds-better bids roll found _ f (r.1, m)) (λ m. f))

stay-move : (bids : List Bid) (m k owed : ℕ) (roll : List Entry) → AllStay roll (move_units k bids m owed roll)
unfolding move_units
stay-move bids m zero owed roll = pairs-same Stays stays roll
stay-move bids m (suc k) owed roll =
    go (when eqb owed 0 then none else next_from bids 0 roll none)
    (either (Finds bids roll) (eqb owed 0) {x = none} {y = next_from bids 0 roll none} tt (finds-next bids roll 0 roll none refl tt))
    (λ o r. stay-move bids m k o r)
  where
    go : (found : Option Found) → Finds bids roll found → ((o : ℕ) (r : List Entry) → AllStay r (move_units k bids m o r))
        → AllStay roll (elim found [
          | none ↦ roll
          | some x ↦ move_units k bids m (owed - (zero_price - price_of bids x.entry.state)) (set roll x.place (with_state x.entry (Moved m)))
        ])
    go none at rest = pairs-same Stays stays roll
    go (some x) at rest =
        let next = set roll x.place (with_state x.entry (Moved m)) in
        let left = owed - (zero_price - price_of bids x.entry.state) in
        stay-trans roll next (move_units k bids m left next)
        (pairs_set Stays stays roll x.place (with_state x.entry (Moved m)) no_entry
        (rw at.0 (free x.entry (with_state x.entry (Moved m)) (may-move-free bids x.entry at.1))))
        (rest left next)

-- ---- every accepted call

none-added : (roll new : List Entry) → AllStay roll new → AllStay (put_up_all [] roll) new
none-added roll new h = rw (append-nil roll) h

same-roll : (s : State) → AllStay (put_up_all [] (roll_of s)) (roll_of s)
same-roll s = none-added (roll_of s) (roll_of s) (pairs-same Stays stays (roll_of s))

agreed-call : (s : State) (call : Call) → Passed (tests s (the_case s) call) → AllStay (put_up_all (put_up_by call) (roll_of s)) (accepted (the_case s) call).roll
unfolding accepted after_pool after_member after_round after_bid after_close after_allocate after_tear after_call after_pay after_move after_miss sold after_sale after_withdraw put_up move_all tests letter_of
agreed-call none (HEAD h) t = tt
agreed-call (some c) (HEAD h) t = absurd (false≢true (sym (letter-some c.stage) ∙ not-false _ t.0))
agreed-call s (POOL pool units mark) t = rw (map-replicate open_entry units pool) (pairs-same Stays stays (put_up pool units (roll_of s)))
agreed-call s (MEMBER m contribution expected) t = same-roll s
agreed-call s (ROUND reserves) t = same-roll s
agreed-call s (BID pool m units price) t = same-roll s
agreed-call s CLOSE t =
    let c = the_case s in
    let round = round_of c.stage in
    none-added c.roll _ (stay-sell round 0 (bids_after c round) c.roll)
agreed-call s (ALLOCATE pool price) t =
    let c = the_case s in
    none-added c.roll _ (stay-shares pool price (allocation c pool) (member_list c.head) c.roll)
agreed-call s (TEAR pool price) t = none-added (roll_of s) _ (stay-changed (open_in pool) (Torn price) (open-in-free pool) (roll_of s))
agreed-call s CALL t = same-roll s
agreed-call s (PAY m amount) t = same-roll s
agreed-call s (MOVE m) t =
    let c = the_case s in
    none-added c.roll _ (stay-move c.bids m (length c.roll) (owes c.members m) c.roll)
agreed-call s (MISS m price) t =
    none-added (roll_of s) _ (stay-changed (λ e. passed_to m e.state) (Torn price) (λ e. passed-free m e.state) (roll_of s))
agreed-call s FINISH t = same-roll s
agreed-call s (SALE pool m price) t = none-added (roll_of s) _ (stay-changed (open_in pool) (Agreed m price) (open-in-free pool) (roll_of s))
agreed-call s (WITHDRAW m n) t = same-roll s

-- any bytes, in any state: the entry at place i
pub agreed-stay : (s : State) (bytes : List ℕ) (i : ℕ) → i < length (roll_of s) → is_agreed (get_or (roll_of s) i no_entry).state ≡ true
    → get_or (roll_of (step s bytes).state) i no_entry ≡ get_or (roll_of s) i no_entry
agreed-stay s bytes i l a =
    step-cases (λ n next. get_or (roll_of next) i no_entry ≡ get_or (roll_of s) i no_entry) s bytes (λ n h. refl)
    (λ call e t.
    let added = map open_entry (put_up_by call) in
    let here = get_or-append (roll_of s) added no_entry i l in
    pairs-at Stays (put_up_all (put_up_by call) (roll_of s)) (accepted (the_case s) call).roll i no_entry (stays no_entry) (agreed-call s call t) (rw here a) ∙ here)

-- ---- SALE alone sells by agreement

abbrev agreed_in : List Entry → List Entry
agreed_in roll = keep (λ e. is_agreed e.state) roll

abbrev Other : ℕ → UnitState → Type 0
Other pool s = is_agreed s ≡ false

-- an entry that stays where it is sold by agreement, and becomes nothing that is so, is so exactly if it was
same-agreed : (e f : Entry) → Stays e f → Becomes Other e f → is_agreed f.state ≡ is_agreed e.state
same-agreed e f stay become =
    cases (is_agreed e.state) _ (λ a. ap (λ (x : Entry). is_agreed x.state) (stay a))
    (λ a. ⊎_elim (λ x. ap (λ (z : Entry). is_agreed z.state) x) (λ x. ap (λ (z : Entry). is_agreed z.state) x.2 ∙ x.1 ∙ sym a) become)

same-entry : (b : Bool) (e f : Entry) (es : List Entry) → (b ≡ true → f ≡ e) → (when b then f ∷ es else es) ≡ (when b then e ∷ es else es)
same-entry true e f es h = rw (h refl)
same-entry false e f es h = refl

kept-agreed : (old new : List Entry) → AllStay old new → Changes Other old new → agreed_in new ≡ agreed_in old
unfolding keep
kept-agreed [] [] stay become = refl
kept-agreed [] (f ∷ fs) stay become = absurd stay
kept-agreed (e ∷ es) [] stay become = absurd stay
kept-agreed (e ∷ es) (f ∷ fs) stay become =
    rw (same-agreed e f stay.0 become.0, kept-agreed es fs stay.1 become.1) (same-entry (is_agreed e.state) e f (agreed_in es) stay.0)

-- no unit put up is sold by agreement
put-up-agreed : (added : List ℕ) (roll : List Entry) → agreed_in (put_up_all added roll) ≡ agreed_in roll
unfolding keep is_agreed
put-up-agreed [] [] = refl
put-up-agreed (pool ∷ added) [] = put-up-agreed added []
put-up-agreed added (e ∷ es) = ap (λ (l : List Entry). when is_agreed e.state then e ∷ l else l) (put-up-agreed added es)

-- any bytes but a SALE's, in any state: the entries sold by agreement are those that were
pub agreed-kept : (s : State) (bytes : List ℕ) → ((pool m price : ℕ) → decode bytes ≡ some (SALE pool m price) → ⊥)
    → agreed_in (roll_of (step s bytes).state) ≡ agreed_in (roll_of s)
unfolding is_agreed
agreed-kept s bytes other =
    step-cases (λ n next. agreed_in (roll_of next) ≡ agreed_in (roll_of s)) s bytes (λ n h. refl)
    (λ call e t.
    let old = put_up_all (put_up_by call) (roll_of s) in
    let changes = roll-changes Other (λ k i. refl) (λ k m price. refl) (λ k m. refl) (λ k price. refl) s call
    (λ pool m price is k. absurd (other pool m price (e ∙ ap (λ (x : Call). some x) is))) t in
    kept-agreed old (accepted (the_case s) call).roll (agreed-call s call t) changes ∙ put-up-agreed (put_up_by call) (roll_of s))
