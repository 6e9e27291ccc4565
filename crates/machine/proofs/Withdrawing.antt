-- Document 02, C-14: an accepted WITHDRAW changes one mark of one bid and nothing else, and the bid stays withdrawn, at its number, after any calls. Assumes nothing.
use mathlib.Core.Path.{◌≡◌, refl, sym, ap, ◌∙◌}
use mathlib.Core.Bool.{Bool, true, false, ◌&&◌, not, false≢true}
use mathlib.Core.List.{List, [], ◌∷◌, ◌++◌}
use mathlib.Core.Option.{none, some}
use Prim.Native.Nat.{ℕ, zero, suc, ◌<◌}
use native.Mathlib.Omega.{arith}
use lib.Dec.{eqb}
use lib.ListN.{length, get_or, set, take, drop, length-set, length-append, get_or-append}
use lib.Seq.{get_or-set_same, get_or-set_other, get_or_at}
use borrow.Author.Tests.{not-false, eqb-true}
use Rattle.lists.specs.Lists.{when◌then◌else◌, keep, tab}
use Rattle.lists.proofs.Bools.{by-test, and_left, and_right}
use Rattle.lists.proofs.Each.{set_cases, get_or-map_from, length-map_from}
use Rattle.lists.specs.Tests.{first_of, Passed}
use Rattle.machine.specs.Wire.{Call, HEAD, POOL, MEMBER, ROUND, BID, CLOSE, ALLOCATE, TEAR, CALL, PAY, MOVE, MISS, FINISH, SALE, WITHDRAW, decode}
use Rattle.machine.specs.Roll.{Bid, no_bid, with_won, withdrawn}
use Rattle.machine.specs.State.{State, the_case, letter_of, is_b, in_set, round_of, with_bids}
use Rattle.machine.specs.Calls.{new_bid, in_round, won_in, won_given, bids_after, accepted}
use Rattle.machine.specs.Calls.{after_pool, after_member, after_round, after_bid, after_close, after_allocate, after_tear, after_call, after_pay, after_move, after_miss, after_sale, after_withdraw}
use Rattle.machine.specs.Refusals.{tests, refusal, not_in_set, none_stands}
use Rattle.machine.specs.Machine.{step}
use Rattle.machine.specs.Run.{run_from}
use Rattle.machine.proofs.Answers.{accepted-passed, call-answer, call-accepted, step-cases}
use Rattle.machine.proofs.Stages.{letter-some}
use Rattle.machine.proofs.CallsKept.{stands-there}
use Rattle.machine.proofs.AsThoughNotSent.{standing_bids}

abbrev pub bids_of : State → List Bid
bids_of s = (the_case s).bids

-- bid n of a state
abbrev pub bid_at : State → ℕ → Bid
bid_at s n = get_or (bids_of s) n no_bid

-- ---- one WITHDRAW

-- the bids that stand, where one is marked
drops : (bids : List Bid) (n : ℕ) → standing_bids (set bids n (withdrawn (get_or bids n no_bid))) ≡ standing_bids (take n bids ++ drop (suc n) bids)
unfolding keep
drops [] zero = refl
drops [] (suc n) = refl
drops (b ∷ bs) zero = refl
drops (b ∷ bs) (suc n) = ap (λ (l : List Bid). when b.stands then b ∷ l else l) (drops bs n)

module _ (s : State) (bytes : List ℕ) (m n : ℕ) (is : decode bytes ≡ some (WITHDRAW m n)) (taken : (step s bytes).answer ≡ 0) where
  no-refusal : refusal s (WITHDRAW m n) ≡ 0
  no-refusal = sym (call-answer s bytes (WITHDRAW m n) is) ∙ taken

  passed : Passed (tests s (the_case s) (WITHDRAW m n))
  passed = accepted-passed s (WITHDRAW m n) no-refusal

  -- the bid stood, was of the open round and the member's
  pub withdraw-own : ((bid_at s n).stands ≡ true) × ((bid_at s n).round ≡ round_of (the_case s).stage) × ((bid_at s n).member ≡ m)
  unfolding tests none_stands in_round
  withdraw-own =
      let b = bid_at s n in
      let stood = not-false _ passed.1.1.0 in
      let now = and_left (b.stands && eqb b.round (round_of (the_case s).stage)) _ stood in (
        and_left b.stands _ now,
        eqb-true _ _ (and_right b.stands _ now),
        eqb-true _ _ (and_right (b.stands && eqb b.round (round_of (the_case s).stage)) _ stood),
      )

  -- a bid that stands is there
  withdraw-there : n < length (bids_of s)
  withdraw-there = stands-there (bids_of s) n withdraw-own.0

  -- and nothing but its mark changes
  pub withdraw-only : (step s bytes).state ≡ some (with_bids (the_case s) (set (bids_of s) n (withdrawn (bid_at s n))))
  unfolding accepted after_withdraw
  withdraw-only = call-accepted s bytes (WITHDRAW m n) is no-refusal

  after : bids_of (step s bytes).state ≡ set (bids_of s) n (withdrawn (bid_at s n))
  after = ap bids_of withdraw-only

  withdraw-marks : bid_at (step s bytes).state n ≡ withdrawn (bid_at s n)
  withdraw-marks = rw after (get_or-set_same (bids_of s) n (withdrawn (bid_at s n)) no_bid withdraw-there)

  pub withdraw-others : (k : ℕ) → (k ≡ n → ⊥) → bid_at (step s bytes).state k ≡ bid_at s k
  withdraw-others k other = rw after (get_or-set_other (bids_of s) n k (withdrawn (bid_at s n)) no_bid other)

  -- it "keeps its number and still counts towards 256"
  pub withdraw-counts : length (bids_of (step s bytes).state) ≡ length (bids_of s)
  withdraw-counts = rw after (length-set (bids_of s) n (withdrawn (bid_at s n)))

  -- a bid sent again stands behind all others
  pub sent-again : (more : List ℕ) (pool units price : ℕ) → decode more ≡ some (BID pool m units price) → (step (step s bytes).state more).answer ≡ 0
      → bids_of (step (step s bytes).state more).state
      ≡ set (bids_of s) n (withdrawn (bid_at s n)) ++ (new_bid (round_of (the_case s).stage) pool m units price ∷ [])
  unfolding accepted after_bid
  sent-again more pool units price bid a =
      let again = BID pool m units price in
      let next = (step s bytes).state in
      ap bids_of (call-accepted next more again bid (sym (call-answer next more again bid) ∙ a))
      ∙ ap (λ (t : State). bids_of t ++ (new_bid (round_of (the_case t).stage) pool m units price ∷ [])) withdraw-only

  -- and has the number after theirs
  pub again-last : (more : List ℕ) (pool units price : ℕ) → decode more ≡ some (BID pool m units price) → (step (step s bytes).state more).answer ≡ 0
      → bid_at (step (step s bytes).state more).state (length (bids_of s)) ≡ new_bid (round_of (the_case s).stage) pool m units price
  again-last more pool units price bid a =
      rw (sent-again more pool units price bid a)
      (get_or_at (set (bids_of s) n (withdrawn (bid_at s n))) (new_bid (round_of (the_case s).stage) pool m units price) [] no_bid (length (bids_of s))
      (length-set (bids_of s) n (withdrawn (bid_at s n))))

  -- the bids that stand are those that stood, but for this one
  pub withdraw-drops : standing_bids (bids_of (step s bytes).state) ≡ standing_bids (take n (bids_of s) ++ drop (suc n) (bids_of s))
  withdraw-drops = rw after (drops (bids_of s) n)

-- ---- any calls

-- what every change of a bid keeps: CLOSE gives units to a bid that stands, WITHDRAW marks one
module _
    (P : Bid → Bid → Type 0)
    (same : (b : Bid) → P b b)
    (won : (round v : ℕ) (b : Bid) → in_round round b ≡ true → P b (with_won b v))
    (marked : (b : Bid) → P b (withdrawn b))
  where
    -- bid n is there and has become one that P allows
    abbrev Kept : State → ℕ → List Bid → Type 0
    Kept s n bids = (n < length bids) × P (bid_at s n) (get_or bids n no_bid)

    kept-call : (s : State) (call : Call) → Passed (tests s (the_case s) call) → (n : ℕ) → n < length (bids_of s) → Kept s n (accepted (the_case s) call).bids
    unfolding accepted after_pool after_member after_round after_bid after_close bids_after won_given after_allocate after_tear after_call after_pay after_move after_miss after_sale after_withdraw tests letter_of
    kept-call none (HEAD h) t n l = absurd (omega arith)
    kept-call (some c) (HEAD h) t n l = absurd (false≢true (sym (letter-some c.stage) ∙ not-false _ t.0))
    kept-call s (POOL pool units mark) t n l = (l, same (bid_at s n))
    kept-call s (MEMBER m contribution expected) t n l = (l, same (bid_at s n))
    kept-call s (ROUND reserves) t n l = (l, same (bid_at s n))
    kept-call s (BID pool m units price) t n l =
        let more = new_bid (round_of (the_case s).stage) pool m units price ∷ [] in
        (omega (arith, length-append (bids_of s) more), rw (get_or-append (bids_of s) more no_bid n l) (same (bid_at s n)))
    kept-call s CLOSE t n l =
        let c = the_case s in
        let round = round_of c.stage in
        let given = won_given round (tab c.head.pools (won_in c round)) in (
          omega (arith, length-map_from given 0 c.bids),
          rw (get_or-map_from given 0 c.bids n no_bid l) (by-test (P (bid_at s n)) (in_round round (bid_at s n)) (won round _ (bid_at s n)) (λ out. same (bid_at s n))),
        )
    kept-call s (ALLOCATE pool price) t n l = (l, same (bid_at s n))
    kept-call s (TEAR pool price) t n l = (l, same (bid_at s n))
    kept-call s CALL t n l = (l, same (bid_at s n))
    kept-call s (PAY m amount) t n l = (l, same (bid_at s n))
    kept-call s (MOVE m) t n l = (l, same (bid_at s n))
    kept-call s (MISS m price) t n l = (l, same (bid_at s n))
    kept-call s FINISH t n l = (l, same (bid_at s n))
    kept-call s (SALE pool m price) t n l = (l, same (bid_at s n))
    kept-call s (WITHDRAW m k) t n l =
        let b = withdrawn (bid_at s k) in (
          omega (arith, length-set (bids_of s) k b),
          set_cases (P (bid_at s n)) (bids_of s) k b no_bid n (λ e. rw (sym e) (marked (bid_at s n))) (same (bid_at s n)),
        )

    -- any bytes, in any state
    kept_step : (s : State) (bytes : List ℕ) (n : ℕ) → n < length (bids_of s) → Kept s n (bids_of (step s bytes).state)
    kept_step s bytes n l = step-cases (λ k next. Kept s n (bids_of next)) s bytes (λ k h. (l, same (bid_at s n))) (λ call e t. kept-call s call t n l)

-- the fields of a BID, and its round
abbrev pub sent : Bid → List ℕ
sent b = b.round ∷ b.pool ∷ b.member ∷ b.units ∷ b.price ∷ []

-- every bid stays at its number, with these fields
pub numbers-kept : (s : State) (bytes : List ℕ) (n : ℕ) → n < length (bids_of s)
    → (n < length (bids_of (step s bytes).state)) × (sent (bid_at (step s bytes).state n) ≡ sent (bid_at s n))
numbers-kept = kept_step (λ b new. sent new ≡ sent b) (λ b. refl) (λ round v b e. refl) (λ b. refl)

-- and one that does not stand stays as it is
pub withdrawn-stay : (s : State) (bytes : List ℕ) (n : ℕ) → n < length (bids_of s) → (bid_at s n).stands ≡ false → bid_at (step s bytes).state n ≡ bid_at s n
unfolding in_round
withdrawn-stay s bytes n l =
    (kept_step (λ b new. b.stands ≡ false → new ≡ b) (λ b out. refl) (λ round v b e out. absurd (false≢true (sym out ∙ and_left _ _ e))) mark-again s bytes n l).1
  where
    mark-again : (b : Bid) → b.stands ≡ false → withdrawn b ≡ b
    mark-again b out =
        ap (λ (x : Bool). record { round = b.round; pool = b.pool; member = b.member; units = b.units; price = b.price; won = b.won; stands = x }) (sym out)

stay-run : (s : State) (calls : List (List ℕ)) (n : ℕ) → n < length (bids_of s) → (bid_at s n).stands ≡ false → bid_at (run_from s calls) n ≡ bid_at s n
unfolding run_from
stay-run s [] n l out = refl
stay-run s (bytes ∷ calls) n l out =
    let same = withdrawn-stay s bytes n l out in
    stay-run (step s bytes).state calls n (numbers-kept s bytes n l).0 (ap (λ (b : Bid). b.stands) same ∙ out) ∙ same

-- the answer to a WITHDRAW of a bid that does not stand
out-answer : (s : State) (m n : ℕ) → (bid_at s n).stands ≡ false → refusal s (WITHDRAW m n) ≡ (when is_b s then (when in_set (the_case s).head m then 18 else 4) else 2)
unfolding refusal first_of tests not_in_set none_stands in_round
out-answer s m n out = rw out (go (is_b s) (in_set (the_case s).head m))
  where
    go : (a b : Bool) → ◌≡◌ {A = ℕ} (when not a then 2 else (when not b then 4 else 18)) (when a then (when b then 18 else 4) else 2)
    go true true = refl
    go true false = refl
    go false b = refl

-- after an accepted WITHDRAW of bid n, and any list of calls
module _ (s : State) (bytes : List ℕ) (m n : ℕ) (is : decode bytes ≡ some (WITHDRAW m n)) (taken : (step s bytes).answer ≡ 0) (calls : List (List ℕ)) where
  abbrev later : State
  later = run_from (step s bytes).state calls

  -- the bid is what it was, but for the mark
  pub withdrawn-for-good : bid_at later n ≡ withdrawn (bid_at s n)
  withdrawn-for-good =
      let marked = withdraw-marks s bytes m n is taken in
      let there = withdraw-there s bytes m n is taken in
      stay-run (step s bytes).state calls n (omega (arith, withdraw-counts s bytes m n is taken)) (ap (λ (b : Bid). b.stands) marked) ∙ marked

  -- another WITHDRAW of it, by any member, is declined by 18, after 2 and 4
  pub withdrawn-again : (more : List ℕ) (k : ℕ) → decode more ≡ some (WITHDRAW k n)
      → (step later more).answer ≡ (when is_b later then (when in_set (the_case later).head k then 18 else 4) else 2)
  withdrawn-again more k again =
      call-answer later more (WITHDRAW k n) again ∙ out-answer later k n (ap (λ (b : Bid). b.stands) withdrawn-for-good)
