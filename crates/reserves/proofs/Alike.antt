-- Document 02, C-17: two lists of calls that are the same but for reserves lead to cases that are the same, their reserves taken out, with the same answers. A call
-- does to a case without reserves what it does to the case, but for CLOSE, which reads of a reserve only which bids are valid. Assumes nothing.
use mathlib.Core.Path.{◌≡◌, refl, sym, ap, subst, ◌∙◌}
use mathlib.Core.Bool.{Bool, true, false, ◌&&◌, ◌||◌, not, false≢true}
use mathlib.Core.Logic.{⊎_elim}
use mathlib.Core.List.{List, [], ◌∷◌, map}
use mathlib.Core.Option.{Option, none, some}
use Prim.Native.Nat.{ℕ, zero, suc, ◌+◌, ◌*◌, ◌<◌}
use native.Mathlib.Omega.{arith}
use lib.Dec.{eqb, leb}
use lib.ListN.{length, get_or, take}
use lib.Seq.{take-nil}
use borrow.Author.Tests.{eqb-true, not-false}
use Rattle.lists.specs.Lists.{when◌then◌else◌, between, keep, put_back, among, map_from, all}
use Rattle.lists.specs.Tests.{first_of}
use Rattle.lists.proofs.Bools.{either, cases, and_left, and_right}
use Rattle.lists.proofs.Each.{Each, each_at, each_of, each_more, each_both, each_keep, each-kept, map-append, length-map}
use Rattle.lists.proofs.Places.{tab-ext, get_or-map-in}
use Rattle.lists.proofs.Passed.{first-same}
use Rattle.auction.specs.Price.{price_ok}
use Rattle.auction.specs.Auction.{valid_at}
use Rattle.auction.proofs.Absent.{allot-reserve}
use Rattle.machine.specs.Wire.{Call, HEAD, POOL, MEMBER, ROUND, BID, CLOSE, ALLOCATE, TEAR, CALL, PAY, MOVE, MISS, FINISH, SALE, WITHDRAW, right_length, call_of, decode}
use Rattle.machine.specs.Roll.{Bid, no_bid, open_units}
use Rattle.machine.specs.State.{Bidding, After, Round, Case, State, the_case, with_stage, with_rounds, with_bids, with_roll, letter_of, no_case, is_s, is_a1, round_of}
use Rattle.machine.specs.Requirement.{requirement, contributions, prefunded}
use Rattle.machine.specs.Calls.{reserve, in_round, in_auction, won_in, won_given, bids_after, sell, shortfall, total_shortfall, allocation, calls, new_round, accepted}
use Rattle.machine.specs.Calls.{after_pool, after_member, after_round, after_bid, after_close, after_allocate, after_tear, after_call, after_pay, after_move, after_miss, after_sale, after_withdraw}
use Rattle.machine.specs.Refusals.{not_given, someone_owes, sale_too_dear, none_stands, tests, refusal}
use Rattle.machine.specs.Machine.{Answered, answered, step}
use Rattle.machine.specs.Run.{Observed, observed, observed_from, run_from, run}
use Rattle.machine.proofs.Stages.{letter-some}
use Rattle.reserves.specs.Reserves.{TwoRounds, SameField, SameStanding, SameAtClose, valid, answers_to, without_reserves, state_without}

-- two states that are the same, their reserves taken out
abbrev pub Alike : State → State → Type 0
Alike s t = state_without s ≡ state_without t

-- ---- call by call

-- a call that leaves reserves alone makes of a case without them what it makes of the case, without them. ROUND, which takes them, and CLOSE, which reads them, have
-- laws of their own
data Changes : Call → Type 0 where
  leaves : {call : Call} → ((c : Case) → without_reserves (accepted c call) ≡ accepted (without_reserves c) call) → Changes call
  takes : (reserves : List ℕ) → Changes (ROUND reserves)
  reads : Changes CLOSE

-- what is shown of each call: no test asks for a reserve that is kept, and what the call changes
abbrev ByCall : Call → Type 0
ByCall call = ((c : Case) → tests (some (without_reserves c)) (without_reserves c) call ≡ tests (some c) c call) × Changes call

by_call : (call : Call) → ByCall call
unfolding tests letter_of not_given someone_owes sale_too_dear none_stands total_shortfall shortfall requirement prefunded contributions calls allocation accepted after_pool after_member after_bid after_allocate after_tear after_call after_pay after_move after_miss after_sale after_withdraw
by_call (HEAD h) = (λ c. refl, leaves (λ c. refl))
by_call (POOL pool units mark) = (λ c. refl, leaves (λ c. refl))
by_call (MEMBER m contribution expected) = (λ c. refl, leaves (λ c. refl))
by_call (ROUND reserves) = (λ c. refl, takes reserves)
by_call (BID pool m units price) = (λ c. refl, leaves (λ c. refl))
by_call CLOSE = (λ c. refl, reads)
by_call (ALLOCATE pool price) = (λ c. refl, leaves (λ c. refl))
by_call (TEAR pool price) = (λ c. refl, leaves (λ c. refl))
by_call CALL = (λ c. refl, leaves (λ c. refl))
by_call (PAY m amount) = (λ c. refl, leaves (λ c. refl))
by_call (MOVE m) = (λ c. refl, leaves (λ c. refl))
by_call (MISS m price) = (λ c. refl, leaves (λ c. refl))
by_call FINISH = (λ c. refl, leaves (λ c. refl))
by_call (SALE pool m price) = (λ c. refl, leaves (λ c. refl))
by_call (WITHDRAW m n) = (λ c. refl, leaves (λ c. refl))

-- ---- answers

same_tests : (s : State) (call : Call) → tests (state_without s) (the_case (state_without s)) call ≡ tests s (the_case s) call
same_tests none call = refl
same_tests (some c) call = (by_call call).0 c

-- whether the reserves are in range is asked only where their number is right for the case
right-number : (s : State) (n : ℕ) → (not (no_case s) && not (eqb n (the_case s).head.pools)) ≡ false → not (is_s s || is_a1 s) ≡ false → n ≡ (the_case s).head.pools
unfolding letter_of
right-number none n first second = absurd (false≢true (sym second))
right-number (some c) n first second = eqb-true n c.head.pools (not-false _ (rw (letter-some c.stage) at first))

round-refusal : (s : State) (reserves others : List ℕ) → length reserves ≡ length others
    → (length reserves ≡ (the_case s).head.pools → all price_ok reserves ≡ all price_ok others) → refusal s (ROUND reserves) ≡ refusal s (ROUND others)
unfolding refusal tests
round-refusal s reserves others long range =
    first-same 1 _ _ (rw long) (λ first. first-same 2 _ _ refl (λ second.
    first-same 5 _ _ (ap not (range (long ∙ right-number s (length others) first second))) (λ fifth. refl)))

same-refusal : (s t : State) → Alike s t → (call : Call) → refusal s call ≡ refusal t call
unfolding refusal
same-refusal s t alike call =
    ap first_of (sym (same_tests s call) ∙ ap (λ (x : State). tests x (the_case x) call) alike ∙ same_tests t call)

-- ---- CLOSE: of two reserves only matters which bids they make valid

-- a bid that counts in an auction stands in the round and is of the pool
in-auction : (round pool : ℕ) (b : Bid) → in_auction round pool b ≡ true → (in_round round b ≡ true) × (b.round ≡ round) × (b.pool ≡ pool)
unfolding in_auction in_round
in-auction round pool b e =
    let stands = and_left _ _ e in
    (stands, eqb-true b.round round (and_right b.stands _ stands), eqb-true b.pool pool (and_right (in_round round b) _ e))

module _ (c : Case) (rs : List Round) (round : ℕ) (same : Each (λ b. in_round round b ≡ true → valid c.rounds b ≡ valid rs b) c.bids) where
  -- the bids of a pool in the round
  same-in-auction : (pool : ℕ)
      → Each (λ (b : Bid). leb (reserve c.rounds round pool) b.price ≡ leb (reserve rs round pool) b.price) (keep (in_auction round pool) c.bids)
  unfolding valid
  same-in-auction pool =
      let p = in_auction round pool in
      each_more _ _
      (λ b h. let of = in-auction round pool b h.0 in rw (of.1, of.2) at (h.1 of.0))
      (keep p c.bids)
      (each_both _ _ (keep p c.bids) (each_keep p c.bids) (each-kept _ p c.bids same))

  same-won : (pool : ℕ) → won_in c round pool ≡ won_in (with_rounds c rs) round pool
  unfolding won_in among valid_at
  same-won pool =
      let p = in_auction round pool in
      let bids = keep p c.bids in
      let units = map (λ (b : Bid). b.units) bids in
      let prices = map (λ (b : Bid). b.price) bids in
      ap (put_back p c.bids)
      (allot-reserve (open_units c.roll pool) (reserve c.rounds round pool) (reserve rs round pool) units prices
      (λ i l g.
      let here : i < length bids = omega (arith, length-map (λ (b : Bid). b.units) bids) in
      rw (get_or-map-in (λ (b : Bid). b.price) bids i no_bid 0 here)
      (each_at _ bids i no_bid here (same-in-auction pool))))

  same-bids-after : bids_after c round ≡ bids_after (with_rounds c rs) round
  unfolding bids_after
  same-bids-after =
      ap (λ (wins : List (List ℕ)). map_from 0 (won_given round wins) c.bids)
      (tab-ext c.head.pools (won_in c round) (won_in (with_rounds c rs) round) (λ pool l. same-won pool))

-- ---- the case after an accepted call

-- ROUND, whatever its reserves
round-without : (c : Case) (reserves : List ℕ) → without_reserves (after_round c reserves) ≡ after_round (without_reserves c) []
unfolding after_round new_round
round-without c reserves =
    ap (λ (rounds : List Round). with_stage (with_rounds c rounds) (Bidding (suc (round_of c.stage))))
    (map-append (λ (r : Round). record { reserves = []; opened = r.opened }) c.rounds (new_round c.head.pools c.roll reserves ∷ []))

module _ (c d : Case) (alike : without_reserves c ≡ without_reserves d) where
  round-alike : (reserves others : List ℕ) → without_reserves (after_round c reserves) ≡ without_reserves (after_round d others)
  round-alike reserves others = round-without c reserves ∙ ap (λ (x : Case). after_round x []) alike ∙ sym (round-without d others)

  -- the other case is this one with other rounds
  other-rounds : d ≡ with_rounds c d.rounds
  other-rounds = ap (λ (x : Case). with_rounds x d.rounds) (sym alike)

  -- CLOSE, where the same bids that stand are valid
  module _ (same : SameStanding c d) where
    same-valid : Each (λ b. in_round (round_of c.stage) b ≡ true → valid c.rounds b ≡ valid d.rounds b) c.bids
    same-valid =
        let bids = ap (λ (x : Case). x.bids) alike in
        each_of _ c.bids no_bid (λ i l stands. rw bids (rw bids at (same i l (rw bids at l) stands)))

    same_after : bids_after c (round_of c.stage) ≡ bids_after d (round_of d.stage)
    same_after =
        same-bids-after c d.rounds (round_of c.stage) same-valid ∙ ap (λ (x : Case). bids_after x (round_of x.stage)) (sym other-rounds)

    close-alike : without_reserves (after_close c) ≡ without_reserves (after_close d)
    unfolding after_close
    close-alike =
        let closed : Case → List Bid → Case
        = λ x bids. with_stage (with_roll (with_bids x bids) (sell (round_of x.stage) 0 bids x.roll)) (After (round_of x.stage)) in
        λ i. closed (alike i) (same_after i)

  next-alike : (call : Call) → Changes call → (call ≡ CLOSE → SameStanding c d) → without_reserves (accepted c call) ≡ without_reserves (accepted d call)
  unfolding accepted
  next-alike call (leaves same) bids = same c ∙ ap (λ (x : Case). accepted x call) alike ∙ sym (same d)
  next-alike call (takes reserves) bids = round-alike reserves reserves
  next-alike call reads bids = close-alike (bids refl)

-- ---- a step

the-without : (s : State) → the_case (state_without s) ≡ without_reserves (the_case s)
the-without none = refl
the-without (some c) = refl

-- what two steps leave
record Stepped (a b : Answered) : Type 0 where
  pub answer : a.answer ≡ b.answer
  pub state : Alike a.state b.state

module _ (s t : State) (alike : Alike s t) where
  cases_alike : without_reserves (the_case s) ≡ without_reserves (the_case t)
  cases_alike = sym (the-without s) ∙ ap the_case alike ∙ the-without t

  -- two calls with the same answer, which leave cases that are alike
  taken : (call other : Call) → refusal s call ≡ refusal t other → without_reserves (accepted (the_case s) call) ≡ without_reserves (accepted (the_case t) other)
      → Stepped (answered s (some call)) (answered t (some other))
  unfolding answered
  taken call other answer next = record { answer = answer; state = rw answer (either_way (eqb (refusal t other) 0)) }
    where
      either_way : (b : Bool) → Alike (when b then some (accepted (the_case s) call) else s) (when b then some (accepted (the_case t) other) else t)
      either_way true = ap some next
      either_way false = alike

  -- two ROUNDs
  step-rounds : (one other : List ℕ) → TwoRounds (the_case s).head.pools one other → Stepped (step s one) (step t other)
  unfolding step accepted
  step-rounds one other r =
      rw (r.is_one, r.is-other)
      (taken (ROUND r.reserves) (ROUND r.others)
      (round-refusal s r.reserves r.others r.as_many (λ e. (r.in-range e).0 ∙ sym (r.in-range e).1) ∙ same-refusal s t alike (ROUND r.others))
      (round-alike (the_case s) (the_case t) cases_alike r.reserves r.others))

  -- the same bytes
  asked-alike : (asked : Option Call) → (asked ≡ some CLOSE → SameStanding (the_case s) (the_case t)) → Stepped (answered s asked) (answered t asked)
  unfolding answered
  asked-alike none bids = record { answer = refl; state = alike }
  asked-alike (some call) bids =
      taken call call (same-refusal s t alike call) (next-alike (the_case s) (the_case t) cases_alike call (by_call call).1 (λ e. bids (ap some e)))

  step-alike : (one other : List ℕ) → SameField (the_case s) one other → (decode one ≡ some CLOSE → SameStanding (the_case s) (the_case t))
      → Stepped (step s one) (step t other)
  unfolding step
  step-alike one other f bids =
      ⊎_elim (λ e. subst (λ (x : List ℕ). Stepped (step s one) (step t x)) e (asked-alike (decode one) bids)) (step-rounds one other) f

-- ---- the tag

-- the number of a call's first test where there is no case: 1 for ROUND, whose length goes by the case, and 2 for every other call
abbrev first_number : Call → ℕ
first_number call = get_or (map (λ t. t.0) (tests none (the_case none) call)) 0 0

other-call : (tag : ℕ) (v : List ℕ) → eqb tag 4 ≡ false → first_number (call_of tag v) ≡ 2
unfolding call_of tests
other-call tag v other =
    let P : Call → Type 0 = λ call. first_number call ≡ 2 in
    rw other
    (either P (eqb tag 1) refl
    (either P (eqb tag 2) refl
    (either P (eqb tag 3) refl
    (either P (eqb tag 5) refl
    (either P (eqb tag 6) refl
    (either P (eqb tag 7) refl
    (either P (eqb tag 8) refl
    (either P (eqb tag 9) refl
    (either P (eqb tag 10) refl
    (either P (eqb tag 11) refl
    (either P (eqb tag 12) refl
    (either P (eqb tag 13) refl
    (either P (eqb tag 14) refl refl)))))))))))))

-- only a field with tag 4 is a ROUND
abbrev Tag4 : List ℕ → Option Call → Type 0
Tag4 bytes none = Unit {0}
Tag4 bytes (some call) = first_number call ≡ 1 → take 1 bytes ≡ 4 ∷ []

tag-4 : (bytes : List ℕ) → Tag4 bytes (decode bytes)
unfolding decode
tag-4 [] = tt
tag-4 (tag ∷ []) = tt
tag-4 (tag ∷ high ∷ []) = tt
tag-4 (tag ∷ high ∷ low ∷ v) =
    either (Tag4 (tag ∷ high ∷ low ∷ v)) (between 1 15 tag && eqb (high * 256 + low) (length v) && right_length tag (length v)) {x = some (call_of tag v)} {y = none}
    (λ one. cases (eqb tag 4) _ (λ e. ap (λ (n : ℕ). n ∷ []) (eqb-true tag 4 e)) (λ e. absurd (omega (arith, other-call tag v e))))
    tt

round-tag : (bytes reserves : List ℕ) → decode bytes ≡ some (ROUND reserves) → take 1 bytes ≡ 4 ∷ []
unfolding tests
round-tag bytes reserves e = (rw e at (tag-4 bytes)) refl

same_tag : (c : Case) (one other : List ℕ) → SameField c one other → take 1 one ≡ take 1 other
same_tag c one other f =
    ⊎_elim (λ e. ap (λ (x : List ℕ). take 1 x) e) (λ r. round-tag one r.reserves r.is_one ∙ sym (round-tag other r.others r.is-other)) f

-- ---- every list of calls

-- the premise, from two states on
record SameFrom (s t : State) (calls others : List (List ℕ)) : Type 0 where
  pub as_many : length calls ≡ length others
  pub fields : (k : ℕ) → k < length calls → SameField (the_case (run_from s (take k calls))) (get_or calls k []) (get_or others k [])
  pub bids : (k : ℕ) → decode (get_or calls k []) ≡ some CLOSE → SameStanding (the_case (run_from s (take k calls))) (the_case (run_from t (take k others)))

-- what is the same: the tags, the answers, and the state after any number of calls
record SameRun (s t : State) (calls others : List (List ℕ)) : Type 0 where
  pub tags : map (take 1) calls ≡ map (take 1) others
  pub answers : map (λ (o : Observed). o.answer) (observed_from s calls) ≡ map (λ (o : Observed). o.answer) (observed_from t others)
  pub states : (k : ℕ) → Alike (run_from s (take k calls)) (run_from t (take k others))

module _ (s t : State) (alike : Alike s t) (one other : List ℕ) (ones others : List (List ℕ)) (same : SameFrom s t (one ∷ ones) (other ∷ others)) where
  -- the first call
  step-first : Stepped (step s one) (step t other)
  unfolding run_from
  step-first = step-alike s t alike one other (same.fields 0 (omega arith)) (same.bids 0)

  -- and the rest
  same_rest : SameFrom (step s one).state (step t other).state ones others
  unfolding run_from
  same_rest = record { as_many = omega (arith, same.as_many); fields = λ k l. same.fields (suc k) (omega arith); bids = λ k. same.bids (suc k) }

  both : SameRun (step s one).state (step t other).state ones others → SameRun s t (one ∷ ones) (other ∷ others)
  unfolding run_from observed_from observed
  both rest =
      record {
        tags = λ i. same_tag (the_case s) one other (same.fields 0 (omega arith)) i ∷ rest.tags i;
        answers = λ i. step-first.answer i ∷ rest.answers i;
        states = states;
      }
    where
      states : (k : ℕ) → Alike (run_from s (take k (one ∷ ones))) (run_from t (take k (other ∷ others)))
      states zero = alike
      states (suc k) = rest.states k

same_from : (s t : State) → Alike s t → (calls others : List (List ℕ)) → SameFrom s t calls others → SameRun s t calls others
unfolding run_from observed_from
same_from s t alike [] [] same = record { tags = refl; answers = refl; states = λ k. rw (take-nil {A = List ℕ} k) alike }
same_from s t alike [] (other ∷ others) same = absurd (omega (arith, same.as_many))
same_from s t alike (one ∷ ones) [] same = absurd (omega (arith, same.as_many))
same_from s t alike (one ∷ ones) (other ∷ others) same =
    both s t alike one other ones others same
    (same_from (step s one).state (step t other).state (step-first s t alike one other ones others same).state ones others (same_rest s t alike one other ones others same))

module _ (calls others : List (List ℕ)) (same : SameAtClose calls others) where
  run-alike : SameRun none none calls others
  run-alike = same_from none none refl calls others (record { as_many = same.fields.as_many; fields = same.fields.at; bids = same.bids })

  -- the first byte of each field, which is all that the printed text has of it
  pub same-tags : map (take 1) calls ≡ map (take 1) others
  same-tags = run-alike.tags

  pub same-answers : answers_to calls ≡ answers_to others
  unfolding run
  same-answers = run-alike.answers

  pub same-states : (k : ℕ) → Alike (run_from none (take k calls)) (run_from none (take k others))
  same-states = run-alike.states
