-- Each answer that is read off a stage and a book is the machine's refusal in the case that the stage, the book and the roll show. Assumes nothing.
use mathlib.Core.Path.{◌≡◌, refl, sym, ap, ◌∙◌}
use mathlib.Core.Bool.{Bool, true, false, not, false≢true}
use mathlib.Core.Logic.{⊎_elim}
use mathlib.Core.List.{List, [], ◌∷◌}
use mathlib.Core.Option.{none, some}
use Prim.Native.Nat.{ℕ, ◌≤◌, ◌<◌}
use native.Mathlib.Nat.{min-eq_left}
use native.Mathlib.Omega.{arith}
use lib.Dec.{eqb, leb}
use lib.ListN.{length, get_or, take, length-take}
use borrow.Author.Tests.{leb-false, eqb-true, eq-eqb, not-false}
use Rattle.lists.proofs.Passed.{first-same as same}
use Rattle.lists.specs.Lists.{any, places}
use Rattle.lists.specs.Tests.{first_of}
use Rattle.lists.proofs.Bools.{cases, bool-ext, lt-or-le}
use Rattle.lists.proofs.Each.{each_more, each-kept-at}
use Rattle.lists.proofs.Counts.{each-any, any_false}
use Rattle.lists.proofs.Places.{length-tab, get_or-tab}
use Rattle.sets.specs.Set.{member, members}
use Rattle.sets.proofs.Bits.{member-high}
use Rattle.sets.proofs.Members.{members-each, ext}
use Rattle.machine.specs.Wire.{HEAD, POOL, MEMBER, ROUND, BID, CLOSE, ALLOCATE, TEAR, CALL, PAY, MOVE, MISS, FINISH, SALE, WITHDRAW}
use Rattle.machine.specs.Roll.{Entry}
use Rattle.machine.specs.State.{Member, Case, member_at, letter, letter_of}
use Rattle.machine.specs.Refusals.{not_in_case, not_in_set, none_open, marked, not_given, tests, refusal, none_stands}
use Rattle.machine.proofs.Invariant.{CaseOk}
use Rattle.machine.proofs.Stages.{letter-some}
use Rattle.wire.specs.declared.Head.{Head}
use Rattle.wire.specs.Asked.{head_of}
use Rattle.accounts.specs.Members.{view_members}
use Rattle.accounts.proofs.ViewMembers.{member-shown, member-past}
use Rattle.accounts.proofs.ViewPools as VP
use Rattle.accounts.proofs.ViewBids as VB
use Rattle.book.specs.declared.Stage.{Stage}
use Rattle.book.specs.declared.Book.{Book}
use Rattle.refusals.specs.Answers.{head_answer, pool_answer, member_answer, round_answer, bid_answer, close_answer, allocate_answer, tear_answer, call_answer, pay_answer, move_answer, miss_answer, finish_answer, sale_answer, withdraw_answer}
use Rattle.book.specs.Stages.{round_of}
use Rattle.book.specs.View.{view_of}
use Rattle.book.proofs.Sound.{Sound}
use Rattle.book.proofs.Shown.{open-shown, any-open-shown, requirement-shown, prefunded-shown, short-shown, passed-shown, too-dear-shown, debt-shown, someone-owes-shown}

-- where there is no case
pub head-answer : (h : Head) → head_answer h ≡ refusal none (HEAD (head_of h))
unfolding head_answer refusal tests letter_of first_of
head-answer h = refl

-- at most four reserves, from their places
reserves-are : (rs : List ℕ) → length rs ≤ 4 → take (length rs) (get_or rs 0 0 ∷ get_or rs 1 0 ∷ get_or rs 2 0 ∷ get_or rs 3 0 ∷ []) ≡ rs
reserves-are [] l = refl
reserves-are (a ∷ []) l = refl
reserves-are (a ∷ b ∷ []) l = refl
reserves-are (a ∷ b ∷ c ∷ []) l = refl
reserves-are (a ∷ b ∷ c ∷ d ∷ []) l = refl
reserves-are (a ∷ b ∷ c ∷ d ∷ e ∷ rs) l = absurd (omega arith)

module _ (stage : Stage) (b : Book) (roll : List Entry) (w : Sound stage b roll) (ok : CaseOk (view_of stage b roll)) where
  abbrev c : Case
  c = view_of stage b roll

  -- ---- pools and members that are given

  pub given-shown : (m : ℕ) → member b.members.given m ≡ (member_at (view_members b.members) m).given
  given-shown m =
      ⊎_elim
      (λ l. sym (ap (λ (x : Member). x.given) (member-shown b.members m l)))
      (λ g. member-high b.members.given m w.members.given g ∙ sym (ap (λ (x : Member). x.given) (member-past b.members m g)))
      (lt-or-le m 32)

  abbrev lacks : ℕ → Bool
  lacks m = not (member_at (view_members b.members) m).given

  -- where nobody lacks, a member of the set is given
  given-each : any lacks (members b.head.set) ≡ false → (m : ℕ) → m < 32 → member b.head.set m ≡ true → member b.members.given m ≡ true
  unfolding members
  given-each full m l i =
      let P : ℕ → Type 0 = λ k. lacks k ≡ false in
      let at : get_or (places 32) m 0 ≡ m = get_or-tab 32 (λ (k : ℕ). k) m 0 l in
      given-shown m
      ∙ not-false _
      (rw at at (each-kept-at P (member b.head.set) (places 32) m 0 (each-any lacks (members b.head.set) full) (omega (arith, length-tab 32 (λ (k : ℕ). k))) (rw at i)))

  -- where the sets are equal, nobody lacks
  none-lacks : b.members.given ≡ b.head.set → any lacks (members b.head.set) ≡ false
  none-lacks equal =
      any_false lacks (members b.head.set)
      (each_more _ _ (λ m h. ap not (sym (given-shown m) ∙ ap (λ (s : ℕ). member s m) equal ∙ h.1)) (members b.head.set) (members-each b.head.set))

  -- all members of the set are given exactly if the sets are equal
  pub all-given-shown : not (eqb b.members.given b.head.set) ≡ any (λ m. not (member_at (view_members b.members) m).given) (members b.head.set)
  all-given-shown =
      let given = b.members.given in
      let set = b.head.set in
      cases (any lacks (members set)) _
      (λ lacking. rw lacking
      (cases (eqb given set) (not (eqb given set) ≡ true)
      (λ t. absurd (false≢true (sym (none-lacks (eqb-true given set t)) ∙ lacking)))
      (λ t. rw t)))
      (λ full.
      let equal : given ≡ set =
      ext given set w.members.given w.set
      (λ m l. bool-ext (member given m) (member set m)
      (λ g. ok.members.given-in-set m (sym (given-shown m) ∙ g))
      (λ i. given-each full m l i)) in
      rw (full, eq-eqb given set equal))

  -- ---- the calls of stage S

  pub pool-answer : (pool units mark : ℕ) → pool_answer stage b pool units mark ≡ refusal (some (view_of stage b roll)) (POOL pool units mark)
  unfolding pool_answer refusal tests not_in_case letter_of
  pool-answer pool units mark =
      same 2 _ _ refl
      (λ e. same 3 _ _ (rw (VP.length-view b.pools))
      (λ e. same 5 _ _ refl
      (λ e. refl)))

  pub member-answer : (m contribution p q s t : ℕ)
      → member_answer stage b m contribution p q s t ≡ refusal (some (view_of stage b roll)) (MEMBER m contribution (p ∷ q ∷ s ∷ t ∷ []))
  unfolding member_answer refusal tests not_in_set letter_of
  member-answer m contribution p q s t =
      same 2 _ _ refl
      (λ e. same 4 _ _ (rw (given-shown m))
      (λ e. same 5 _ _ refl
      (λ e. refl)))

  -- ROUND, by its number of reserves
  pub reserves-answer : (n p q s t : ℕ) → n ≤ 4 → round_answer stage b n p q s t ≡ refusal (some (view_of stage b roll)) (ROUND (take n (p ∷ q ∷ s ∷ t ∷ [])))
  unfolding round_answer refusal tests not_given letter_of
  reserves-answer n p q s t few =
      let long : length (take n (p ∷ q ∷ s ∷ t ∷ [])) ≡ n = length-take n (p ∷ q ∷ s ∷ t ∷ []) ∙ min-eq_left few in
      same 1 _ _ (rw (long, letter-some c.stage))
      (λ e. same 2 _ _ refl
      (λ e. same 5 _ _ refl
      (λ e. same 8 _ _ (rw (any-open-shown stage b roll w ok))
      (λ e. same 10 _ _ (rw (VP.length-view b.pools, all-given-shown))
      (λ e. refl)))))

  pub round-answer : (rs : List ℕ) → length rs ≤ 4
      → round_answer stage b (length rs) (get_or rs 0 0) (get_or rs 1 0) (get_or rs 2 0) (get_or rs 3 0) ≡ refusal (some (view_of stage b roll)) (ROUND rs)
  round-answer rs few =
      reserves-answer (length rs) (get_or rs 0 0) (get_or rs 1 0) (get_or rs 2 0) (get_or rs 3 0) few
      ∙ ap (λ (l : List ℕ). refusal (some (view_of stage b roll)) (ROUND l)) (reserves-are rs few)

  -- ---- the calls of stages B and A

  pub bid-answer : (pool m units price : ℕ) → bid_answer stage b pool m units price ≡ refusal (some (view_of stage b roll)) (BID pool m units price)
  unfolding bid_answer refusal tests not_in_case not_in_set none_open letter_of
  bid-answer pool m units price =
      same 2 _ _ refl
      (λ e. same 3 _ _ refl
      (λ e. same 4 _ _ refl
      (λ e. same 5 _ _ refl
      (λ e. same 6 _ _ refl
      (λ e. same 7 _ _ (rw (VB.length-view b.bids))
      (λ e. same 8 _ _ (rw (open-shown stage b roll w ok pool))
      (λ e. refl)))))))

  pub close-answer : close_answer stage ≡ refusal (some (view_of stage b roll)) CLOSE
  unfolding close_answer refusal tests letter_of
  close-answer = refl

  -- the mark of a pool of the case, all of whose pools are given
  mark-in : (pool : ℕ) → not (eqb (letter c.stage) 3) ≡ false → leb b.head.pools pool ≡ false → eqb (get_or b.pools.marks pool 0) 1 ≡ marked c.pools pool
  unfolding marked
  mark-in pool after inside =
      let third = eqb-true (letter c.stage) 3 (not-false _ after) in
      let below = leb-false b.head.pools pool inside in
      let many = ok.pools.complete (omega arith) in
      ap (λ (n : ℕ). eqb n 1) (VP.mark-shown b.pools pool (omega (arith, VP.length-view b.pools)))

  pub allocate-answer : (pool price : ℕ) → allocate_answer stage b pool price ≡ refusal (some (view_of stage b roll)) (ALLOCATE pool price)
  unfolding allocate_answer refusal tests not_in_case none_open letter_of
  allocate-answer pool price =
      same 2 _ _ refl
      (λ after. same 3 _ _ refl
      (λ inside. same 5 _ _ refl
      (λ e. same 8 _ _ (rw (open-shown stage b roll w ok pool))
      (λ e. same 9 _ _ (mark-in pool after inside)
      (λ e. same 10 _ _ (rw (short-shown stage b roll w ok pool (omega (arith, leb-false b.head.pools pool inside, ok.head.pools-most))))
      (λ e. refl))))))

  pub tear-answer : (pool price : ℕ) → tear_answer stage b pool price ≡ refusal (some (view_of stage b roll)) (TEAR pool price)
  unfolding tear_answer refusal tests not_in_case none_open letter_of
  tear-answer pool price =
      same 2 _ _ refl
      (λ e. same 3 _ _ refl
      (λ e. same 5 _ _ refl
      (λ e. same 8 _ _ (rw (open-shown stage b roll w ok pool))
      (λ e. refl))))

  pub call-answer : call_answer stage b ≡ refusal (some (view_of stage b roll)) CALL
  unfolding call_answer refusal tests letter_of
  call-answer =
      same 2 _ _ refl
      (λ e. same 11 _ _ (any-open-shown stage b roll w ok)
      (λ e. same 12 _ _ (rw (requirement-shown stage b roll w ok, prefunded-shown stage b roll w ok))
      (λ e. refl)))

  -- ---- the calls of stage C

  pub pay-answer : (m amount : ℕ) → pay_answer stage b m amount ≡ refusal (some (view_of stage b roll)) (PAY m amount)
  unfolding pay_answer refusal tests not_in_set letter_of
  pay-answer m amount =
      same 2 _ _ refl
      (λ e. same 4 _ _ refl
      (λ e. same 5 _ _ refl
      (λ e. same 14 _ _ (rw (debt-shown stage b roll w ok m))
      (λ e. refl))))

  pub move-answer : (m : ℕ) → move_answer stage b m ≡ refusal (some (view_of stage b roll)) (MOVE m)
  unfolding move_answer refusal tests not_in_set letter_of
  move-answer m =
      same 2 _ _ refl
      (λ e. same 4 _ _ refl
      (λ e. same 14 _ _ (rw (debt-shown stage b roll w ok m))
      (λ e. refl)))

  pub miss-answer : (m price : ℕ) → miss_answer stage b m price ≡ refusal (some (view_of stage b roll)) (MISS m price)
  unfolding miss_answer refusal tests not_in_set letter_of
  miss-answer m price =
      same 2 _ _ refl
      (λ e. same 4 _ _ refl
      (λ e. same 5 _ _ refl
      (λ e. same 16 _ _ (passed-shown stage b roll w ok m)
      (λ e. refl))))

  pub finish-answer : finish_answer stage b ≡ refusal (some (view_of stage b roll)) FINISH
  unfolding finish_answer refusal tests letter_of
  finish-answer =
      same 2 _ _ refl
      (λ e. same 11 _ _ (any-open-shown stage b roll w ok)
      (λ e. same 13 _ _ (rw (requirement-shown stage b roll w ok, prefunded-shown stage b roll w ok))
      (λ e. same 15 _ _ (someone-owes-shown stage b roll w ok)
      (λ e. refl))))

  -- ---- SALE

  pub sale-answer : (pool m price : ℕ) → sale_answer stage b pool m price ≡ refusal (some (view_of stage b roll)) (SALE pool m price)
  unfolding sale_answer refusal tests not_in_case not_in_set none_open not_given letter_of
  sale-answer pool m price =
      same 2 _ _ refl
      (λ setup. same 3 _ _ refl
      (λ e. same 4 _ _ refl
      (λ e. same 5 _ _ refl
      (λ e. same 8 _ _ (rw (open-shown stage b roll w ok pool))
      (λ e. same 10 _ _ (rw (VP.length-view b.pools, all-given-shown))
      (λ e. same 17 _ _ (too-dear-shown stage b roll w ok (eqb-true (letter c.stage) 1 (not-false _ setup)) pool m price)
      (λ e. refl)))))))

  -- ---- WITHDRAW

  pub withdraw-answer : (m n : ℕ) → withdraw_answer stage b m n ≡ refusal (some (view_of stage b roll)) (WITHDRAW m n)
  unfolding withdraw_answer refusal tests not_in_set none_stands letter_of
  withdraw-answer m n =
      same 2 _ _ refl
      (λ e. same 4 _ _ refl
      (λ e. same 18 _ _ (rw (VB.stands-shown b.bids (round_of stage) m n))
      (λ e. refl)))
