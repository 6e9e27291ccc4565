-- A call that is declined hands the case back unchanged; an accepted one hands back the case after it. Also ROUND's reserves, read one by one, and SALE's stage.
-- Assumes nothing.
use Rattle.std.specs.Prelude.{Some}
use mathlib.Core.Bool.{Bool, true, false, not}
use mathlib.Core.List.{List, [], ◌∷◌}
use mathlib.Core.Option.{Option, none, some}
use mathlib.Core.Path.{◌≡◌, refl, sym, ap, ◌∙◌}
use Prim.Native.Nat.{ℕ}
use native.Mathlib.Nat.{min-eq_left}
use native.Mathlib.Omega.{arith}
use lib.Dec.{leb, ltb, eqb}
use lib.ListN.{length, take, get_or, length-take, get_or-eq_default}
use lib.Seq.{get_or-take}
use borrow.Author.Tests.{eq-eqb, ne_eqb, leb-true, ltb-true, ltb-false}
use Rattle.lists.specs.Lists.{when◌then◌else◌, between}
use Rattle.lists.proofs.Bools.{by-test, cases, either, and_right}
use Rattle.lists.specs.declared.refusal.Refusal.{Refusal}
use Rattle.lists.specs.Refusals.{number_of}
use Rattle.lists.proofs.Refused.{not-accepted}
use Rattle.machine.specs.Wire as Wire
use Rattle.wire.specs.declared.Head.{Head}
use Rattle.wire.specs.Asked.{asked}
use Rattle.wire.specs.declared.Call.TheVariants.{Round}
use Rattle.book.specs.declared.Book.{Book}
use Rattle.book.specs.declared.Stage.TheVariants.{Bidding, After}
use Rattle.book.specs.Stages.{round_of, next_round}
use Rattle.book.specs.Books.{any_open_in, round_book, sale_book}
use Rattle.refusals.specs.Answers.{head_answer}
use Rattle.case.specs.declared.Case.{Case}
use Rattle.case.specs.declared.Outcome.{Outcome}
use Rattle.case.specs.Cases.{Held, case_in}
use Rattle.case.specs.declared.Applied.{Applied}
use Rattle.case.specs.Cases.{case_of, case_answer, case_answer_to, first_answer, first_answer_to, answer_to, new_case, case_after, after_asked, no_held, reserve_if, reserves_answer, head_outcome, outcome_of, take_asked}

-- ---- a call as a method

abbrev outcome : ℕ → Case → Case → Outcome
outcome n old new = record { answer = n; case = when eqb n 0 then new else old }

-- what is held after an answer
abbrev after-answer : ℕ → Held → Held → Applied
after-answer n old new = record { answer = n; held = when eqb n 0 then new else old }

module _ (c : Case) (a : Option Wire.Call) where
  pub declined : (r : Refusal) → number_of r ≡ case_answer_to c a → (o : Outcome) → o ≡ record { answer = number_of r; case = c } → o ≡ outcome_of c a
  unfolding outcome_of
  declined r e o is = is ∙ go ∙ ap (λ (k : ℕ). outcome k c (after_asked c a)) e
    where
      go : ◌≡◌ {A = Outcome} (record { answer = number_of r; case = c }) (outcome (number_of r) c (after_asked c a))
      go = rw (ne_eqb (number_of r) 0 (not-accepted r))

  pub accepted : 0 ≡ case_answer_to c a → (d : Case) → d ≡ after_asked c a → (o : Outcome) → o ≡ record { answer = 0; case = d } → o ≡ outcome_of c a
  unfolding outcome_of
  accepted e d f o is = is ∙ ap (λ (x : Case). outcome 0 c x) f ∙ ap (λ (k : ℕ). outcome k c (after_asked c a)) e

  -- the case that an accepted call hands back, where only a method of the case can have taken it
  pub handed : (first_answer_to a ≡ 0 → ⊥) → (d : Case) → d ≡ (outcome_of c a).case → (present : Bool)
      → (when present then case_answer_to c a else first_answer_to a) ≡ 0 → d ≡ after_asked c a
  unfolding outcome_of
  handed later d is true e = is ∙ rw (eq-eqb (case_answer_to c a) 0 e)
  handed later d is false e = absurd (later e)

-- ---- a call that is taken

module _ (h : Held) (a : Option Wire.Call) where
  pub take-declined : (r : Refusal) → number_of r ≡ answer_to h a → ◌≡◌ {A = Applied} (record { answer = number_of r; held = h }) (take_asked h a)
  unfolding take_asked
  take-declined r answered = go ∙ ap (λ (k : ℕ). after-answer k h (Some (after_asked (case_in h) a))) answered
    where
      go : ◌≡◌ {A = Applied} (record { answer = number_of r; held = h }) (after-answer (number_of r) h (Some (after_asked (case_in h) a)))
      go = rw (ne_eqb (number_of r) 0 (not-accepted r))

  pub take-accepted : 0 ≡ answer_to h a → (d : Case) → d ≡ after_asked (case_in h) a
      → ◌≡◌ {A = Applied} (record { answer = 0; held = Some d }) (take_asked h a)
  unfolding take_asked
  take-accepted answered d f =
      ap (λ (x : Case). after-answer 0 h (Some x)) f
      ∙ ap (λ (k : ℕ). after-answer k h (Some (after_asked (case_in h) a))) answered

-- ---- the reserves of ROUND

-- reserve i of n, and 0 behind the last
reserve-at : (n i : ℕ) (xs : List ℕ) → get_or (take n xs) i 0 ≡ reserve_if n i (get_or xs i 0)
reserve-at n i xs =
    by-test (λ (v : ℕ). get_or (take n xs) i 0 ≡ v) (ltb i n)
    (λ t. get_or-take n xs i 0 (ltb-true i n t))
    (λ f. get_or-eq_default (take n xs) 0 {n = i} (omega (arith, ltb-false i n f, length-take n xs)))

module _ (c : Case) (n p q r s : ℕ) where
  abbrev reserves : List ℕ
  reserves = p ∷ q ∷ r ∷ s ∷ []

  few : between 1 4 n ≡ true → length (take n reserves) ≡ n
  few t = length-take n reserves ∙ min-eq_left (leb-true n 4 (and_right (leb 1 n) (leb n 4) t))

  pub reserves-answered : reserves_answer c n p q r s ≡ case_answer_to c (asked (Round n p q r s))
  unfolding reserves_answer case_answer_to case_answer asked
  reserves-answered =
      cases (between 1 4 n) _
      (λ t. rw (t, few t, reserve-at n 0 reserves, reserve-at n 1 reserves, reserve-at n 2 reserves, reserve-at n 3 reserves))
      (λ t. rw t)

  -- an accepted one has one to four
  pub reserves-after : case_answer_to c (asked (Round n p q r s)) ≡ 0
      → case_of (Bidding (next_round (round_of c.stage))) (round_book c.book (reserve_if n 0 p) (reserve_if n 1 q) (reserve_if n 2 r) (reserve_if n 3 s))
      ≡ after_asked c (asked (Round n p q r s))
  unfolding case_answer_to after_asked case_after asked
  reserves-after e = go (between 1 4 n) refl e
    where
      go : (b : Bool) → between 1 4 n ≡ b → case_answer_to c (when b then some (Wire.ROUND (take n reserves)) else none) ≡ 0
          → case_of (Bidding (next_round (round_of c.stage))) (round_book c.book (reserve_if n 0 p) (reserve_if n 1 q) (reserve_if n 2 r) (reserve_if n 3 s))
          ≡ after_asked c (when b then some (Wire.ROUND (take n reserves)) else none)
      go true t e = rw (reserve-at n 0 reserves, reserve-at n 1 reserves, reserve-at n 2 reserves, reserve-at n 3 reserves)
      go false t e = let z : ◌≡◌ {A = ℕ} 1 0 = e in absurd (omega arith)

-- where no case is held, ROUND is answered 1 or 2
pub round-first : (n p q r s : ℕ) → ◌≡◌ {A = ℕ} (when not (between 1 4 n) then 1 else 2) (first_answer_to (asked (Round n p q r s)))
unfolding first_answer_to first_answer asked
round-first n p q r s = cases (between 1 4 n) _ (λ t. rw t) (λ t. rw t)

pub round-later : (n p q r s : ℕ) → first_answer_to (asked (Round n p q r s)) ≡ 0 → ⊥
round-later n p q r s e =
    let z : ◌≡◌ {A = ℕ} (when not (between 1 4 n) then 1 else 2) 0 = round-first n p q r s ∙ e in
    either (λ (k : ℕ). (k ≡ 0) → ⊥) (not (between 1 4 n)) (λ x. omega arith) (λ x. omega arith) z

-- ---- HEAD

pub head-declined : (h : Head) (r : Refusal) → number_of r ≡ head_answer h → (k : Held) → k ≡ no_held
    → ◌≡◌ {A = Applied} (record { answer = number_of r; held = k }) (head_outcome h)
unfolding head_outcome
head-declined h r e k is = rw (ne_eqb (head_answer h) 0 (λ z. not-accepted r (e ∙ z)), e, is)

pub head-accepted : (h : Head) → 0 ≡ head_answer h → (c : Case) → c ≡ new_case h
    → ◌≡◌ {A = Applied} (record { answer = 0; held = Some c }) (head_outcome h)
unfolding head_outcome
head-accepted h e c is = let a : head_answer h ≡ 0 = sym e in rw (a, is)

-- ---- SALE

module _ (c : Case) (pool m price : ℕ) (b : Book) (is : b ≡ sale_book c.book pool m price) (any : Bool) (found : any ≡ any_open_in b) where
  -- a unit is open after it
  pub sale-open : any ≡ true → case_of c.stage b ≡ case_after c (Wire.SALE pool m price)
  unfolding case_after
  sale-open t = rw (← is) (rw (sym found ∙ t))

  -- none is
  pub sale-shut : any ≡ false → case_of (After 1) b ≡ case_after c (Wire.SALE pool m price)
  unfolding case_after
  sale-shut t = rw (← is) (rw (sym found ∙ t))
