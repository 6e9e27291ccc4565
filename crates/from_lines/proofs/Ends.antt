-- The end of the run: the last line, and the shares. Assumes nothing.
use Rattle.std.proofs.Common.{Some, None, Result, Ok, Err, ◌≡◌, ℕ, suc, ◌+◌, ◌-◌, ◌≤◌, Bool, true, false, eqb, List, [], ◌++◌, length, take, drop, sym, refl, ap, ◌∙◌, append-nil, arith, length-take, eq-eqb, ne_eqb, eqb-true}
use mathlib.Core.Bool.{false≢true}
use Rattle.std.specs.Result.{is_ok, is_err}
use lib.Seq.{drop-length}
use borrow.Author.Tests.{eqb-false}
use Rattle.lists.specs.Lists.{all, any, joined}
use Rattle.lists.proofs.Bools.{cases}
use Rattle.lists.specs.declared.refusal.Refusal.{Refusal}
use Rattle.lists.specs.Refusals.{number_of, answer_of}
use Rattle.lists.proofs.Refused.{not-accepted}
use Rattle.splitting.specs.Limits.{Answer}
use Rattle.input.specs.Strings.{bytes_of}
use Rattle.input.specs.Pieces.{pieces, all_pieces}
use Rattle.input.proofs.Pieces.{fields-chunk, front-none, front-next, bytes_most, left-stop}
use Rattle.forms.proofs.Puts.{joined-map-two}
use Rattle.translation.proofs.Writing.{put_front}
use Rattle.text_lines.specs.Lines.{line_size, lines_of}
use Rattle.text_lines.proofs.Parts.{good-most, taken-good, each-good, last-size, lines_then, lines-taken, stop-refused, any-then}
use Rattle.rows.specs.declared.Part.{Part}
use Rattle.rows.specs.Days.{refused_day, record_of, day_size, WritesDays}
use Rattle.positions.specs.Days.{days_of, in_range, why_before, why_run, expected_units}
use Rattle.positions.specs.Keeping.{Kept, no_days, Taken, taken, ended}
use Rattle.positions.proofs.Parts.{first-days}
use Rattle.positions.proofs.Records.{taken-bad}
use Rattle.positions.proofs.Whole.{ready-some, used-is, why-none, whole-end}
use Rattle.from_lines.specs.Turns.{TakesDays, count, records, good_lines, rest, Holds, FedTo, any_refused, Given, nothing_or, lines_give, Finishes, Gives}
use Rattle.from_lines.proofs.Turning.{leads-whole, holds-some, holds_then}

-- ---- a call is accepted where its answer is 0

pub accepted-is : (r : Result (Unit {0}) Refusal) → is_ok r ≡ eqb (answer_of r) 0
accepted-is (Ok u) = refl
accepted-is (Err e) = sym (ne_eqb (number_of e) 0 (not-accepted e))

pub declined-some : (r : Result (Unit {0}) Refusal) → is_err r ≡ true → answer_of r ≡ 0 → ⊥
declined-some (Ok u) h z = false≢true h
declined-some (Err e) h z = not-accepted e z

pub declined-none : (r : Result (Unit {0}) Refusal) → is_err r ≡ false → answer_of r ≡ 0
declined-none (Ok u) h = refl
declined-none (Err e) h = absurd (false≢true (sym h))

module _ (set units : ℕ) where
  abbrev n : ℕ
  n = count set

  -- ---- the end of a run is the answer to the whole run, and that is 0

  module _ (bytes shares : List ℕ) (y : Kept) (ready : why_before (count set) units ≡ 0) (h : Holds (count set) bytes y) where
    whole : taken n no_days 0 (days_of n bytes) ≡ record { kept = y; used = length bytes; answer = 0 }
    whole = sym (first-days n (ready-some n units ready) bytes) ∙ h

    none-bad : (taken n no_days 0 (days_of n bytes)).answer ≡ 0
    none-bad = ap (λ (t : Taken). t.answer) whole

    holds-end : ended set units 0 y.sums shares ≡ expected_units set units bytes shares
    holds-end =
        ap (λ (k : ℕ). ended set units k y.sums shares) {x = 0} {y = length bytes - length bytes} (omega arith)
        ∙ ap (λ (t : Taken). ended set units (length bytes - t.used) t.kept.sums shares) (sym whole)
        ∙ whole-end set units bytes shares ready none-bad

    holds-why : why_run n units bytes ≡ 0
    holds-why =
        why-none n (ready-some n units ready) bytes units ready
        (cases (all in_range (days_of n bytes)) (all in_range (days_of n bytes) ≡ true) (λ t. t) (λ f. absurd (omega (arith, none-bad, taken-bad n no_days 0 (days_of n bytes) f))))
        (omega (arith, ap (λ (t : Taken). t.used) whole, used-is set units bytes shares ready none-bad))

    holds-given : (a : ℕ) (shares' : List ℕ) → ◌≡◌ {A = Answer} (a, shares') (ended set units 0 y.sums shares)
        → ◌≡◌ {A = Given} (eqb a 0, shares') (true, (expected_units set units bytes shares).1)
    unfolding expected_units
    holds-given a shares' e =
        let is : ◌≡◌ {A = Answer} (a, shares') (expected_units set units bytes shares) = e ∙ holds-end in
        let zero_is : a ≡ 0 = ap (λ (p : Answer). p.0) is ∙ holds-why in
        ap (λ (b : Bool). (b, shares')) (eq-eqb a 0 zero_is) ∙ ap (λ (l : List ℕ). (true, l)) (ap (λ (p : Answer). p.1) is)

  -- ---- the lines that are left

  module _ (left out new : List ℕ) (r : Part) (w : WritesDays (count set) true left out new r) where
    abbrev good : List ℕ → ℕ
    good = day_size n true

    abbrev ps : List (List ℕ)
    ps = pieces good r.count left

    -- where no line is all there, a last line that is good is taken as a whole
    last_taken : line_size false left ≡ 0 → 128 ≤ length out → (good left ≡ 0 → ⊥) → r.used ≡ length left
    unfolding bytes_of
    last_taken unended room some =
        let all-of-it : good left ≡ length left = (taken-good (refused_day n) true left some).0 ∙ last-size (refused_day n) left unended in
        let counted : r.count ≡ 0 → ⊥ = λ z. some (w.some room z) in
        let there : r.count ≡ suc (r.count - 1) = omega arith in
        let first : bytes_of ps ≡ length (take (good left) left) + bytes_of (pieces good (r.count - 1) (drop (good left) left)) =
        ap (λ (k : ℕ). bytes_of (pieces good k left)) there ∙ ap bytes_of (front-next good (good-most (refused_day n) true) (r.count - 1) left some) in
        omega (arith, w.bytes, first, all-of-it, length-take (good left) left, bytes_most good (good-most (refused_day n) true) r.count left)

    -- the line is refused
    pub finish-not : (shares : List ℕ) (x : Kept) → line_size false left ≡ 0 → 128 ≤ length out → (r.used ≡ length left → ⊥) → Finishes set units left x shares shares false
    unfolding bytes_of
    finish-not shares x unended room not-all run h =
        let none-good : good left ≡ 0 =
        cases (eqb (good left) 0) (good left ≡ 0) (eqb-true (good left) 0) (λ e. absurd (not-all (last_taken unended room (eqb-false (good left) 0 e)))) in
        let none-used : r.used ≡ 0 = w.bytes ∙ ap bytes_of (front-none good (good-most (refused_day n) true) r.count left none-good) in
        let bad : any_refused n left ≡ true =
        stop-refused (refused_day n) true left none-good (λ z. not-all (none-used ∙ sym (sym (last-size (refused_day n) left unended) ∙ z))) in
        ap (λ (b : Bool). nothing_or b set units (run ++ records n (lines_of left)) shares) (sym bad)

    -- it is taken
    pub finish-done : (bytes shares shares' : List ℕ) (x y : Kept) (a : ℕ) → why_before (count set) units ≡ 0 → r.used ≡ length left
        → bytes ≡ take r.written new → TakesDays (count set) x bytes y
        → ◌≡◌ {A = Answer} (a, shares') (ended set units 0 y.sums shares) → Finishes set units left x shares shares' (eqb a 0)
    unfolding pieces any
    finish-done bytes shares shares' x y a ready all-used lent took e run h =
        let none_left : drop (bytes_of ps) left ≡ [] = ap (λ (k : ℕ). drop k left) (sym w.bytes ∙ all-used) ∙ drop-length left in
        let same : all_pieces good left ≡ ps =
        fields-chunk good (good-most (refused_day n) true) r.count left ∙ ap (λ (l : List ℕ). ps ++ all_pieces good l) none_left ∙ append-nil ps in
        let lines : lines_of left ≡ ps =
        lines-taken (refused_day n) left (ap (λ (qs : List (List ℕ)). drop (bytes_of qs) left) same ∙ none_left) ∙ same in
        let is : bytes ≡ records n ps = lent ∙ put_front (records n ps) out new r.written w.put in
        let none-bad : any_refused n left ≡ false =
        any-then (refused_day n) true left
        ∙ ap (λ (l : List ℕ). any_refused n l) (ap (λ (qs : List (List ℕ)). drop (bytes_of qs) left) same ∙ none_left) in
        let leads = leads-whole n x y bytes ps is (each-good (refused_day n) true r.count left) took (holds-some n run x h) in
        holds-given (run ++ bytes) shares y ready (holds_then n run bytes x y h leads) a shares' e
        ∙ ap (λ (s : List ℕ). (true, (expected_units set units (run ++ s) shares).1)) (is ∙ ap (records n) (sym lines))
        ∙ ap (λ (b : Bool). nothing_or b set units (run ++ records n (lines_of left)) shares) (sym none-bad)

  -- ---- the end

  -- a run that is not declined before it begins
  pub ready : (k before : ℕ) → k ≡ count set → before ≡ why_before k units → before ≡ 0 → (why_before (count set) units ≡ 0) × (1 ≤ count set)
  ready k before ke be z =
      let e : why_before (count set) units ≡ 0 = ap (λ (j : ℕ). why_before j units) (sym ke) ∙ sym be ∙ z in
      (e, ready-some (count set) units e)

  -- one that is
  pub gives-declined : (shares : List ℕ) (k before : ℕ) → k ≡ count set → before ≡ why_before k units → (before ≡ 0 → ⊥)
      → Gives set units shares shares (Some false)
  unfolding joined lines_give
  gives-declined shares k before ke be not-ready =
      record {
        parts = [];
        bytes = tt;
        is = rw (ne_eqb (why_before n units) 0 (λ z. not-ready (be ∙ ap (λ (j : ℕ). why_before j units) ke ∙ z))) refl;
      }

  pub gives-unknown : (shares : List ℕ) → Gives set units shares shares None
  unfolding joined
  gives-unknown shares = record { parts = []; bytes = tt; is = refl }

  module _ (ready : why_before (count set) units ≡ 0) where
    -- what is left behind the lines that were taken decides
    lines_left : (text shares : List ℕ) → nothing_or (any_refused n (rest n text)) set units (records n (good_lines n text) ++ records n (lines_of (rest n text))) shares ≡ lines_give set units text shares
    unfolding lines_give
    lines_left text shares =
        ap (λ (b : Bool). nothing_or b set units (records n (good_lines n text) ++ records n (lines_of (rest n text))) shares) (sym (any-then (refused_day n) false text))
        ∙ ap (λ (s : List ℕ). nothing_or (any_refused n text) set units s shares)
        (sym (joined-map-two (record_of n) (good_lines n text) (lines_of (rest n text))) ∙ ap (records n) (sym (lines_then (refused_day n) false text)))
        ∙ rw (eq-eqb (why_before n units) 0 ready) refl

    pub gives-refused : (buf shares : List ℕ) (x : Kept) (lines len : ℕ) (refused : Bool) → FedTo (count set) buf lines x refused len → refused ≡ true
        → Gives set units shares shares (Some false)
    gives-refused buf shares x lines len refused f stopped =
        let text = joined f.parts in
        let there : line_size false (rest n text) ≡ 0 → ⊥ = λ z. false≢true (sym (sym stopped ∙ f.is.stops ∙ rw z refl)) in
        let bad : any_refused n (rest n text) ≡ true =
        stop-refused (refused_day n) false (rest n text) (left-stop (day_size n false) (good-most (refused_day n) false) text) there in
        record {
          parts = f.parts;
          bytes = f.bytes;
          is =
              ap (λ (b : Bool). nothing_or b set units (records n (good_lines n text) ++ records n (lines_of (rest n text))) shares) (sym bad) ∙ lines_left text shares;
        }

    pub gives-end : (buf kept shares shares' : List ℕ) (x : Kept) (lines len : ℕ) (refused r : Bool) → FedTo (count set) buf lines x refused len → kept ≡ take len buf
        → Finishes set units kept x shares shares' r → Gives set units shares shares' (Some r)
    gives-end buf kept shares shares' x lines len refused r f lends end =
        let text = joined f.parts in
        record {
          parts = f.parts;
          bytes = f.bytes;
          is =
              end (records n (good_lines n text)) f.is.holds
              ∙ ap (λ (s : List ℕ). nothing_or (any_refused n s) set units (records n (good_lines n text) ++ records n (lines_of s)) shares) (lends ∙ f.kept)
              ∙ lines_left text shares;
        }
