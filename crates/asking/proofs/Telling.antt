-- The texts of answers and refusals piece by piece, and what is told. Assumes nothing.
use mathlib.Core.Path.{◌≡◌, refl, sym, ap, ◌∙◌}
use mathlib.Core.Bool.{Bool, true, false}
use mathlib.Core.List.{List, [], ◌∷◌, ◌++◌}
use Prim.Native.Nat.{ℕ, ◌≤◌, ◌<◌}
use native.Mathlib.Omega.{arith}
use lib.ListN.{length}
use borrow.Author.Tests.{eq-eqb, ne_eqb, le-leb, lt-leb}
use Rattle.machine.specs.Printed.{decimal}
use Rattle.lines.specs.Placed.{Placed, placed}
use Rattle.lines.proofs.Decimals.{decimal-le}
use Rattle.forms.specs.Put.{Put, Written as Stored}
use Rattle.forms.proofs.Puts.{put_then, put_as, put-into, put-placed}
use Rattle.std.specs.Prelude.{Result, Ok, Err}
use Rattle.case.specs.Readings.{reading_in}
use Rattle.case.specs.Cases.{no_held}
use Rattle.spelling.specs.Text.{money_text, money_into}
use Rattle.spelling.proofs.Texts.{money-short}
use Rattle.asking.specs.declared.Question.{Question}
use Rattle.asking.specs.declared.Question.TheVariants.{Requirement, Unknown}
use Rattle.asking.specs.declared.Rest.{Rest}
use Rattle.asking.specs.declared.Told.{Told}
use Rattle.asking.specs.Questions.{requirement_word}
use Rattle.asking.specs.Answers.{refused_words, no_case, cut_text, usage_text, requirement_text, sentence, refused_by, refusal_text, Said, reading_said, said_to, said_at, Written, told_into, Runs}
use Rattle.case_feed.proofs.Turning.{fed-none}

-- ---- texts

pub requirement-put : {old o1 o2 new : List ℕ} {p1 p2 r : ℕ} (cents : ℕ) → 128 ≤ length old
    → ◌≡◌ {A = Placed} (p1, o1) (placed (requirement_word ++ (32 ∷ [])) old 0)
    → ◌≡◌ {A = Stored} (p2, o2) (money_into cents o1 p1)
    → ◌≡◌ {A = Placed} (r, new) (placed (10 ∷ []) o2 p2)
    → Put old 0 (requirement_text cents) 128 r new
unfolding requirement_text
requirement-put cents room a b c =
    let first = put-placed 12 (requirement_word ++ (32 ∷ [])) (omega arith) (omega arith) a in
    let money = put-into 23 (money_text cents) (money-short cents) (omega (arith, first.behind, first.short, first.same)) b in
    let last = put-placed 1 (10 ∷ []) (omega arith) (omega (arith, first.behind, first.short, first.same, money.behind, money.short, money.same)) c in
    put_as 128 (omega arith) refl (put_then (requirement_word ++ (32 ∷ [])) (money_text cents ++ (10 ∷ [])) first (put_then (money_text cents) (10 ∷ []) money last))

module _ (n : ℕ) where
  pub sentence-case : n ≡ 2 → no_case ≡ sentence n
  unfolding sentence
  sentence-case h = rw (eq-eqb n 2 h)

  pub sentence-none : (n ≡ 2 → ⊥) → [] ≡ sentence n
  unfolding sentence
  sentence-none h = rw (ne_eqb n 2 h)

-- the refusal up to its sentence
pub refused-put : {old o1 o2 o3 : List ℕ} {p1 p2 p3 : ℕ} (n : ℕ) → 128 ≤ length old
    → ◌≡◌ {A = Placed} (p1, o1) (placed refused_words old 0)
    → ◌≡◌ {A = Placed} (p2, o2) (placed (decimal 20 n) o1 p1)
    → ◌≡◌ {A = Placed} (p3, o3) (placed (58 ∷ 32 ∷ []) o2 p2)
    → Put old 0 (refused_by n) 35 p3 o3
unfolding refused_by
refused-put n room a b c =
    let first = put-placed 13 refused_words (omega arith) (omega arith) a in
    let number = put-placed 20 (decimal 20 n) (decimal-le 20 n) (omega (arith, first.behind, first.short, first.same, decimal-le 20 n)) b in
    let last = put-placed 2 (58 ∷ 32 ∷ []) (omega arith) (omega (arith, first.behind, first.short, first.same, number.behind, number.short, number.same)) c in
    put_as 35 (omega arith) refl (put_then refused_words (decimal 20 n ++ (58 ∷ 32 ∷ [])) first (put_then (decimal 20 n) (58 ∷ 32 ∷ []) number last))

pub refusal-put : {old o3 o4 new : List ℕ} {p3 p4 r : ℕ} (n : ℕ) → 128 ≤ length old
    → Put old 0 (refused_by n) 35 p3 o3 → Put o3 p3 (sentence n) 64 p4 o4 → ◌≡◌ {A = Placed} (r, new) (placed (10 ∷ []) o4 p4)
    → Put old 0 (refusal_text n) 128 r new
unfolding refusal_text
refusal-put n room a b c =
    let last = put-placed 1 (10 ∷ []) (omega arith) (omega (arith, a.behind, a.short, a.same, b.behind, b.short, b.same)) c in
    put_as 128 (omega arith) refl (put_then (refused_by n) (sentence n ++ (10 ∷ [])) a (put_then (sentence n) (10 ∷ []) b last))

-- ---- what is told

pub told : {out out' : List ℕ} {n : ℕ} (good : Bool) (text : List ℕ) → 128 ≤ length out → Put out 0 text 128 n out'
    → ◌≡◌ {A = Written} (record { good = good; len = n }, out') (told_into (good, text) out)
unfolding told_into
told {out} {n = n} good text room p =
    let e : n ≡ length text = omega (arith, p.behind) in
    rw (le-leb 128 (length out) room) (λ i. (record { good = good; len = e i }, p.stored i))

pub told_none : (said : Said) (out : List ℕ) → length out < 128 → ◌≡◌ {A = Written} (record { good = false; len = 0 }, out) (told_into said out)
unfolding told_into
told_none said out h = rw (lt-leb 128 (length out) h)

-- the same said in another way
pub told-as : {r : Told} {out' : List ℕ} {s t : Said} (out : List ℕ) → s ≡ t → ◌≡◌ {A = Written} (r, out') (told_into s out) → ◌≡◌ {A = Written} (r, out') (told_into t out)
told-as out e is = is ∙ ap (λ (s : Said). told_into s out) e

pub reading-refused : (r : Result ℕ ℕ) (n : ℕ) → r ≡ Err n → (false, refusal_text n) ≡ reading_said r
unfolding reading_said
reading-refused r n e = rw e

pub reading-answered : (r : Result ℕ ℕ) (cents : ℕ) → r ≡ Ok cents → (true, requirement_text cents) ≡ reading_said r
unfolding reading_said
reading-answered r cents e = rw e

-- ---- what is said of what was read

module _ (q : Question) (r : Rest) where
  pub at-failed : r.ended ≡ false → (false, []) ≡ said_at q r
  unfolding said_at
  at-failed e = rw e

  pub at_cut : r.ended ≡ true → (r.len ≡ 0 → ⊥) → (false, cut_text) ≡ said_at q r
  unfolding said_at
  at_cut e some = rw (e, ne_eqb r.len 0 some)

  at-end : r.ended ≡ true → r.len ≡ 0 → said_to q r.held ≡ said_at q r
  unfolding said_at
  at-end e none_left = rw (e, eq-eqb r.len 0 none_left)

  pub at-requirement : r.ended ≡ true → r.len ≡ 0 → q ≡ Requirement → (reading : Result ℕ ℕ) → reading ≡ reading_in r.held → reading_said reading ≡ said_at q r
  unfolding said_to
  at-requirement e none_left asked reading is = ap reading_said is ∙ ap (λ (p : Question). said_to p r.held) (sym asked) ∙ at-end e none_left

  pub at-unknown : r.ended ≡ true → r.len ≡ 0 → q ≡ Unknown → (false, usage_text) ≡ said_at q r
  unfolding said_to
  at-unknown e none_left asked = ap (λ (p : Question). said_to p r.held) (sym asked) ∙ at-end e none_left

-- where there is no question nothing is read
pub runs-unknown : {out' : List ℕ} {r : Told} (q : Question) (out : List ℕ) → q ≡ Unknown
    → ◌≡◌ {A = Written} (r, out') (told_into (false, usage_text) out) → Runs q out out' r
runs-unknown q out asked is =
    let read : Rest = record { held = no_held; len = 0; ended = true } in
    record { read = read; kept = []; fed = fed-none [] no_held refl; is = told-as out (at-unknown q read refl refl asked) is }
