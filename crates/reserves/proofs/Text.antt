-- Document 02, C-17, of the printed text: a text without the rank and the charge on contribution of its m lines is made of the lines, each without these; and the
-- lines of two lists of calls that are the same but for reserves are then the same. Assumes nothing.
use mathlib.Core.Path.{◌≡◌, refl, sym, ap, ◌∙◌}
use mathlib.Core.Bool.{Bool, true, false, ◌&&◌, ◌||◌}
use mathlib.Core.List.{List, [], ◌∷◌, ◌++◌, append_assoc, append-nil, map, map-map}
use mathlib.Core.Option.{none, some}
use Prim.Native.Nat.{ℕ, zero, suc, ◌+◌, ◌/◌, ◌%◌}
use native.Mathlib.Omega.{arith}
use lib.Dec.{eqb, ltb}
use lib.ListN.{length, take}
use lib.Seq.{take-length}
use borrow.Author.Tests.{ne_eqb}
use Rattle.lists.specs.Lists.{when◌then◌else◌, joined, tab}
use Rattle.lists.proofs.Bools.{either}
use Rattle.lists.proofs.Each.{Each, each_append, each-always, each_map, each-tab, map-append}
use Rattle.machine.specs.State.{Case, State, the_case, letter_of, is_f, member_list}
use Rattle.machine.specs.Requirement.{requirement, contributions}
use Rattle.machine.specs.Result.{payments, limits, six_charges, charge, uncovered_rest, on_payments}
use Rattle.machine.specs.Machine.{step}
use Rattle.machine.specs.Run.{MemberResult, Observed, observed, observed_from, run, run_from, result_of}
use Rattle.machine.specs.Printed.{Line, s_line, p_line, l_line, m_line, end_lines, lines_from, decimal, numbers_text, text}
use Rattle.reserves.specs.Reserves.{SameAtClose, answers_to, without_reserves, state_without}
use Rattle.reserves.specs.Text.{left_out, text_from, text_outside}
use Rattle.reserves.proofs.Alike.{Alike, same-tags, same-answers, same-states}

-- ---- a word

-- a byte that is part of a word: no space and no line's end
abbrev InWord : ℕ → Type 0
InWord b = (eqb b 10 ≡ false) × (eqb b 32 ≡ false)

digits : (k n : ℕ) → Each InWord (decimal k n)
unfolding decimal
digits zero n = tt
digits (suc k) n =
    let d = 48 + n % 10 in
    each_append InWord (when ltb n 10 then [] else decimal k (n / 10)) (d ∷ [])
    (either (Each InWord) (ltb n 10) tt (digits k (n / 10)))
    ((ne_eqb d 10 (λ e. omega arith), ne_eqb d 32 (λ e. omega arith)), tt)

-- what is shown of a word behind the letter
abbrev shown_word : Bool → ℕ → List ℕ → List ℕ
shown_word is_m w s = when left_out is_m w then [] else s

word-shown : (is_m : Bool) (w : ℕ) (ds rest : List ℕ) → Each InWord ds
    → text_from is_m (suc w) (ds ++ rest) ≡ shown_word is_m (suc w) ds ++ text_from is_m (suc w) rest
unfolding text_from
word-shown is_m w [] rest in-word = either (λ s. text_from is_m (suc w) rest ≡ s ++ text_from is_m (suc w) rest) (left_out is_m (suc w)) refl refl
word-shown is_m w (d ∷ ds) rest in-word =
    rw (in-word.0.0, in-word.0.1, stays is_m) (go (left_out is_m (suc w)) (word-shown is_m w ds rest in-word.1))
  where
    -- the letter alone says whether it is an m line
    stays : (b : Bool) → (b || (eqb (suc w) 0 && eqb d 109)) ≡ b
    stays true = refl
    stays false = rw (ne_eqb (suc w) 0 (λ e. omega arith))

    go : (b : Bool) → text_from is_m (suc w) (ds ++ rest) ≡ (when b then [] else ds) ++ text_from is_m (suc w) rest
        → (when b then text_from is_m (suc w) (ds ++ rest) else d ∷ text_from is_m (suc w) (ds ++ rest)) ≡ (when b then [] else d ∷ ds) ++ text_from is_m (suc w) rest
    go true e = e
    go false e = ap (λ (s : List ℕ). d ∷ s) e

-- ---- a line

-- what is shown of numbers behind word w
abbrev shown_numbers : Bool → ℕ → List ℕ → List ℕ
shown_numbers is_m w [] = 10 ∷ []
shown_numbers is_m w (n ∷ ns) = 32 ∷ shown_word is_m (suc w) (decimal 20 n) ++ shown_numbers is_m (suc w) ns

numbers-shown : (is_m : Bool) (w : ℕ) (ns rest : List ℕ) → text_from is_m w (numbers_text ns ++ rest) ≡ shown_numbers is_m w ns ++ text_outside rest
unfolding text_from numbers_text
numbers-shown is_m w [] rest = refl
numbers-shown is_m w (n ∷ ns) rest =
    ap (λ (s : List ℕ). 32 ∷ s)
    (ap (λ (s : List ℕ). text_from is_m (suc w) s) (append_assoc (decimal 20 n) (numbers_text ns) rest)
    ∙ word-shown is_m w (decimal 20 n) (numbers_text ns ++ rest) (digits 20 n)
    ∙ ap (λ (s : List ℕ). shown_word is_m (suc w) (decimal 20 n) ++ s) (numbers-shown is_m (suc w) ns rest)
    ∙ sym (append_assoc (shown_word is_m (suc w) (decimal 20 n)) (shown_numbers is_m (suc w) ns) (text_outside rest)))

abbrev shown_line : Line → List ℕ
shown_line l = l.letter ∷ shown_numbers (eqb l.letter 109) 0 l.numbers

-- ---- a text

-- each line begins with a letter
abbrev Lettered : Line → Type 0
Lettered l = InWord l.letter

line-shown : (l : Line) (rest : List ℕ) → Lettered l → text_outside (l.letter ∷ numbers_text l.numbers ++ rest) ≡ shown_line l ++ text_outside rest
unfolding text_from left_out
line-shown l rest lettered = rw (lettered.0, lettered.1) (ap (λ (s : List ℕ). l.letter ∷ s) (numbers-shown (eqb l.letter 109) 0 l.numbers rest))

text-shown : (ls : List Line) → Each Lettered ls → text_outside (text ls) ≡ joined (map shown_line ls)
unfolding text_from text joined
text-shown [] each = refl
text-shown (l ∷ ls) each = line-shown l (text ls) each.0 ∙ ap (λ (s : List ℕ). shown_line l ++ s) (text-shown ls each.1)

-- ---- what is left out

-- nothing of lines that are no m lines
numbers-whole : (w : ℕ) (ns : List ℕ) → shown_numbers false w ns ≡ numbers_text ns
unfolding numbers_text left_out
numbers-whole w [] = refl
numbers-whole w (n ∷ ns) = ap (λ (s : List ℕ). 32 ∷ decimal 20 n ++ s) (numbers-whole (suc w) ns)

pub others-whole : (ls : List Line) → Each (λ l. Lettered l × (eqb l.letter 109 ≡ false)) ls → text_outside (text ls) ≡ text ls
unfolding text_from text
others-whole [] each = refl
others-whole (l ∷ ls) each =
    let whole : shown_line l ≡ l.letter ∷ numbers_text l.numbers = rw each.0.1 (ap (λ (s : List ℕ). l.letter ∷ s) (numbers-whole 0 l.numbers)) in
    line-shown l (text ls) each.0.0 ∙ (λ i. whole i ++ others-whole ls each.1 i)

-- of an m line the rank and the charge on contribution, and nothing else
abbrev pub member_shown : ℕ → ℕ → List ℕ
member_shown m on_payments = 109 ∷ 32 ∷ decimal 20 m ++ (32 ∷ 32 ∷ 32 ∷ decimal 20 on_payments ++ (10 ∷ []))

pub member-line : (x : MemberResult) → text_outside (text (m_line x ∷ [])) ≡ member_shown x.member x.on_payments
unfolding text_from left_out text m_line
member-line x = line-shown (m_line x) [] (refl, refl) ∙ append-nil (member_shown x.member x.on_payments)

-- ---- the lines of a run

-- the s lines, by the fields' first bytes and the answers
abbrev s_lines : List (List ℕ) → List ℕ → List Line
s_lines [] ns = []
s_lines (tag ∷ tags) [] = []
s_lines (tag ∷ tags) (n ∷ ns) = record { letter = 115; numbers = tag ++ (n ∷ []) } ∷ s_lines tags ns

lines_are : (s : State) (calls : List (List ℕ))
    → lines_from s calls ≡ s_lines (map (take 1) calls) (map (λ (o : Observed). o.answer) (observed_from s calls)) ++ end_lines (run_from s calls)
unfolding lines_from s_line observed_from observed run_from
lines_are s [] = refl
lines_are s (call ∷ calls) = ap (λ (ls : List Line). s_line call (step s call).answer ∷ ls) (lines_are (step s call).state calls)

s_lines-lettered : (tags : List (List ℕ)) (ns : List ℕ) → Each Lettered (s_lines tags ns)
s_lines-lettered [] ns = tt
s_lines-lettered (tag ∷ tags) [] = tt
s_lines-lettered (tag ∷ tags) (n ∷ ns) = ((refl, refl), s_lines-lettered tags ns)

end-lettered : (s : State) → Each Lettered (end_lines s)
unfolding end_lines p_line l_line m_line
end-lettered s =
    let c = the_case s in
    each_append Lettered (tab (length c.pools) (p_line c)) _ (each-tab Lettered (length c.pools) (p_line c) (λ k l. (refl, refl)))
    (either (Each Lettered) (is_f s)
    ((refl, refl), each_map (λ x. Unit {0}) Lettered m_line (λ x u. (refl, refl)) (result_of c).members (each-always (λ x. Unit {0}) (λ x. tt) (result_of c).members))
    tt)

-- ---- the lines of the end

-- an m line shows its member and the charge on payments
members-shown : (c : Case) → map shown_line (map m_line (result_of c).members)
    ≡ map (λ m. member_shown m (on_payments c m)) (member_list c.head)
unfolding result_of m_line left_out
members-shown c =
    ap (λ (ls : List Line). map shown_line ls) (map-map m_line _ (member_list c.head)) ∙ map-map shown_line _ (member_list c.head)

finish-without : (c : Case) → map shown_line (l_line (result_of (without_reserves c)) ∷ map m_line (result_of (without_reserves c)).members)
    ≡ map shown_line (l_line (result_of c) ∷ map m_line (result_of c).members)
unfolding result_of l_line requirement limits six_charges uncovered_rest payments contributions on_payments charge
finish-without c =
    ap (λ (ls : List (List ℕ)). shown_line (l_line (result_of c)) ∷ ls) (members-shown (without_reserves c) ∙ sym (members-shown c))

end-without : (s : State) → map shown_line (end_lines (state_without s)) ≡ map shown_line (end_lines s)
unfolding end_lines p_line letter_of
end-without none = refl
end-without (some c) =
    let ps = tab (length c.pools) (p_line c) in
    map-append shown_line ps _
    ∙ ap (λ (ls : List (List ℕ)). map shown_line ps ++ ls) (go (is_f (some c)))
    ∙ sym (map-append shown_line ps _)
  where
    ends : Case → List Line
    ends c = l_line (result_of c) ∷ map m_line (result_of c).members

    go : (b : Bool) → map shown_line (when b then ends (without_reserves c) else []) ≡ map shown_line (when b then ends c else [])
    go true = finish-without c
    go false = refl

end-alike : (s t : State) → Alike s t → map shown_line (end_lines s) ≡ map shown_line (end_lines t)
end-alike s t alike = sym (end-without s) ∙ ap (λ (x : State). map shown_line (end_lines x)) alike ∙ end-without t

-- ---- two inputs

-- what a whole run shows
run-shown : (calls : List (List ℕ)) → text_outside (text (lines_from none calls))
    ≡ joined (map shown_line (s_lines (map (take 1) calls) (answers_to calls)) ++ map shown_line (end_lines (run_from none calls)))
unfolding run
run-shown calls =
    let ss = s_lines (map (take 1) calls) (map (λ (o : Observed). o.answer) (observed_from none calls)) in
    let es = end_lines (run_from none calls) in
    ap (λ (ls : List Line). text_outside (text ls)) (lines_are none calls)
    ∙ text-shown (ss ++ es) (each_append Lettered ss es (s_lines-lettered (map (take 1) calls) _) (end-lettered (run_from none calls)))
    ∙ ap joined (map-append shown_line ss es)

module _ (calls others : List (List ℕ)) (same : SameAtClose calls others) where
  -- the case after all calls
  states-end : Alike (run_from none calls) (run_from none others)
  states-end =
      let longer : ℕ = length calls in
      rw (← take-length calls, ← take-length others, ← same.fields.as_many) (same-states calls others same longer)

  pub same_text : text_outside (text (lines_from none calls)) ≡ text_outside (text (lines_from none others))
  same_text =
      let shown : List (List ℕ) → List ℕ → List (List ℕ) → List ℕ = λ tags ns end. joined (map shown_line (s_lines tags ns) ++ end) in
      let ends = end-alike (run_from none calls) (run_from none others) states-end in
      run-shown calls ∙ (λ i. shown (same-tags calls others same i) (same-answers calls others same i) (ends i)) ∙ sym (run-shown others)
