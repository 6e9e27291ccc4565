-- What holds at each turn of `take_part`: the s lines written so far, and those of the whole fields left from what is held, are the s lines of all
-- whole fields; and what is held after the fields left is what is held after all. Assumes nothing.
use mathlib.Core.Path.{◌≡◌, refl, sym, ap, ap₂, ◌∙◌}
use mathlib.Core.Bool.{false}
use mathlib.Core.List.{List, [], ◌∷◌, ◌++◌, append_assoc, append-nil}
use Prim.Native.Nat.{ℕ, zero, suc, ◌+◌, ◌-◌, ◌*◌, ◌/◌, ◌≤◌, ◌<◌, min}
use native.Mathlib.Omega.{arith}
use lib.Dec.{leb, eqb}
use lib.ListN.{length, get_or, take, drop, length-append, length-take, length-drop}
use lib.Seq.{sets, length-sets, drop-cons, drop-drop}
use borrow.Author.Tests.{le-leb, lt-leb, leb-true, eqb-true, eqb-false}
use Rattle.lists.specs.Lists.{tab}
use Rattle.lists.proofs.Bools.{cases, and_left}
use Rattle.lists.proofs.Each.{Each, each_at, each_take, each-drop}
use Rattle.std.proofs.lemmas.List.{get_or-take, length-take-le}
use Rattle.lists.proofs.Places.{tab-of, tab-ext}
use Rattle.machine.specs.Printed.{Line, s_line, text}
use Rattle.lines.specs.Placed.{Placed, line_text}
use Rattle.lists.proofs.Stores.{sets_then}
use Rattle.case.specs.Cases.{Held}
use Rattle.case.specs.declared.Front.{Front}
use Rattle.case.specs.Cases.{applied}
use Rattle.lists.specs.Lists.{Bytes}
use Rattle.input.specs.Strings.{ends_from, bytes_of}
use Rattle.input.specs.Fields.{whole_first, front_size}
use Rattle.case.specs.Input.{ledger_after, ledger_answers, FieldsTaken}
use Rattle.input.proofs.Fields.{size-whole}
use Rattle.input.proofs.Strings.{front_at, ends-long}
use Rattle.input.proofs.Pieces.{front-none, front-next, front-zero, fields-most}
use Rattle.input.proofs.Fronts.{front-most, rest_all}
use Rattle.case.proofs.Running.{answers-long}
use Rattle.case.proofs.Taking.{Passed, within, left, goes as passes, none_left as none-taken, none-behind as past_end}
use Rattle.case.proofs.Small.{answer-most}
use Rattle.report.specs.Texts.{ledger_lines, start_of, answer_line, take_part, TakesPart, placed_lines}
use Rattle.input.specs.Fields.{whole, whole_fields}
use Rattle.report.proofs.Placing.{text-append, text-line, lines_fit}
use Rattle.report.proofs.Widths.{s-line-most}

-- ---- whole fields

-- a whole field has three bytes or more
size-three : (s : List ℕ) → (front_size false s ≡ 0 → ⊥) → 3 ≤ front_size false s
unfolding front_size
size-three s more =
    cases (whole_first s) _
    (λ w. rw w (omega (arith, size-whole s (leb-true 3 (length s) (and_left (leb 3 (length s)) _ w)))))
    (λ w. absurd (more (rw w)))

module _ (P : List ℕ → Type 0) (s : List ℕ) (holds : (at : ℕ) → at < length s → 3 ≤ front_size false (drop at s) → P (take (front_size false (drop at s)) (drop at s))) where
  -- what holds of each field that can begin in the input holds of all of them
  each-whole : (n at : ℕ) → Each P (whole_fields n (drop at s))
  each-whole zero at = rw (front-zero (front_size false) (front-most false) (drop at s)) tt
  each-whole (suc n) at =
      let rest = drop at s in
      let size = front_size false rest in
      cases (eqb size 0) _
      (λ t. rw (front-none (front_size false) (front-most false) (suc n) rest (eqb-true size 0 t)) tt)
      (λ t.
      let more = eqb-false size 0 t in
      let three = size-three rest more in
      rw (front-next (front_size false) (front-most false) n rest more, drop-drop size at s) (holds at (omega (arith, front-most false rest, length-drop at s)) three, each-whole n (at + size)))

three-bytes : (s : List ℕ) (n : ℕ) → Each (λ f. 3 ≤ length f) (whole_fields n s)
three-bytes s n =
    each-whole (λ f. 3 ≤ length f) s
    (λ at l three. omega (arith, length-take (front_size false (drop at s)) (drop at s), front-most false (drop at s)))
    n 0

field-bytes : (s : List ℕ) (n : ℕ) → Bytes s → Each Bytes (whole_fields n s)
field-bytes s n b = each-whole Bytes s (λ at l three. each_take _ (front_size false (drop at s)) (drop at s) (each-drop _ at s b)) n 0

-- ---- their s lines

-- a field's line needs its tag only
tag-line : (f : List ℕ) (n : ℕ) → 3 ≤ length f → s_line f n ≡ s_line (get_or f 0 0 ∷ []) n
unfolding s_line
tag-line [] n l = absurd (omega arith)
tag-line (x ∷ f) n l = refl

-- where field k begins, where the first begins at a place
start_from : ℕ → List ℕ → ℕ → ℕ
start_from at ends zero = at
start_from at ends (suc k) = get_or ends k 0

start-next : (at end : ℕ) (ends : List ℕ) (j : ℕ) → start_from at (end ∷ ends) (suc j) ≡ start_from end ends j
unfolding start_from
start-next at end ends zero = refl
start-next at end ends (suc j) = refl

first_byte : (s : List ℕ) (at size : ℕ) → at < length s → 3 ≤ size → get_or (take size (drop at s)) 0 0 ≡ get_or s at 0
first_byte s at zero l three = absurd (omega arith)
first_byte s at (suc size) l three = rw (drop-cons s at 0 l)

-- the tag of each field stands where the field before it ends
tag-next : (s f : List ℕ) (fs : List (List ℕ)) (at k : ℕ) → get_or f 0 0 ≡ get_or s at 0
    → ((j : ℕ) → j < length fs → get_or (get_or fs j []) 0 0 ≡ get_or s (start_from (at + length f) (ends_from (at + length f) fs) j) 0)
    → k < length (f ∷ fs) → get_or (get_or (f ∷ fs) k []) 0 0 ≡ get_or s (start_from at (ends_from at (f ∷ fs)) k) 0
unfolding ends_from start_from
tag-next s f fs at zero first later l = first
tag-next s f fs at (suc j) first later l =
    later j (omega arith) ∙ ap (λ (p : ℕ). get_or s p 0) (sym (start-next at (at + length f) (ends_from (at + length f) fs) j))

tag_at : (s : List ℕ) (n at k : ℕ) → k < length (whole_fields n (drop at s))
    → get_or (get_or (whole_fields n (drop at s)) k []) 0 0 ≡ get_or s (start_from at (ends_from at (whole_fields n (drop at s))) k) 0
tag_at s zero at k l = absurd (omega (arith, ap length (front-zero (front_size false) (front-most false) (drop at s))))
tag_at s (suc n) at k l =
    let rest = drop at s in
    let size = front_size false rest in
    cases (eqb size 0) _
    (λ t. absurd (omega (arith, ap length (front-none (front_size false) (front-most false) (suc n) rest (eqb-true size 0 t)))))
    (λ t.
    let more = eqb-false size 0 t in
    let three = size-three rest more in
    let here : at < length s = omega (arith, front-most false rest, length-drop at s) in
    let next : whole_fields (suc n) rest ≡ take size rest ∷ whole_fields n (drop (at + size) s) = front-next (front_size false) (front-most false) n rest more ∙ ap (λ (r : List ℕ). take size rest ∷ whole_fields n r) (drop-drop size at s) in
    let long : length (take size rest) ≡ size = omega (arith, length-take size rest, front-most false rest) in
    rw next (tag-next s (take size rest) (whole_fields n (drop (at + size) s)) at k (first_byte s at size here three) (rw long (tag_at s n (at + size))) (rw next at l)))

line_at : (h : Held) (fs : List (List ℕ)) (k : ℕ) → k < length fs → (d : Line) → get_or (ledger_lines h fs) k d ≡ s_line (get_or fs k []) (get_or (ledger_answers h fs) k 0)
unfolding ledger_lines ledger_answers
line_at h [] k l d = absurd (omega arith)
line_at h (f ∷ fs) zero l d = refl
line_at h (f ∷ fs) (suc k) l d = line_at (applied h f).held fs k (omega arith) d

lines_long : (h : Held) (fs : List (List ℕ)) → length (ledger_lines h fs) ≡ length fs
unfolding ledger_lines
lines_long h [] = refl
lines_long h (f ∷ fs) = ap suc (lines_long (applied h f).held fs)

-- the lines that `write_answers` puts are the s lines of the fields
module _ (h : Held) (input : List ℕ) (n : ℕ) (ends answers ends' answers' : List ℕ) (front : Front) (taken : FieldsTaken h (whole_fields n input) ends answers ends' answers' front)
    (room : length (whole_fields n input) ≤ length ends) (space : length (whole_fields n input) ≤ length answers) where
  abbrev fs : List (List ℕ)
  fs = whole_fields n input

  start-at : (k : ℕ) → k < length fs → start_from 0 (ends_from 0 fs) k ≡ start_of ends' k
  unfolding start_from
  start-at zero l = refl
  start-at (suc k) l =
      sym (ap (λ (xs : List ℕ). get_or xs k 0) taken.places ∙ front_at (ends_from 0 fs) ends k (omega (arith, ends-long 0 fs)) (omega (arith, ends-long 0 fs)))

  pub lines_are : tab (length fs) (answer_line input ends' answers') ≡ ledger_lines h fs
  unfolding answer_line
  lines_are =
      sym (tab-of (length fs) (answer_line input ends' answers') (s_line [] 0) (ledger_lines h fs) (lines_long h fs)
      (λ k l.
      line_at h fs k l (s_line [] 0)
      ∙ tag-line (get_or fs k []) (get_or (ledger_answers h fs) k 0) (each_at (λ f. 3 ≤ length f) fs k [] l (three-bytes input n))
      ∙ ap₂ (λ (tag : ℕ) (a : ℕ). s_line (tag ∷ []) a)
      (tag_at input n 0 k l ∙ ap (λ (p : ℕ). get_or input p 0) (start-at k l))
      (sym (ap (λ (xs : List ℕ). get_or xs k 0) taken.told ∙ front_at (ledger_answers h fs) answers k (omega (arith, answers-long h fs)) (omega (arith, answers-long h fs))))))

-- no more are taken than were asked for
pub counted : (h : Held) (s : List ℕ) (n : ℕ) (ends answers ends' answers' : List ℕ) (front : Front) → FieldsTaken h (whole_fields n s) ends answers ends' answers' front → front.count ≤ n
counted h s n ends answers ends' answers' front taken = rw taken.count (fields-most (front_size false) (front-most false) n s)

-- so are those of the places and answers in front alone
pub lines_front : (n : ℕ) (input ends answers : List ℕ) → n ≤ length ends
    → tab (length (take n ends)) (answer_line input (take n ends) (take n answers)) ≡ tab n (answer_line input ends answers)
unfolding answer_line
lines_front n input ends answers h = rw (length-take-le n ends h) (tab-ext n _ _ (λ k l. ap₂ (λ (p a : ℕ). s_line (get_or input p 0 ∷ []) a) (start k l) (get_or-take n answers k 0 l)))
  where
    start : (k : ℕ) → k < n → start_of (take n ends) k ≡ start_of ends k
    start zero l = refl
    start (suc k) l = get_or-take n ends k 0 (omega arith)

-- an s line has fewer bytes than four times its field
lines-short : (h : Held) (fs : List (List ℕ)) → Each (λ f. 3 ≤ length f) fs → Each Bytes fs → length (text (ledger_lines h fs)) ≤ 4 * bytes_of fs
unfolding text ledger_lines bytes_of
lines-short h [] three bytes = omega arith
lines-short h (f ∷ fs) three bytes =
    let a = (applied h f).answer in
    let line : length (line_text (s_line f a)) ≤ 10 = rw (tag-line f a three.0) (s-line-most (get_or f 0 0) a (first_small f bytes.0) (omega (arith, answer-most h f))) in
    omega (
      arith,
      ap length (text-line (s_line f a) (ledger_lines (applied h f).held fs)),
      length-append (line_text (s_line f a)) (text (ledger_lines (applied h f).held fs)),
      line,
      three.0,
      lines-short (applied h f).held fs three.1 bytes.1,
    )
  where
    first_small : (f : List ℕ) → Bytes f → get_or f 0 0 < 256
    first_small [] b = omega arith
    first_small (x ∷ f) b = b.0

-- ---- fields behind fields

pub lines_two : (h : Held) (a b : List (List ℕ)) → ledger_lines h (a ++ b) ≡ ledger_lines h a ++ ledger_lines (ledger_after h a) b
unfolding ledger_lines ledger_after
lines_two h [] b = refl
lines_two h (f ∷ a) b = ap (λ (ls : List Line). s_line f (applied h f).answer ∷ ls) (lines_two (applied h f).held a b)

-- ---- the loop

pub record Taking (h : Held) (input old new : List ℕ) (held : Held) (used written : ℕ) : Type 0 where
  pub passed : Passed h input held used
  pub size : length new ≡ length old
  pub room : 4 * length input ≤ length old
  pub short : written ≤ 4 * used
  pub done : List Line
  pub told : written ≡ length (text done)
  pub out : new ≡ sets old 0 (text done)
  pub lines : done ++ ledger_lines held (whole (drop used input)) ≡ ledger_lines h (whole input)

pub starts : (h : Held) (input old : List ℕ) → length input ≤ length old / 4 → Taking h input old old h 0 0
unfolding text
starts h input old r =
    record {
      passed = record { place = omega arith; leads = refl; counted = omega arith };
      size = refl;
      room = omega arith;
      short = omega arith;
      done = [];
      told = refl;
      out = refl;
      lines = refl;
    }

module _ (h : Held) (input old new : List ℕ) (held : Held) (used written : ℕ) (g : Taking h input old new held used written) (bytes : Bytes input) (ends answers ends' answers' : List ℕ)
    (front : Front) (taken : FieldsTaken held (whole_fields (min (length answers) (length ends)) (drop used input)) ends answers ends' answers' front) where
  abbrev rest : List ℕ
  rest = drop used input

  abbrev m : ℕ
  m = min (length answers) (length ends)

  abbrev gs : List (List ℕ)
  gs = whole_fields m rest

  few : length gs ≤ m
  few = fields-most (front_size false) (front-most false) m rest

  pub used-within : (used + front.used ≤ length input) × (front.count ≤ front.used)
  used-within = within h input held used g.passed ends answers ends' answers' front taken

  short-lines : length (text (ledger_lines held gs)) ≤ 4 * bytes_of gs
  short-lines = lines-short held gs (three-bytes rest m) (field-bytes rest m (each-drop _ used input bytes))

  pub goes : (r : ℕ) (last : List ℕ) → ◌≡◌ {A = Placed} (r, last) (placed_lines (tab front.count (answer_line (take (length input - used) rest) ends' answers')) new written)
      → Taking h input old last front.held (used + front.used) r
  goes r last w =
      let ls = ledger_lines held gs in
      let t = text ls in
      let same : tab front.count (answer_line rest ends' answers') ≡ ls =
      ap (λ (n : ℕ). tab n (answer_line rest ends' answers')) taken.count ∙ lines_are held rest m ends answers ends' answers' front taken (omega (arith, few)) (omega (arith, few)) in
      let inside = used-within.0 in
      let fits : ◌≡◌ {A = Placed} (r, last) (written + length t, sets new written t) =
      w ∙ ap (λ (r : List ℕ). placed_lines (tab front.count (answer_line r ends' answers')) new written) (rest_all input used) ∙ ap (λ (l : List Line). placed_lines l new written) same
      ∙ lines_fit ls new written (omega (arith, g.size, g.room, g.short, short-lines, taken.used)) in
      let to : r ≡ written + length t = ap (λ (q : Placed). q.0) fits in
      let from : written ≡ 0 + length (text g.done) = omega (arith, g.told) in
      let all : text (g.done ++ ls) ≡ text g.done ++ t = text-append g.done ls in
      let behind = whole (drop (used + bytes_of gs) input) in
      rw (taken.held, taken.used) (record {
        passed = rw (taken.held, taken.used) at (passes h input held used g.passed ends answers ends' answers' front taken);
        size = ap (λ (q : Placed). length q.1) fits ∙ length-sets new written t ∙ g.size;
        room = g.room;
        short = omega (arith, g.short, short-lines, to);
        done = g.done ++ ls;
        told = to ∙ ap (λ (k : ℕ). k + length t) g.told ∙ sym (length-append (text g.done) t) ∙ ap length (sym all);
        out =
            ap (λ (q : Placed). q.1) fits
            ∙ ap (λ (k : ℕ). sets new k t) from
            ∙ ap (λ (x : List ℕ). sets x (0 + length (text g.done)) t) g.out
            ∙ sets_then old 0 (text g.done) t
            ∙ ap (sets old 0) (sym all);
        lines =
            append_assoc g.done ls (ledger_lines (ledger_after held gs) behind)
            ∙ ap (λ (x : List Line). g.done ++ x) (sym (lines_two held gs behind) ∙ ap (ledger_lines held) (sym (left h input held used g.passed ends answers ends' answers' front taken)))
            ∙ g.lines;
      })

  -- where none was taken, no whole field is left
  pub none_left : 0 < length answers → 0 < length ends → front.count ≡ 0 → whole rest ≡ []
  unfolding bytes_of
  none_left some-answers some-ends none-there =
      front-none (front_size false) (front-most false) (length rest) rest (none-taken h input held used g.passed ends answers ends' answers' front taken some-answers some-ends none-there)

-- nothing is taken from a part for which there is no room
pub takes_none : (h : Held) (input old : List ℕ) → length old / 4 < length input → TakesPart h input old old (record { held = h; used = 0; written = 0 })
unfolding take_part
takes_none h input old r =
    record {
      is = rw (lt-leb (4 * length input) (length old) (omega arith)) refl;
      used = omega arith;
      short = omega arith;
      fits = omega arith;
    }

-- no whole field is left
pub takes : (h : Held) (input old new : List ℕ) (held : Held) (used written : ℕ) → Taking h input old new held used written → whole (drop used input) ≡ []
    → TakesPart h input old new (record { held = held; used = used; written = written })
unfolding take_part ledger_lines ledger_after bytes_of
takes h input old new held used written g stop =
    let done : g.done ≡ ledger_lines h (whole input) = sym (append-nil g.done) ∙ (rw stop at g.lines) in
    let after : held ≡ ledger_after h (whole input) = rw stop at g.passed.leads in
    let bytes : used ≡ bytes_of (whole input) = omega (arith, rw stop at g.passed.counted) in
    let told : written ≡ length (text (ledger_lines h (whole input))) = g.told ∙ ap (λ (ls : List Line). length (text ls)) done in
    let out : new ≡ sets old 0 (text (ledger_lines h (whole input))) = g.out ∙ ap (λ (ls : List Line). sets old 0 (text ls)) done in
    record {
      is = rw (le-leb (4 * length input) (length old) g.room) (λ i. (record { held = after i; used = bytes i; written = told i }, out i));
      used = g.passed.place;
      short = g.short;
      fits = omega (arith, g.short, g.passed.place, g.room);
    }

-- at the input's end none is left
pub none-behind : (input : List ℕ) (used : ℕ) → length input ≤ used → whole (drop used input) ≡ []
none-behind input used l = front-none (front_size false) (front-most false) (length (drop used input)) (drop used input) (past_end input used l)
