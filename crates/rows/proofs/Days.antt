-- A line of a text as its record, and lines taken one by one. Assumes nothing.
use Rattle.std.specs.Prelude.{Result, Ok, Err, IfOk}
use mathlib.Core.Path.{◌≡◌, refl, sym, ap, ap₂, ◌∙◌, subst}
use mathlib.Core.Bool.{Bool, false, false≢true}
use mathlib.Core.Logic.{◌⊎◌, inl, inr, ⊎_elim}
use mathlib.Core.List.{List, [], ◌∷◌, ◌++◌}
use Prim.Native.Nat.{ℕ, zero, suc, ◌+◌, ◌-◌, ◌*◌, ◌/◌, ◌%◌, ◌^◌, ◌≤◌, ◌<◌}
use native.Mathlib.Numerals.{add-one}
use native.Mathlib.Omega.{arith}
use lib.Dec.{ltb}
use lib.ListN.{length, get_or, take, drop, length-take}
use lib.Seq.{drop-cons, drop-length, drop-drop}
use borrow.Author.Tests.{lt-ltb, le-ltb}
use Rattle.lists.specs.Lists.{when◌then◌else◌, Each}
use Rattle.lists.proofs.Bools.{either, by-test}
use Rattle.lists.proofs.Each.{each_take}
use Rattle.machine.specs.Wire.{number}
use Rattle.forms.specs.Encode.{bytes_of}
use Rattle.forms.specs.Put.{Put}
use Rattle.forms.proofs.Puts.{put_as}
use Rattle.translation.proofs.Writing.{Writing, writing-starts}
use Rattle.text_lines.specs.Lines.{length_to, line_size, good_size, size_within}
use Rattle.text_lines.proofs.Parts.{good-most}
use Rattle.text_lines.proofs.Taking.{size_small, size-there, taking-lent, taking-few, taking-within, taking-room, taking-goes, taking-ends}
use Rattle.rows.specs.declared.Row.{Row}
use Rattle.rows.specs.declared.Refusal.{Refusal}
use Rattle.rows.specs.declared.Day.{Day}
use Rattle.rows.specs.Reading.{row_of}
use Rattle.rows.specs.Days.{too_long, day_of, is_refused, refused_day, four_each, numbers_of, record_of, day_size, NextDay, WritesDays}
use Rattle.rows.specs.Computing.{computing}
use Rattle.rows.proofs.Limits.{Within, row_within}

-- ---- what a line is read as

module _ (n : ℕ) (line : List ℕ) (k : ℕ) (is : k ≡ length_to line) where
  pub day-long : (r : Result Row Refusal) → 65536 < k → r ≡ Err too_long → r ≡ day_of n line
  unfolding day_of
  day-long r h e = rw (← is, lt-ltb 65536 k h) e

  pub day-there : (part : List ℕ) (r : Result Row Refusal) → k ≤ 65536 → part ≡ take k line → r ≡ row_of n n 10000000 part → r ≡ day_of n line
  unfolding day_of
  day-there part r h lends e = rw (← is, le-ltb 65536 k h) (e ∙ ap (row_of n n 10000000) lends)

-- a line has at most 32 numbers
few-within : (n : ℕ) (r : Result Row Refusal) → IfOk r (Within n n 10000000) → IfOk r (λ row. row.count ≤ 32)
few-within n (Ok row) w = omega (arith, w.few)
few-within n (Err refusal) w = tt

day-few : (n : ℕ) (line : List ℕ) → IfOk (day_of n line) (λ row. row.count ≤ 32)
unfolding day_of
day-few n line =
    either (λ (r : Result Row Refusal). IfOk r (λ row. row.count ≤ 32)) (ltb 65536 (length_to line)) tt
    (few-within n (row_of n n 10000000 (take (length_to line) line)) (row_within n n 10000000 (take (length_to line) line)))

no_bytes : four_each [] ≡ []
unfolding four_each
no_bytes = refl

-- ---- a line as its bytes and its numbers

module _ (n room : ℕ) (last : Bool) (s : List ℕ) where
  -- no room
  pub next-none : room < 128 → size_within 128 room (day_size n last) s ≡ 0
  next-none h = size_small 128 room (day_size n last) s h

  module _ (size : ℕ) (h : 128 ≤ room) (is : size ≡ line_size last s) where
    module _ (part : List ℕ) (r : Result Row Refusal) (lends : part ≡ take size s) (e : r ≡ day_of n part) where
      same : r ≡ day_of n (take (line_size last s) s)
      same = e ∙ ap (day_of n) (lends ∙ ap (λ (k : ℕ). take k s) is)

      sized : size_within 128 room (day_size n last) s ≡ (when is_refused r then 0 else size)
      unfolding good_size refused_day
      sized = size-there 128 room (day_size n last) s h ∙ sym (ap₂ (λ (x : Result Row Refusal) (k : ℕ). when is_refused x then 0 else k) same is)

    -- no line
    pub next-empty : size ≡ 0 → size_within 128 room (day_size n last) s ≡ 0
    next-empty z =
        let r = day_of n (take size s) in
        sized (take size s) r refl refl ∙ either (λ (k : ℕ). k ≡ 0) (is_refused r) refl z

    -- one that is refused
    pub next-refused : (part : List ℕ) (refusal : Refusal) → part ≡ take size s → Err refusal ≡ day_of n part → size_within 128 room (day_size n last) s ≡ 0
    next-refused part refusal lends e = sized part (Err refusal) lends e

    -- a line that is taken
    pub next-is : (part : List ℕ) (row : Row) → part ≡ take size s → Ok row ≡ day_of n part → NextDay n room last s (record { size = size; row = row })
    unfolding record_of
    next-is part row lends e =
        record {
          size = sym (sized part (Ok row) lends e);
          bytes = ap (λ (x : Result Row Refusal). four_each (numbers_of x)) (e ∙ ap (day_of n) lends);
          few = subst (λ (x : Result Row Refusal). IfOk x (λ row. row.count ≤ 32)) (sym e) (day-few n part);
        }

-- ---- the numbers of a record

pub four-next : (i : ℕ) (xs : List ℕ) → i < length xs → four_each (drop i xs) ≡ bytes_of 4 (get_or xs i 0) ++ four_each (drop (i + 1) xs)
unfolding four_each
four-next i xs h = rw (add-one i) (ap four_each (drop-cons xs i 0 h))

pub four-none : (i : ℕ) (xs : List ℕ) → i ≡ length xs → four_each (drop i xs) ≡ []
unfolding four_each
four-none i xs e = ap four_each (ap (λ (j : ℕ). drop j xs) e ∙ drop-length xs)

-- ---- the size of a record

four-size : (ns : List ℕ) → length (four_each ns) ≡ 4 * length ns
unfolding four_each bytes_of
four-size [] = omega arith
four-size (n ∷ ns) = omega (arith, four-size ns)

-- ---- the numbers of a record, read back

back : (n : ℕ) → n < 2 ^ 32 → (((0 * 256 + n / 256 / 256 / 256 % 256) * 256 + n / 256 / 256 % 256) * 256 + n / 256 % 256) * 256 + n % 256 ≡ n
back n h = omega arith

-- the first of them
read_first : (n : ℕ) (ns : List ℕ) → n < 2 ^ 32 → number 0 4 (four_each (n ∷ ns)) ≡ n
unfolding computing
read_first n ns h = back n h

-- those behind it
read_behind : (n m : ℕ) (ns : List ℕ) → number (4 + 4 * m) 4 (four_each (n ∷ ns)) ≡ number (4 * m) 4 (four_each ns)
unfolding number four_each bytes_of
read_behind n m ns = rw (← drop-drop (4 * m) 4 (four_each (n ∷ ns)))

read_small : (ns : List ℕ) → Each (λ n. n ≤ 10000000) ns → (m : ℕ) → m < length ns → number (4 * m) 4 (four_each ns) ≤ 10000000
read_small [] h m l = absurd (omega arith)
read_small (n ∷ ns) h zero l = omega (arith, read_first n ns (omega (arith, h.0)), h.0)
read_small (n ∷ ns) h (suc m) l =
    omega (
      arith,
      ap (λ (k : ℕ). number k 4 (four_each (n ∷ ns))) {x = 4 * suc m} {y = 4 + 4 * m} (omega arith),
      read_behind n m ns,
      read_small ns h.1 m (omega arith),
    )

-- so many numbers, each in four bytes and at most 10,000,000
abbrev pub WholeDay : ℕ → List ℕ → Type 0
WholeDay n bytes = (length bytes ≡ 4 * n) × ((m : ℕ) → m < n → number (4 * m) 4 bytes ≤ 10000000)

row-whole : (n : ℕ) (r : Result Row Refusal) → IfOk r (Within n n 10000000) → is_refused r ≡ false → (four_each (numbers_of r) ≡ []) ⊎ WholeDay n (four_each (numbers_of r))
row-whole n (Err refusal) w e = absurd (false≢true (sym e))
row-whole n (Ok row) w e =
    let ns = take row.count row.numbers in
    ⊎_elim
    (λ z. inl (ap (λ (k : ℕ). four_each (take k row.numbers)) z ∙ no_bytes))
    (λ l.
    let all : length ns ≡ n = omega (arith, length-take row.count row.numbers, w.few, w.long) in
    inr (
      four-size ns ∙ ap (λ (k : ℕ). 4 * k) all,
      λ m h. read_small ns (each_take (λ k. k ≤ 10000000) row.count row.numbers w.each) m (omega arith),
    ))
    w.whole

-- a line that is not refused is nothing, or has n numbers
pub record-whole : (n : ℕ) (line : List ℕ) → refused_day n line ≡ false → (record_of n line ≡ []) ⊎ WholeDay n (record_of n line)
unfolding record_of refused_day day_of
record-whole n line =
    by-test (λ (r : Result Row Refusal). is_refused r ≡ false → (four_each (numbers_of r) ≡ []) ⊎ WholeDay n (four_each (numbers_of r)))
    (ltb 65536 (length_to line))
    (λ _ e. absurd (false≢true (sym e)))
    (λ _ e. row-whole n (row_of n n 10000000 (take (length_to line) line)) (row_within n n 10000000 (take (length_to line) line)) e)

-- ---- lines taken one by one

-- so many lines are taken
abbrev pub Taking : ℕ → Bool → List ℕ → List ℕ → List ℕ → ℕ → ℕ → ℕ → Type 0
Taking n last input old out count used to = Writing (day_size n last) (good-most (refused_day n) last) (record_of n) input old out count used to

-- none yet
pub days-start : (n : ℕ) (last : Bool) (input out : List ℕ) → Taking n last input out out 0 0 0
days-start n last input out = writing-starts (day_size n last) (good-most (refused_day n) last) (record_of n) input out

-- what is left, as the code lends it
pub next-lent : (n room : ℕ) (last : Bool) (input : List ℕ) (used : ℕ) (day : Day) → NextDay n room last (take (length input - used) (drop used input)) day
    → NextDay n room last (drop used input) day
next-lent n room last input used day d = taking-lent (λ s. NextDay n room last s day) input used d

module _ (n : ℕ) (last : Bool) (input old out : List ℕ) (count used to : ℕ) (g : Taking n last input old out count used to) where
  abbrev most : (s : List ℕ) → day_size n last s ≤ length s
  most = good-most (refused_day n) last

  module _ (day : Day) (d : NextDay n (length out - to) last (drop used input) day) where
    pub days-few : count ≤ length input
    days-few = taking-few (day_size n last) most (record_of n) 128 input old out count used to g day.size d.size

    module _ (some : day.size ≡ 0 → ⊥) where
      pub days-within : used + day.size ≤ length input
      days-within = taking-within (day_size n last) most (record_of n) 128 input old out count used to g day.size d.size some

      pub days-room : to + 128 ≤ length out
      days-room = taking-room (day_size n last) most (record_of n) 128 input old out count used to g day.size d.size some

      module _ (r : ℕ) (next : List ℕ) (put : Put out to (four_each (take day.row.count day.row.numbers)) 128 r next) where
        written : Put out to (record_of n (take day.size (drop used input))) 128 r next
        written = put_as 128 (omega arith) d.bytes put

        pub days-go : Taking n last input old next (count + 1) (used + day.size) r
        days-go = taking-goes (day_size n last) most (record_of n) 128 input old out count used to g day.size d.size some r next written

  -- no line is taken any more
  pub days-end : size_within 128 (length out - to) (day_size n last) (take (length input - used) (drop used input)) ≡ 0
      → WritesDays n last input old out (record { count = count; used = used; written = to })
  days-end stop =
      taking-ends (day_size n last) most (record_of n) 128 input old out count used to g 0
      (taking-lent (λ s. 0 ≡ size_within 128 (length out - to) (day_size n last) s) input used (sym stop)) refl

-- a number has four bytes
pub four-long : (n : ℕ) → length (bytes_of 4 n) ≤ 4
unfolding bytes_of
four-long n = omega arith
