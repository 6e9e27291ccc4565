-- The records of lines that are not refused are whole and in range, so that all of their bytes are taken. Assumes nothing.
use Rattle.std.proofs.Common.{◌≡◌, ℕ, ◌+◌, ◌*◌, ◌/◌, ◌<◌, ◌≤◌, true, false, List, [], ◌∷◌, ◌++◌, length, get_or, drop, sym, refl, ap, ◌∙◌, subst, ⊎_elim, mul-zero, mul-one, mul-add, arith, length-append, ne_eqb, le-leb}
use native.Mathlib.Nat.{zero-div, mul-add-div}
use lib.Seq.{drop-length}
use Rattle.lists.specs.Lists.{all, joined, tab, Each}
use Rattle.lists.proofs.Counts.{all_of}
use Rattle.machine.specs.Wire.{number}
use Rattle.rows.specs.Days.{refused_day, record_of}
use Rattle.rows.proofs.Days.{WholeDay, record-whole}
use Rattle.positions.specs.Days.{Day, most_position, size, day_at, days_of, in_range}
use Rattle.positions.specs.Keeping.{Kept, Taken, part_of}
use Rattle.positions.proofs.Days.{ok, day-length, day-get, days-count}
use Rattle.positions.proofs.Records.{taken-all}
use Rattle.positions.proofs.Parts.{days-append, no-days}
use Rattle.from_lines.specs.Turns.{records}

module _ (n : ℕ) (some : 1 ≤ n) where
  -- whole records in range, and nothing behind them
  record Fine (bytes : List ℕ) : Type 0 where
    pub range : all in_range (days_of n bytes) ≡ true
    pub whole : size n * (length bytes / size n) ≡ length bytes

  fine-none : Fine []
  unfolding all
  fine-none =
      record {
        range = ap (all in_range) (no-days n some);
        whole = ap (λ (k : ℕ). size n * k) (zero-div (size n)) ∙ mul-zero (size n);
      }

  day-range : (bytes : List ℕ) → WholeDay n bytes → in_range (day_at n bytes 0) ≡ true
  unfolding in_range
  day-range bytes w =
      all_of ok (day_at n bytes 0) 0
      (λ m l.
      let h : m < n = omega (arith, l, day-length n bytes 0) in
      le-leb (get_or (day_at n bytes 0) m 0) most_position
      (omega (arith, day-get n bytes 0 m h, ap (λ (k : ℕ). number k 4 bytes) {x = 0 + 4 * m} {y = 4 * m} (omega arith), w.1 m h)))

  module _ (xs ys : List ℕ) (w : WholeDay n xs) where
    counts : (k : ℕ) → (length xs + k) / size n ≡ 1 + k / size n
    counts k =
        ap (λ (j : ℕ). j / size n) {x = length xs + k} {y = size n * 1 + k} (omega (arith, w.0, mul-one (size n)))
        ∙ mul-add-div {m = size n} (omega arith) 1 k

    one : length xs / size n ≡ 1
    one = ap (λ (j : ℕ). j / size n) {x = length xs} {y = length xs + 0} (omega arith) ∙ counts 0 ∙ ap (λ (k : ℕ). 1 + k) (zero-div (size n))

    first-day : days_of n xs ≡ day_at n xs 0 ∷ []
    unfolding days_of tab
    first-day = rw (one, mul-zero (size n)) refl

    days-more : days_of n (xs ++ ys) ≡ day_at n xs 0 ∷ days_of n ys
    days-more =
        let used : size n * (length xs / size n) ≡ length xs = ap (λ (k : ℕ). size n * k) one ∙ mul-one (size n) ∙ sym w.0 in
        days-append n some xs ys
        ∙ ap (λ (days : List Day). days ++ days_of n (drop (size n * (length xs / size n)) xs ++ ys)) first-day
        ∙ ap (λ (l : List ℕ). day_at n xs 0 ∷ days_of n (l ++ ys)) (ap (λ (k : ℕ). drop k xs) used ∙ drop-length xs)

    fine_more : Fine ys → Fine (xs ++ ys)
    unfolding all
    fine_more f =
        record {
          range = ap (all in_range) days-more ∙ rw (day-range xs w) f.range;
          whole =
              ap (λ (k : ℕ). size n * (k / size n)) (length-append xs ys)
              ∙ ap (λ (k : ℕ). size n * k) (counts (length ys))
              ∙ omega (arith, mul-add (size n) 1 (length ys / size n), mul-one (size n), f.whole, w.0, length-append xs ys);
        }

  lines-fine : (lines : List (List ℕ)) → Each (λ line. refused_day n line ≡ false) lines → Fine (records n lines)
  unfolding joined
  lines-fine [] h = fine-none
  lines-fine (line ∷ lines) h =
      ⊎_elim
      (λ e. subst (λ (s : List ℕ). Fine (s ++ records n lines)) (sym e) (lines-fine lines h.1))
      (λ w. fine_more (record_of n line) (records n lines) w (lines-fine lines h.1))
      (record-whole n line h.0)

  -- whatever is kept before them, the answer is 0 and all bytes are used
  pub lines-whole : (x : Kept) (lines : List (List ℕ)) → Each (λ line. refused_day n line ≡ false) lines
      → ((part_of n x (records n lines)).answer ≡ 0) × ((part_of n x (records n lines)).used ≡ length (records n lines))
  unfolding part_of
  lines-whole x lines h =
      let f = lines-fine lines h in
      let bytes = records n lines in
      let e = taken-all n x 0 (days_of n bytes) f.range in
      rw (ne_eqb n 0 (λ z. omega arith))
      (ap (λ (t : Taken). t.answer) e, ap (λ (t : Taken). t.used) e ∙ omega (arith, f.whole, ap (λ (k : ℕ). size n * k) (days-count n bytes)))
