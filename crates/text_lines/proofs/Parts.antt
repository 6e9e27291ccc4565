-- A text that comes in parts: a line that is whole stays what it is when bytes come behind it, and so the lines of parts joined are those of the text. Assumes
-- nothing.
use mathlib.Core.Path.{◌≡◌, refl, sym, ap, subst, ◌∙◌}
use mathlib.Core.Bool.{Bool, true, false, ◌||◌}
use mathlib.Core.Logic.{⊎_elim}
use mathlib.Core.List.{List, [], ◌∷◌, ◌++◌, append-nil}
use Prim.Native.Nat.{ℕ, zero, suc, ◌+◌, ◌≤◌, ◌<◌}
use native.Mathlib.Omega.{arith}
use lib.Dec.{eqb}
use lib.ListN.{length, take, drop, length-append, length-take, length-drop}
use lib.Seq.{take-append-le, drop-drop}
use borrow.Author.Tests.{eqb-true, eqb-false}
use Rattle.lists.specs.Lists.{when◌then◌else◌, any, Each}
use Rattle.lists.proofs.Bools.{cases, either, lt-or-le}
use Rattle.lists.proofs.Each.{each_append}
use Rattle.input.specs.Strings.{bytes_of}
use Rattle.input.specs.Pieces.{pieces, all_pieces, left_of}
use Rattle.input.proofs.Pieces.{front-zero, front-none, front-next, all-next, all_none, apart, left-then}
use Rattle.text_lines.specs.Lines.{length_to, line_size, lines_of, good_size, good_lines, rest}
use Rattle.text_lines.proofs.Lines.{to-here, to-behind, no_end, to-most, size-long, size-ended, size-last, size_none, size-most}

-- ---- bytes behind bytes

-- a line end that is there stays where it is
to-stays : (s t : List ℕ) → length_to s < length s → length_to (s ++ t) ≡ length_to s
to-stays [] t h = absurd (omega arith)
to-stays (b ∷ s) t h =
    cases (eqb b 10) (length_to (b ∷ (s ++ t)) ≡ length_to (b ∷ s))
    (λ e. let z = eqb-true b 10 e in to-here b (s ++ t) z ∙ sym (to-here b s z))
    (λ e.
    let z = eqb-false b 10 e in
    to-behind b (s ++ t) z ∙ ap suc (to-stays s t (omega (arith, h, to-behind b s z))) ∙ sym (to-behind b s z))

-- a line does not get shorter
to-grows : (s t : List ℕ) → length_to s ≤ length_to (s ++ t)
to-grows [] t = omega (arith, no_end)
to-grows (b ∷ s) t =
    cases (eqb b 10) (length_to (b ∷ s) ≤ length_to (b ∷ (s ++ t)))
    (λ e. omega (arith, to-here b s (eqb-true b 10 e)))
    (λ e. let z = eqb-false b 10 e in omega (arith, to-behind b s z, to-behind b (s ++ t) z, to-grows s t))

-- a line that is whole stays so
size-stays : (s t : List ℕ) → (line_size false s ≡ 0 → ⊥) → line_size false (s ++ t) ≡ line_size false s
size-stays s t some =
    let n = length_to s in
    ⊎_elim
    (λ long. sym (size-long false (s ++ t) (length_to (s ++ t)) refl (omega (arith, to-grows s t))) ∙ size-long false s n refl long)
    (λ short.
    ⊎_elim
    (λ ended.
    sym (size-ended false (s ++ t) n (sym (to-stays s t ended)) short (omega (arith, length-append s t))) ∙ size-ended false s n refl short ended)
    (λ left. absurd (some (sym (size_none false s n refl short left refl))))
    (lt-or-le n (length s)))
    (lt-or-le 65536 n)

-- ---- pieces by two sizes

-- the pieces by one size, and then those by another that agrees with it where it has a piece
module _ (size other : List ℕ → ℕ) (most : (s : List ℕ) → size s ≤ length s) (most' : (s : List ℕ) → other s ≤ length s)
    (agrees : (s : List ℕ) → (size s ≡ 0 → ⊥) → other s ≡ size s) where
  left-next : (s : List ℕ) (k : ℕ) → k ≡ size s → (k ≡ 0 → ⊥) → left_of size s ≡ left_of size (drop k s)
  unfolding bytes_of
  left-next s k is some =
      let few : length (take k s) ≡ k = omega (arith, length-take k s, is, most s) in
      ap (λ (ps : List (List ℕ)). drop (bytes_of ps) s) (all-next size most s k is some)
      ∙ ap (λ (n : ℕ). drop (n + bytes_of (all_pieces size (drop k s))) s) few
      ∙ sym (drop-drop (bytes_of (all_pieces size (drop k s))) k s)

  left-none : (s : List ℕ) → size s ≡ 0 → left_of size s ≡ s
  unfolding bytes_of
  left-none s e = ap (λ (ps : List (List ℕ)). drop (bytes_of ps) s) (all_none size most s 0 (sym e) refl)

  none_first : (s : List ℕ) → size s ≡ 0 → all_pieces other s ≡ all_pieces size s ++ all_pieces other (left_of size s)
  none_first s z =
      ap (all_pieces other) (sym (left-none s z))
      ∙ ap (λ (ps : List (List ℕ)). ps ++ all_pieces other (left_of size s)) (sym (all_none size most s 0 (sym z) refl))

  then-from : (n : ℕ) (s : List ℕ) → length s ≤ n → all_pieces other s ≡ all_pieces size s ++ all_pieces other (left_of size s)
  then-from zero s h = none_first s (omega (arith, most s))
  then-from (suc n) s h =
      let k = size s in
      cases (eqb k 0) (all_pieces other s ≡ all_pieces size s ++ all_pieces other (left_of size s))
      (λ e. none_first s (eqb-true k 0 e))
      (λ e.
      let some = eqb-false k 0 e in
      all-next other most' s k (sym (agrees s some)) some
      ∙ ap (λ (ps : List (List ℕ)). take k s ∷ ps) (then-from n (drop k s) (omega (arith, length-drop k s)))
      ∙ ap (λ (l : List ℕ). take k s ∷ (all_pieces size (drop k s) ++ all_pieces other l)) (sym (left-next s k refl some))
      ∙ ap (λ (ps : List (List ℕ)). ps ++ all_pieces other (left_of size s)) (sym (all-next size most s k refl some)))

  all_then : (s : List ℕ) → all_pieces other s ≡ all_pieces size s ++ all_pieces other (left_of size s)
  all_then s = then-from (length s) s (omega arith)

-- a line that is whole is the same where the text ends behind it
size-ends : (s : List ℕ) → (line_size false s ≡ 0 → ⊥) → line_size true s ≡ line_size false s
size-ends s some =
    let n = length_to s in
    ⊎_elim
    (λ long. sym (size-long true s n refl long) ∙ size-long false s n refl long)
    (λ short.
    ⊎_elim
    (λ ended. sym (size-ended true s n refl short ended) ∙ size-ended false s n refl short ended)
    (λ left. absurd (some (sym (size_none false s n refl short left refl))))
    (lt-or-le n (length s)))
    (lt-or-le 65536 n)

no_lines : lines_of [] ≡ []
unfolding pieces
no_lines = refl

-- ---- lines up to the first that is refused

module _ (refused : List ℕ → Bool) where
  -- a line that is taken is within the text
  pub good-most : (last : Bool) (s : List ℕ) → good_size refused last s ≤ length s
  unfolding good_size
  good-most last s = either (λ (n : ℕ). n ≤ length s) (refused (take (line_size last s) s)) (omega arith) (size-most last s)

  size-good : (last : Bool) (s : List ℕ) → refused (take (line_size last s) s) ≡ false → good_size refused last s ≡ line_size last s
  unfolding good_size
  size-good last s e = ap (λ (b : Bool). when b then 0 else line_size last s) e

  size-refused : (last : Bool) (s : List ℕ) → refused (take (line_size last s) s) ≡ true → good_size refused last s ≡ 0
  unfolding good_size
  size-refused last s e = ap (λ (b : Bool). when b then 0 else line_size last s) e

  -- a line that is taken is not refused
  pub taken-good : (last : Bool) (s : List ℕ) → (good_size refused last s ≡ 0 → ⊥) → (good_size refused last s ≡ line_size last s) × (refused (take (good_size refused last s) s) ≡ false)
  taken-good last s some =
      cases (refused (take (line_size last s) s)) ((good_size refused last s ≡ line_size last s) × (refused (take (good_size refused last s) s) ≡ false))
      (λ e. absurd (some (size-refused last s e)))
      (λ e. let g = size-good last s e in (g, ap (λ (n : ℕ). refused (take n s)) g ∙ e))

  good-stays : (s t : List ℕ) → (good_size refused false s ≡ 0 → ⊥) → good_size refused false (s ++ t) ≡ good_size refused false s
  good-stays s t some =
      let g = taken-good false s some in
      let same : line_size false (s ++ t) ≡ line_size false s = size-stays s t (λ z. some (g.0 ∙ z)) in
      let line : take (line_size false (s ++ t)) (s ++ t) ≡ take (good_size refused false s) s =
      ap (λ (n : ℕ). take n (s ++ t)) (same ∙ sym g.0) ∙ take-append-le (good_size refused false s) s t (good-most false s) in
      size-good false (s ++ t) (ap refused line ∙ g.1) ∙ same ∙ sym g.0

  -- ---- a text that comes in parts

  pub lines-apart : (s t : List ℕ) → good_lines refused (s ++ t) ≡ good_lines refused s ++ good_lines refused (rest refused s ++ t)
  lines-apart = apart (good_size refused false) (good-most false) good-stays

  pub rest_then : (s t : List ℕ) → rest refused (s ++ t) ≡ rest refused (rest refused s ++ t)
  rest_then = left-then (good_size refused false) (good-most false) good-stays

  -- what is left before a line that is not all there is no longer than a line may be, so that it leaves room in the buffer
  pub rest-short : (s : List ℕ) → line_size false (rest refused s) ≡ 0 → length (rest refused s) ≤ 65536
  rest-short s none-there =
      let n = length_to (rest refused s) in
      ⊎_elim
      (λ long. absurd (omega (arith, none-there, size-long false (rest refused s) n refl long)))
      (λ short.
      ⊎_elim (λ ended. absurd (omega (arith, none-there, size-ended false (rest refused s) n refl short ended))) (λ left. omega (arith, left, short)) (lt-or-le n (length (rest refused s))))
      (lt-or-le 65536 n)

  -- ---- the whole text

  -- a line that is there is the same where the text ends behind it
  size-whole : (last : Bool) (s : List ℕ) → (line_size last s ≡ 0 → ⊥) → line_size true s ≡ line_size last s
  size-whole true s some = refl
  size-whole false s some = size-ends s some

  -- where no line is all there, the last line is all that is left
  pub last-size : (s : List ℕ) → line_size false s ≡ 0 → line_size true s ≡ length s
  last-size s none-there =
      let n = length_to s in
      ⊎_elim
      (λ long. absurd (omega (arith, none-there, size-long false s n refl long)))
      (λ short.
      ⊎_elim
      (λ ended. absurd (omega (arith, none-there, size-ended false s n refl short ended)))
      (λ left. omega (arith, left, to-most s, size-last true s n refl short left refl))
      (lt-or-le n (length s)))
      (lt-or-le 65536 n)

  -- the lines of a text are those that are taken and those of what is left behind them
  pub lines_then : (last : Bool) (s : List ℕ) → lines_of s ≡ all_pieces (good_size refused last) s ++ lines_of (left_of (good_size refused last) s)
  lines_then last =
      all_then (good_size refused last) (line_size true) (good-most last) (size-most true)
      (λ s some. let g = taken-good last s some in size-whole last s (λ z. some (g.0 ∙ z)) ∙ sym g.0)

  -- the lines that are taken are not refused
  pub each-good : (last : Bool) (n : ℕ) (s : List ℕ) → Each (λ line. refused line ≡ false) (pieces (good_size refused last) n s)
  each-good last zero s = subst (Each (λ line. refused line ≡ false)) (sym (front-zero (good_size refused last) (good-most last) s)) tt
  each-good last (suc n) s =
      let k = good_size refused last s in
      cases (eqb k 0) (Each (λ line. refused line ≡ false) (pieces (good_size refused last) (suc n) s))
      (λ e. subst (Each (λ line. refused line ≡ false)) (sym (front-none (good_size refused last) (good-most last) (suc n) s (eqb-true k 0 e))) tt)
      (λ e.
      let some = eqb-false k 0 e in
      subst (Each (λ line. refused line ≡ false)) (sym (front-next (good_size refused last) (good-most last) n s some)) ((taken-good last s some).1, each-good last n (drop k s)))

  -- a line that is there and not taken is refused
  pub stop-refused : (last : Bool) (s : List ℕ) → good_size refused last s ≡ 0 → (line_size last s ≡ 0 → ⊥) → any refused (lines_of s) ≡ true
  unfolding any
  stop-refused last s stop some =
      let k = line_size last s in
      let bad : refused (take k s) ≡ true =
      cases (refused (take k s)) (refused (take k s) ≡ true) (λ e. e) (λ e. absurd (some (sym (size-good last s e) ∙ stop))) in
      ap (any refused) (all-next (line_size true) (size-most true) s k (sym (size-whole last s some)) some)
      ∙ ap (λ (b : Bool). b || any refused (lines_of (drop k s))) bad

  any-behind : (ps qs : List (List ℕ)) → Each (λ line. refused line ≡ false) ps → any refused (ps ++ qs) ≡ any refused qs
  unfolding any
  any-behind [] qs h = refl
  any-behind (p ∷ ps) qs h = rw h.0 (any-behind ps qs h.1)

  -- whether a line is refused is told behind those that are taken
  pub any-then : (last : Bool) (s : List ℕ) → any refused (lines_of s) ≡ any refused (lines_of (left_of (good_size refused last) s))
  any-then last s =
      ap (any refused) (lines_then last s)
      ∙ any-behind (all_pieces (good_size refused last) s) (lines_of (left_of (good_size refused last) s)) (each-good last (length s) s)

  -- where nothing is left, the lines are those that are taken
  pub lines-taken : (s : List ℕ) → left_of (good_size refused true) s ≡ [] → lines_of s ≡ all_pieces (good_size refused true) s
  lines-taken s all =
      let taken = all_pieces (good_size refused true) s in
      lines_then true s
      ∙ ap (λ (l : List ℕ). taken ++ lines_of l) all
      ∙ ap (λ (ls : List (List ℕ)). taken ++ ls) no_lines
      ∙ append-nil taken

  module _ (text : List ℕ) (all : left_of (good_size refused true) (rest refused text) ≡ []) where
    pub lines-all : lines_of text ≡ good_lines refused text ++ all_pieces (good_size refused true) (rest refused text)
    lines-all = lines_then false text ∙ ap (λ (ls : List (List ℕ)). good_lines refused text ++ ls) (lines-taken (rest refused text) all)

    pub lines-good : Each (λ line. refused line ≡ false) (lines_of text)
    lines-good =
        subst (Each (λ line. refused line ≡ false)) (sym lines-all)
        (each_append (λ line. refused line ≡ false) (good_lines refused text) (all_pieces (good_size refused true) (rest refused text))
        (each-good false (length text) text) (each-good true (length (rest refused text)) (rest refused text)))
