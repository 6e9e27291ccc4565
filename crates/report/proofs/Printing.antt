-- The text of a whole input is what document 01's machine prints for it. Assumes nothing.
use mathlib.Core.Path.{◌≡◌, refl, sym, ap, ap₂, subst, ◌∙◌}
use mathlib.Core.Bool.{true, false}
use mathlib.Core.List.{List, [], ◌∷◌, ◌++◌, append_assoc}
use mathlib.Core.Option.{none}
use Prim.Native.Nat.{ℕ, ◌+◌, ◌*◌, ◌≤◌, ◌<◌}
use native.Mathlib.Omega.{arith}
use lib.ListN.{length, drop, length-append}
use lib.Seq.{sets}
use borrow.Author.Tests.{le-leb, lt-leb}
use Rattle.lists.proofs.Each.{Each}
use Rattle.machine.specs.State as M
use Rattle.machine.specs.Machine.{step}
use Rattle.machine.specs.Run.{run_from}
use Rattle.machine.specs.Printed.{Line, s_line, fields_in, lines_from, text, printed}
use Rattle.lines.specs.Placed.{Placed}
use Rattle.case.specs.Cases.{Held}
use Rattle.case.specs.Cases.{applied, no_held}
use Rattle.lists.specs.Lists.{Bytes}
use Rattle.input.specs.Strings.{bytes_of}
use Rattle.input.specs.Fields.{whole_first}
use Rattle.case.specs.Input.{ledger_after}
use Rattle.case.proofs.Running.{after_two}
use Rattle.case.proofs.Claim.{Tied, takes, ledger-tied, fields-bytes}
use Rattle.report.specs.declared.Taken.{Taken}
use Rattle.report.specs.Texts.{ledger_lines, held_lines, cut_lines, placed_lines, PartTaken, take_part, TakesPart, Prints}
use Rattle.input.specs.Fields.{whole, rest}
use Rattle.report.proofs.Placing.{text-append, text-one, lines_then, lines_fit}
use Rattle.report.proofs.Widths.{line-most}
use Rattle.report.proofs.Ending.{ends-tied, held-most}
use Rattle.input.proofs.Parts.{cut_fields, rest-cut, fields_split}
use Rattle.report.proofs.CutOff.{cut-lines, cut-after}
use Rattle.report.proofs.Taking.{lines_two}

-- ---- the machine's lines are the program's

lines-from : (h : Held) (s : M.State) → Tied h s → (fields : List (List ℕ)) → Each Bytes fields
    → lines_from s fields ≡ ledger_lines h fields ++ held_lines (ledger_after h fields)
unfolding lines_from ledger_lines ledger_after
lines-from h s t [] b = sym (ends-tied h s t)
lines-from h s t (f ∷ fs) b =
    let now = takes h s t f b.0 in
    let rest = lines-from (applied h f).held (step s f).state now.tied fs b.1 in
    ap₂ (λ (n : ℕ) (ls : List Line). s_line f n ∷ ls) (sym now.answer) rest

none-tied : Tied no_held none
unfolding ledger_after run_from
none-tied = ledger-tied [] tt

-- what is held after an input
abbrev pub after : List ℕ → Held
after input = ledger_after no_held (whole input)

-- the fields of it, the one that is cut off too
abbrev all : List ℕ → List (List ℕ)
all input = whole input ++ cut_fields (rest input)

module _ (input : List ℕ) (bytes : Bytes input) where
  cut : whole_first (rest input) ≡ false
  cut = rest-cut input

  -- the lines of all fields
  fields-lines : ledger_lines no_held (all input) ≡ ledger_lines no_held (whole input) ++ cut_lines (rest input)
  fields-lines =
      lines_two no_held (whole input) (cut_fields (rest input))
      ∙ ap (λ (ls : List Line). ledger_lines no_held (whole input) ++ ls) (cut-lines (after input) (rest input) cut)

  fields-after : ledger_after no_held (all input) ≡ after input
  fields-after = after_two no_held (whole input) (cut_fields (rest input)) ∙ cut-after (after input) (rest input) cut

  fields-are : fields_in (length input) input ≡ all input
  fields-are = fields_split (length input) input (omega arith)

  bytes-are : Each Bytes (all input)
  bytes-are = subst (λ (fs : List (List ℕ)). Each Bytes fs) fields-are (fields-bytes (length input) input bytes)

  -- what the machine prints
  pub printed-is : printed input ≡ text (ledger_lines no_held (whole input) ++ (cut_lines (rest input) ++ held_lines (after input)))
  unfolding printed
  printed-is =
      ap text
      (ap (lines_from none) fields-are
      ∙ lines-from no_held none none-tied (all input) bytes-are
      ∙ ap₂ (λ (ls : List Line) (h : Held). ls ++ held_lines h) fields-lines fields-after
      ∙ append_assoc (ledger_lines no_held (whole input)) (cut_lines (rest input)) (held_lines (after input)))

  after_tied : Tied (after input) (run_from none (all input))
  after_tied = subst (λ (h : Held). Tied h (run_from none (all input))) fields-after (ledger-tied (all input) bytes-are)

  cut_most : (s : List ℕ) → length (text (cut_lines s)) ≤ 44
  unfolding cut_lines text s_line
  cut_most [] = omega arith
  cut_most (x ∷ s) = omega (arith, ap length (text-one (s_line (x ∷ []) 1)), line-most (s_line (x ∷ []) 1))

  -- what is printed behind the s lines of the whole fields
  pub last-most : length (text (cut_lines (rest input) ++ held_lines (after input))) ≤ 4096
  last-most =
      omega (
        arith,
        ap length (text-append (cut_lines (rest input)) (held_lines (after input))),
        length-append (text (cut_lines (rest input))) (text (held_lines (after input))),
        cut_most (rest input),
        held-most (after input) (run_from none (all input)) after_tied,
      )

-- ---- the contract of `print`

-- a buffer that is too small is untouched
pub prints-none : (input old : List ℕ) → length old < 4 * length input + 4096 → Prints input old old false 0
prints-none input old h = record { whole = sym (lt-leb (4 * length input + 4096) (length old) h); len = refl; text = refl }

-- the s lines of the whole fields
abbrev lines : List ℕ → List Line
lines input = ledger_lines no_held (whole input)

-- all lines
abbrev printed_lines : List ℕ → List Line
printed_lines input = lines input ++ (cut_lines (rest input) ++ held_lines (after input))

-- what is taken where there is room
pub taken_is : (h : Held) (input old : List ℕ) → 4 * length input ≤ length old
    → take_part h input old
    ≡ (
      record { held = ledger_after h (whole input); used = bytes_of (whole input); written = length (text (ledger_lines h (whole input))) },
      sets old 0 (text (ledger_lines h (whole input))),
    )
unfolding take_part
taken_is h input old room = rw (le-leb (4 * length input) (length old) room) refl

module _ (input old mid new last : List ℕ) (t : Taken) (to len : ℕ) (bytes : Bytes input) (room : 4 * length input + 4096 ≤ length old) (taken : TakesPart no_held input old mid t) where
  is : ◌≡◌ {A = PartTaken} (t, mid) (record { held = after input; used = bytes_of (whole input); written = length (text (lines input)) }, sets old 0 (text (lines input)))
  is = taken.is ∙ taken_is no_held input old (omega arith)

  -- the s lines
  first : ◌≡◌ {A = Placed} (t.written, mid) (placed_lines (lines input) old 0)
  first =
      let n : t.written ≡ length (text (lines input)) = ap (λ (p : PartTaken). p.0.written) is in
      ap (λ (p : PartTaken). (p.0.written, p.1)) is
      ∙ ap (λ (k : ℕ). (k, sets old 0 (text (lines input)))) (omega arith)
      ∙ sym (lines_fit (lines input) old 0 (omega (arith, n, taken.fits)))

  pub prints : ◌≡◌ {A = Placed} (to, new) (placed_lines (cut_lines (drop t.used input)) mid t.written)
      → ◌≡◌ {A = Placed} (len, last) (placed_lines (held_lines t.held) new to)
      → Prints input old last true len
  prints e f =
      let n : t.written ≡ length (text (lines input)) = ap (λ (p : PartTaken). p.0.written) is in
      let e' : ◌≡◌ {A = Placed} (to, new) (placed_lines (cut_lines (rest input)) mid t.written) =
      e ∙ ap (λ (p : PartTaken). placed_lines (cut_lines (drop p.0.used input)) mid t.written) is in
      let f' : ◌≡◌ {A = Placed} (len, last) (placed_lines (held_lines (after input)) new to) =
      f ∙ ap (λ (p : PartTaken). placed_lines (held_lines p.0.held) new to) is in
      let g : ◌≡◌ {A = Placed} (len, last) (placed_lines (printed_lines input) old 0) =
      lines_then (lines input) (cut_lines (rest input) ++ held_lines (after input)) old mid last 0 t.written len first
      (lines_then (cut_lines (rest input)) (held_lines (after input)) mid new last t.written to len e' f') in
      let size : length (text (printed_lines input)) ≡ length (text (lines input)) + length (text (cut_lines (rest input) ++ held_lines (after input))) =
      ap length (text-append (lines input) (cut_lines (rest input) ++ held_lines (after input)))
      ∙ length-append (text (lines input)) (text (cut_lines (rest input) ++ held_lines (after input))) in
      let fit : placed_lines (printed_lines input) old 0 ≡ (0 + length (text (printed_lines input)), sets old 0 (text (printed_lines input))) =
      lines_fit (printed_lines input) old 0 (omega (arith, n, taken.short, taken.used, size, last-most input bytes)) in
      let same : text (printed_lines input) ≡ printed input = sym (printed-is input bytes) in
      record {
        whole = sym (le-leb (4 * length input + 4096) (length old) room);
        len = ap (λ (p : Placed). p.0) (g ∙ fit) ∙ omega arith ∙ ap length same;
        text = ap (λ (p : Placed). p.1) (g ∙ fit) ∙ ap (sets old 0) same;
      }
