-- A field that is cut off by the input's end: it is answered 1, and what is held stays. Assumes nothing.
use Rattle.std.specs.Prelude.{Some, is_some}
use mathlib.Core.Path.{◌≡◌, refl, sym, ap, ◌∙◌}
use mathlib.Core.Bool.{Bool, false, ◌&&◌}
use mathlib.Core.List.{List, [], ◌∷◌}
use mathlib.Core.Option.{none}
use Prim.Native.Nat.{ℕ, ◌+◌, ◌*◌, ◌<◌}
use native.Mathlib.Omega.{arith}
use lib.Dec.{leb, eqb}
use lib.ListN.{length}
use borrow.Author.Tests.{le-leb, leb-false, ne_eqb}
use Rattle.lists.specs.Lists.{when◌then◌else◌, between}
use Rattle.lists.proofs.Bools.{same-choice, and-false}
use Rattle.machine.specs.Wire.{decode}
use Rattle.machine.specs.Printed.{s_line}
use Rattle.input.specs.Fields.{field_size, whole_first}
use Rattle.input.proofs.Fields.{size-whole}
use Rattle.input.proofs.Parts.{cut_fields}
use Rattle.case.specs.Cases.{Held, case_in}
use Rattle.case.specs.declared.Applied.{Applied}
use Rattle.case.specs.Cases.{case_answer_to, first_answer_to, answer_to, after_asked, take_asked, applied}
use Rattle.case.specs.Input.{ledger_after}
use Rattle.report.specs.Texts.{ledger_lines, cut_lines}

decode-cut : (s : List ℕ) → whole_first s ≡ false → decode s ≡ none
unfolding decode
decode-cut [] w = refl
decode-cut (tag ∷ []) w = refl
decode-cut (tag ∷ high ∷ []) w = refl
decode-cut (tag ∷ high ∷ low ∷ v) w =
    let s : List ℕ = tag ∷ high ∷ low ∷ v in
    let size = size-whole s (omega arith) in
    let more : length s < field_size s = leb-false (field_size s) (length s) (sym (ap (λ (t : Bool). t && leb (field_size s) (length s)) (le-leb 3 (length s) (omega arith))) ∙ w) in
    rw (ne_eqb (high * 256 + low) (length v) (λ e. omega (arith, size, more, e)), and-false (between 1 15 tag)) refl

applied-cut : (h : Held) (s : List ℕ) → whole_first s ≡ false → ◌≡◌ {A = Applied} (applied h s) (record { answer = 1; held = h })
unfolding applied take_asked answer_to case_answer_to first_answer_to
applied-cut h s w =
    ap (take_asked h) (decode-cut s w)
    ∙ ap (λ (n : ℕ). record { answer = n; held = when eqb n 0 then Some (after_asked (case_in h) none) else h }) (same-choice (is_some h) 1)

pub cut-lines : (h : Held) (s : List ℕ) → whole_first s ≡ false → ledger_lines h (cut_fields s) ≡ cut_lines s
unfolding ledger_lines cut_lines s_line
cut-lines h [] w = refl
cut-lines h (x ∷ s) w = ap (λ (o : Applied). s_line (x ∷ []) o.answer ∷ []) (applied-cut h (x ∷ s) w)

pub cut-after : (h : Held) (s : List ℕ) → whole_first s ≡ false → ledger_after h (cut_fields s) ≡ h
unfolding ledger_after
cut-after h [] w = refl
cut-after h (x ∷ s) w = ap (λ (o : Applied). o.held) (applied-cut h (x ∷ s) w)
