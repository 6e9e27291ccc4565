-- A line read one byte at a time. Assumes nothing.
use mathlib.Core.Path.{◌≡◌, sym, ap, ◌∙◌}
use mathlib.Core.List.{List}
use Prim.Native.Nat.{ℕ, ◌+◌, ◌≤◌, ◌<◌}
use native.Mathlib.Numerals.{add-one}
use native.Mathlib.Omega.{arith}
use lib.ListN.{length, get_or, drop}
use lib.Seq.{drop-cons, drop-length}
use Rattle.notation.specs.declared.Scan.{Scan}
use Rattle.notation.specs.Reading.{step, scan}

pub scan-next : (s : Scan) (i : ℕ) (line : List ℕ) → i < length line
    → scan (step s (get_or line i 0) i) (i + 1) (drop (i + 1) line) ≡ scan s i (drop i line)
unfolding scan
scan-next s i line h = rw (add-one i) (sym (ap (scan s i) (drop-cons line i 0 h)))

pub scan-end : (s : Scan) (i : ℕ) (line : List ℕ) → i ≤ length line → length line ≤ i → scan s i (drop i line) ≡ s
unfolding scan
scan-end s i line l h =
    let e : i ≡ length line = omega arith in
    ap (scan s i) (ap (λ (k : ℕ). drop k line) e ∙ drop-length line)
