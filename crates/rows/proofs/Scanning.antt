-- A line read one byte at a time. Assumes nothing.
use mathlib.Core.Path.{◌≡◌, sym, ap, ◌∙◌}
use mathlib.Core.List.{List, [], ◌∷◌, ◌++◌}
use Prim.Native.Nat.{ℕ, suc, ◌+◌, ◌≤◌, ◌<◌}
use native.Mathlib.Numerals.{add-one}
use native.Mathlib.Omega.{arith}
use lib.ListN.{length, get_or, drop}
use lib.Seq.{drop-cons, drop-length}
use Rattle.rows.specs.declared.Scan.{Scan}
use Rattle.rows.specs.Reading.{step, scan}

module _ (least most limit : ℕ) where
  pub scan-next : (s : Scan) (i : ℕ) (line : List ℕ) → i < length line
      → scan least most limit (step least most limit s (get_or line i 0) i) (i + 1) (drop (i + 1) line) ≡ scan least most limit s i (drop i line)
  unfolding scan
  scan-next s i line h = rw (add-one i) (sym (ap (scan least most limit s i) (drop-cons line i 0 h)))

  pub scan-end : (s : Scan) (i : ℕ) (line : List ℕ) → i ≤ length line → length line ≤ i → scan least most limit s i (drop i line) ≡ s
  unfolding scan
  scan-end s i line l h =
      let e : i ≡ length line = omega arith in
      ap (scan least most limit s i) (ap (λ (k : ℕ). drop k line) e ∙ drop-length line)

  pub scan-append : (s : Scan) (i : ℕ) (xs ys : List ℕ)
      → scan least most limit s i (xs ++ ys) ≡ scan least most limit (scan least most limit s i xs) (i + length xs) ys
  unfolding scan
  scan-append s i [] ys = ap (λ (k : ℕ). scan least most limit s k ys) (omega arith)
  scan-append s i (b ∷ xs) ys =
      scan-append (step least most limit s b i) (suc i) xs ys
      ∙ ap (λ (k : ℕ). scan least most limit (scan least most limit (step least most limit s b i) (suc i) xs) k ys) (omega arith)
