-- Lines put into a buffer in turn: line by line, one run of lines behind another, and all at once where there is room for their text. Assumes nothing.
use mathlib.Core.Path.{◌≡◌, refl, sym, ap, ◌∙◌}
use mathlib.Core.List.{List, [], ◌∷◌, ◌++◌, append_assoc}
use mathlib.Core.Logic.{⊎_elim}
use Prim.Native.Nat.{ℕ, suc, ◌+◌, ◌-◌, ◌≤◌, ◌<◌}
use native.Mathlib.Omega.{arith}
use lib.ListN.{length, length-append}
use lib.Seq.{sets, length-sets}
use Rattle.lists.specs.Lists.{tab}
use Rattle.lists.proofs.Bools.{lt-or-le}
use Rattle.lists.proofs.Places.{tab-ext}
use Rattle.machine.specs.Printed.{Line, numbers_text, text}
use Rattle.lines.specs.Placed.{Placed, placed, line_text}
use Rattle.lists.proofs.Stores.{sets_then}
use Rattle.lines.proofs.Numbers.{line-text, placed-fits, placed-not}
use Rattle.report.specs.Texts.{placed_lines}

-- ---- texts of lines

pub text-append : (a b : List Line) → text (a ++ b) ≡ text a ++ text b
unfolding text
text-append [] b = refl
text-append (l ∷ a) b =
    ap (λ (t : List ℕ). l.letter ∷ numbers_text l.numbers ++ t) (text-append a b)
    ∙ ap (λ (t : List ℕ). l.letter ∷ t) (sym (append_assoc (numbers_text l.numbers) (text a) (text b)))

pub text-line : (l : Line) (ls : List Line) → text (l ∷ ls) ≡ line_text l ++ text ls
unfolding text
text-line l ls = ap (λ (t : List ℕ). t ++ text ls) (sym (line-text l))

pub text-one : (l : Line) → text (l ∷ []) ≡ line_text l
unfolding line_text
text-one l = refl

-- ---- the buffer's length and the place

pub placed-length : (t out : List ℕ) (at : ℕ) → length (placed t out at).1 ≡ length out
placed-length t out at =
    ⊎_elim
    (λ l. ap (λ (p : Placed). length p.1) (placed-not t out at l))
    (λ l. ap (λ (p : Placed). length p.1) (placed-fits t out at l) ∙ length-sets out at t)
    (lt-or-le (length out) (at + length t))

placed-inside : (t out : List ℕ) (at : ℕ) → at ≤ length out → (placed t out at).0 ≤ length out
placed-inside t out at h =
    ⊎_elim
    (λ l. omega (arith, ap (λ (p : Placed). p.0) (placed-not t out at l)))
    (λ l. omega (arith, ap (λ (p : Placed). p.0) (placed-fits t out at l)))
    (lt-or-le (length out) (at + length t))

pub lines-length : (ls : List Line) (out : List ℕ) (at : ℕ) → length (placed_lines ls out at).1 ≡ length out
unfolding placed_lines
lines-length [] out at = refl
lines-length (l ∷ ls) out at =
    let p = placed (line_text l) out at in
    lines-length ls p.1 p.0 ∙ placed-length (line_text l) out at

-- the place behind the lines is within the buffer
pub lines-inside : (ls : List Line) (out : List ℕ) (at : ℕ) → at ≤ length out → (placed_lines ls out at).0 ≤ length out
unfolding placed_lines
lines-inside [] out at h = h
lines-inside (l ∷ ls) out at h =
    let p = placed (line_text l) out at in
    let e = placed-length (line_text l) out at in
    let i = placed-inside (line_text l) out at h in
    omega (arith, e, lines-inside ls p.1 p.0 (omega (arith, e, i)))

pub lines-within : (ls : List Line) (out : List ℕ) (at r : ℕ) (last : List ℕ) → ◌≡◌ {A = Placed} (r, last) (placed_lines ls out at) → at ≤ length out
    → r ≤ length last
lines-within ls out at r last e h =
    omega (
      arith,
      ap (λ (p : Placed). p.0) e,
      ap (λ (p : Placed). length p.1) e,
      lines-inside ls out at h,
      lines-length ls out at,
    )

-- ---- in turn

-- the first line put, and the others behind it
pub line-next : (l : Line) (ls : List Line) (out : List ℕ) (to r : ℕ) (last : List ℕ) → ◌≡◌ {A = Placed} (r, last) (placed (line_text l) out to)
    → placed_lines ls last r ≡ placed_lines (l ∷ ls) out to
unfolding placed_lines
line-next l ls out to r last e = ap (λ (p : Placed). placed_lines ls p.1 p.0) e

pub lines_none : (out : List ℕ) (at : ℕ) → ◌≡◌ {A = Placed} (at, out) (placed_lines [] out at)
unfolding placed_lines
lines_none out at = refl

-- one line
pub lines-one : (l : Line) (out : List ℕ) (at : ℕ) → placed (line_text l) out at ≡ placed_lines (l ∷ []) out at
unfolding placed_lines
lines-one l out at = refl

-- lines behind lines
pub lines-append : (a b : List Line) (out : List ℕ) (at : ℕ) → placed_lines (a ++ b) out at ≡ placed_lines b (placed_lines a out at).1 (placed_lines a out at).0
unfolding placed_lines
lines-append [] b out at = refl
lines-append (l ∷ a) b out at =
    let p = placed (line_text l) out at in
    lines-append a b p.1 p.0

-- two runs of lines put one after the other
pub lines_then : (a b : List Line) (out mid last : List ℕ) (at to r : ℕ) → ◌≡◌ {A = Placed} (to, mid) (placed_lines a out at)
    → ◌≡◌ {A = Placed} (r, last) (placed_lines b mid to)
    → ◌≡◌ {A = Placed} (r, last) (placed_lines (a ++ b) out at)
lines_then a b out mid last at to r e f = f ∙ ap (λ (p : Placed). placed_lines b p.1 p.0) e ∙ sym (lines-append a b out at)

-- where there is room for all, the text of all
pub lines_fit : (ls : List Line) (out : List ℕ) (at : ℕ) → at + length (text ls) ≤ length out
    → placed_lines ls out at ≡ (at + length (text ls), sets out at (text ls))
unfolding placed_lines text
lines_fit [] out at h = ap (λ (k : ℕ). (k, out)) (omega arith)
lines_fit (l ∷ ls) out at h =
    let t = line_text l in
    let e : text (l ∷ ls) ≡ t ++ text ls = text-line l ls in
    let n : length (text (l ∷ ls)) ≡ length t + length (text ls) = ap length e ∙ length-append t (text ls) in
    let f : placed t out at ≡ (at + length t, sets out at t) = placed-fits t out at (omega (arith, n)) in
    ap (λ (p : Placed). placed_lines ls p.1 p.0) f
    ∙ lines_fit ls (sets out at t) (at + length t) (omega (arith, n, length-sets out at t))
    ∙ ap (λ (k : ℕ). (k, sets (sets out at t) (at + length t) (text ls))) (omega (arith, n))
    ∙ ap (λ (o : List ℕ). (at + length (text (l ∷ ls)), o)) (sets_then out at t (text ls) ∙ ap (sets out at) (sym e))

-- ---- the lines of a table, from a place on

abbrev pub tab_from : ℕ → ℕ → (ℕ → Line) → List Line
tab_from i n f = tab (n - i) (λ k. f (i + k))

tab-next : (i m : ℕ) (f : ℕ → Line) → tab (suc m) (λ k. f (i + k)) ≡ f i ∷ tab m (λ k. f (i + 1 + k))
unfolding tab
tab-next i m f =
    ap (λ (j : ℕ). f j ∷ tab m (λ k. f (i + suc k))) (omega arith)
    ∙ ap (λ (t : List Line). f i ∷ t) (tab-ext m (λ k. f (i + suc k)) (λ k. f (i + 1 + k)) (λ k h. ap f (omega arith)))

pub from_start : (n : ℕ) (f : ℕ → Line) → tab_from 0 n f ≡ tab n f
from_start n f = ap (λ (m : ℕ). tab m (λ k. f (0 + k))) (omega arith) ∙ tab-ext n (λ k. f (0 + k)) f (λ k h. ap f (omega arith))

pub from_next : (i n : ℕ) (f : ℕ → Line) → i < n → tab_from i n f ≡ f i ∷ tab_from (i + 1) n f
from_next i n f h = ap (λ (m : ℕ). tab m (λ k. f (i + k))) (omega arith) ∙ tab-next i (n - (i + 1)) f

pub from_end : (i n : ℕ) (f : ℕ → Line) → n ≤ i → tab_from i n f ≡ []
unfolding tab
from_end i n f h = let z : n - i ≡ 0 = omega arith in rw z refl
