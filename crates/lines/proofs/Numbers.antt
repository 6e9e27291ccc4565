-- The numbers of a line, one at a time: what is written and what is left make up all. Assumes nothing.
use mathlib.Core.Path.{◌≡◌, refl, sym, ap, ◌∙◌}
use mathlib.Core.List.{List, [], ◌∷◌, ◌++◌, append-nil}
use Prim.Native.Nat.{ℕ, ◌+◌, ◌≤◌, ◌<◌}
use native.Mathlib.Numerals.{add-one}
use native.Mathlib.Omega.{arith}
use lib.ListN.{length, get_or, set, drop, length-append}
use lib.Seq.{sets, drop-cons, drop-length}
use borrow.Author.Tests.{le-leb, lt-leb}
use Rattle.machine.specs.Printed.{Line, decimal, numbers_text, text}
use Rattle.lines.specs.Placed.{Placed, placed, line_text}
use Rattle.lists.proofs.Stores.{sets_then}

-- the text of what is left from number i on
abbrev pub text_from : List ℕ → ℕ → List ℕ
text_from xs i = numbers_text (drop i xs)

-- a space and a number
abbrev pub number_text : ℕ → List ℕ
number_text n = 32 ∷ decimal 20 n

pub text-next : (i : ℕ) (xs : List ℕ) → i < length xs → text_from xs i ≡ number_text (get_or xs i 0) ++ text_from xs (i + 1)
unfolding numbers_text
text-next i xs lt = rw (add-one i, drop-cons xs i 0) refl

pub text-end : (i : ℕ) (xs : List ℕ) → i ≡ length xs → text_from xs i ≡ 10 ∷ []
unfolding numbers_text
text-end i xs e = ap numbers_text (ap (λ (j : ℕ). drop j xs) e ∙ drop-length xs)

pub length-next : (i : ℕ) (xs : List ℕ) → i < length xs
    → length (text_from xs i) ≡ 1 + length (decimal 20 (get_or xs i 0)) + length (text_from xs (i + 1))
length-next i xs lt =
    omega (arith, ap length (text-next i xs lt), length-append (number_text (get_or xs i 0)) (text_from xs (i + 1)))

-- a number written: what is left is written behind it
pub sets-next : (i : ℕ) (xs out : List ℕ) (to : ℕ) → i < length xs
    → sets (sets out to (number_text (get_or xs i 0))) (to + (1 + length (decimal 20 (get_or xs i 0)))) (text_from xs (i + 1))
    ≡ sets out to (text_from xs i)
sets-next i xs out to lt =
    ap (λ (k : ℕ). sets (sets out to (number_text (get_or xs i 0))) k (text_from xs (i + 1))) (omega arith)
    ∙ sets_then out to (number_text (get_or xs i 0)) (text_from xs (i + 1))
    ∙ ap (sets out to) (sym (text-next i xs lt))

-- ---- a line

pub line-text : (l : Line) → line_text l ≡ l.letter ∷ numbers_text l.numbers
unfolding line_text text
line-text l = ap (λ (t : List ℕ). l.letter ∷ t) (append-nil (numbers_text l.numbers))

pub length-line : (l : Line) → length (line_text l) ≡ 1 + length (numbers_text l.numbers)
length-line l = omega (arith, ap length (line-text l))

pub placed-fits : (t out : List ℕ) (at : ℕ) → at + length t ≤ length out → placed t out at ≡ (at + length t, sets out at t)
unfolding placed
placed-fits t out at h = rw (le-leb (at + length t) (length out) h) refl

pub placed-not : (t out : List ℕ) (at : ℕ) → length out < at + length t → placed t out at ≡ (at, out)
unfolding placed
placed-not t out at h = rw (lt-leb (at + length t) (length out) h) refl

-- a letter, and the numbers behind it
pub placed-line : (l : Line) (out mid : List ℕ) (at r : ℕ) (last : List ℕ) → at + (1 + length (numbers_text l.numbers)) ≤ length out
    → mid ≡ set out at l.letter
    → r ≡ at + 1 + length (numbers_text l.numbers)
    → last ≡ sets mid (at + 1) (numbers_text l.numbers)
    → ◌≡◌ {A = Placed} (r, last) (placed (line_text l) out at)
placed-line l out mid at r last h m n e =
    let t = numbers_text l.numbers in
    let last' : last ≡ sets out at (line_text l) =
    e
    ∙ ap (λ (o : List ℕ). sets o (at + 1) t) m
    ∙ ap (λ (k : ℕ). sets (set out at l.letter) k t) (add-one at)
    ∙ ap (sets out at) (sym (line-text l))
    in
    ap (λ (k : ℕ). (k, last)) (omega (arith, n, length-line l)) ∙ ap (λ (o : List ℕ). (at + length (line_text l), o)) last'
    ∙ sym (placed-fits (line_text l) out at (omega (arith, h, length-line l)))
