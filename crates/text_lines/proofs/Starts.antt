-- Where the lines of a text begin. Assumes nothing.
use mathlib.Core.Path.{◌≡◌, refl, sym, ap, ◌∙◌}
use mathlib.Core.Bool.{true}
use mathlib.Core.List.{List}
use Prim.Native.Nat.{ℕ, ◌+◌, ◌-◌, ◌≤◌}
use native.Mathlib.Omega.{arith}
use lib.Dec.{eqb}
use lib.ListN.{length, take, drop, length-take}
use borrow.Author.Tests.{eqb-true, eqb-false}
use Rattle.lists.proofs.Bools.{cases}
use Rattle.input.specs.Strings.{bytes_of}
use Rattle.input.specs.Pieces.{pieces}
use Rattle.input.proofs.Strings.{bytes-two}
use Rattle.input.proofs.Fronts.{rest_all}
use Rattle.input.proofs.Pieces.{front-zero, front-none, front-next, bytes_most, fields-then}
use Rattle.text_lines.specs.Lines.{length_to, line_size, start_of, line_at}
use Rattle.text_lines.proofs.Lines.{size-most}

pub start_first : (text : List ℕ) → 0 ≡ start_of 0 text
unfolding start_of pieces bytes_of
start_first text = refl

-- it is within the text
pub start-most : (k : ℕ) (text : List ℕ) → start_of k text ≤ length text
unfolding start_of
start-most k text = bytes_most (line_size true) (size-most true) k text

-- the bytes of the first line
one_line : (s : List ℕ) → bytes_of (pieces (line_size true) 1 s) ≡ line_size true s
unfolding bytes_of
one_line s =
    let k = line_size true s in
    cases (eqb k 0) (bytes_of (pieces (line_size true) 1 s) ≡ k)
    (λ t. let z = eqb-true k 0 t in ap bytes_of (front-none (line_size true) (size-most true) 1 s z) ∙ sym z)
    (λ t.
    ap bytes_of (front-next (line_size true) (size-most true) 0 s (eqb-false k 0 t))
    ∙ ap (λ (ps : List (List ℕ)). length (take k s) + bytes_of ps) (front-zero (line_size true) (size-most true) (drop k s))
    ∙ omega (arith, length-take k s, size-most true s))

-- the next line begins behind this one
pub start-next : (text : List ℕ) (i at n : ℕ) → at ≡ start_of i text → n ≡ line_size true (take (length text - at) (drop at text)) → at + n ≡ start_of (i + 1) text
unfolding start_of
start-next text i at n is e =
    let size = line_size true in
    let behind = drop (bytes_of (pieces size i text)) text in
    let line : n ≡ bytes_of (pieces size 1 behind) =
    e ∙ ap size (rest_all text at ∙ ap (λ (k : ℕ). drop k text) is) ∙ sym (one_line behind) in
    let all : bytes_of (pieces size (i + 1) text) ≡ bytes_of (pieces size i text) + bytes_of (pieces size 1 behind) =
    ap bytes_of (fields-then size (size-most true) i 1 text) ∙ bytes-two (pieces size i text) (pieces size 1 behind) in
    omega arith

-- the line that is lent to be put
pub line-lent : (text : List ℕ) (k start n : ℕ) → start ≡ start_of k text → n ≡ length_to (take (length text - start) (drop start text)) → take (start + n - start) (drop start text) ≡ line_at k text
unfolding line_at
line-lent text k start n s e =
    let same : n ≡ length_to (drop (start_of k text) text) = e ∙ ap length_to (rest_all text start ∙ ap (λ (j : ℕ). drop j text) s) in
    let back : start + n - start ≡ n = omega arith in
    ap (λ (j : ℕ). take j (drop start text)) (back ∙ same) ∙ ap (λ (j : ℕ). take (length_to (drop (start_of k text) text)) (drop j text)) s
