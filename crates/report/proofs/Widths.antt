-- The bytes that numbers and lines take. Assumes nothing.
use mathlib.Core.List.{List, [], ◌∷◌}
use Prim.Native.Nat.{ℕ, zero, suc, ◌+◌, ◌*◌, ◌/◌, ◌%◌, ◌^◌, ◌≤◌, ◌<◌}
use native.Mathlib.Nat.{pow-suc, div-lt_iff_lt-mul}
use native.Mathlib.Omega.{arith}
use lib.Dec.{ltb}
use lib.ListN.{length, length-append}
use borrow.Author.Tests.{lt-ltb}
use Rattle.lists.specs.Lists.{when◌then◌else◌}
use Rattle.lists.proofs.Bools.{either}
use Rattle.machine.specs.Printed.{Line, s_line, decimal, numbers_text}
use Rattle.lines.specs.Placed.{line_text}
use Rattle.lines.proofs.Numbers.{length-line}

-- a number has at most as many digits as it is given
decimal-most : (k n : ℕ) → length (decimal k n) ≤ k
unfolding decimal
decimal-most zero n = omega arith
decimal-most (suc k) n =
    let more = decimal k (n / 10) in
    let h : length (when ltb n 10 then [] else more) ≤ k =
    either (λ (l : List ℕ). length l ≤ k) (ltb n 10) (omega arith) (decimal-most k (n / 10)) in
    omega (arith, h, length-append (when ltb n 10 then [] else more) ((48 + n % 10) ∷ []))

-- a number below 10 has one digit, one below 100 at most two, and so on
decimal-digits : (d k n : ℕ) → n < 10 ^ suc d → length (decimal k n) ≤ suc d
unfolding decimal
decimal-digits d zero n h = omega arith
decimal-digits zero (suc k) n h = rw (lt-ltb n 10 h) (omega arith)
decimal-digits (suc d) (suc k) n h =
    let more = decimal k (n / 10) in
    let fewer : n / 10 < 10 ^ suc d = (div-lt_iff_lt-mul {k = 10} {x = n} {y = 10 ^ suc d} (omega arith)).1 (rw (pow-suc 10 (suc d)) at h) in
    let some : length (when ltb n 10 then [] else more) ≤ suc d =
    either (λ (l : List ℕ). length l ≤ suc d) (ltb n 10) (omega arith) (decimal-digits d k (n / 10) fewer) in
    omega (arith, some, length-append (when ltb n 10 then [] else more) ((48 + n % 10) ∷ []))

-- a line has at most 21 bytes for each number, and two more
pub numbers-most : (ns : List ℕ) → length (numbers_text ns) ≤ 1 + 21 * length ns
unfolding numbers_text
numbers-most [] = omega arith
numbers-most (n ∷ ns) = omega (arith, length-append (decimal 20 n) (numbers_text ns), decimal-most 20 n, numbers-most ns)

pub line-most : (l : Line) → length (line_text l) ≤ 2 + 21 * length l.numbers
line-most l = omega (arith, length-line l, numbers-most l.numbers)

-- an s line has at most 10 bytes
pub s-line-most : (tag n : ℕ) → tag < 256 → n < 256 → length (line_text (s_line (tag ∷ []) n)) ≤ 10
unfolding s_line numbers_text
s-line-most tag n h k =
    omega (
      arith,
      length-line (s_line (tag ∷ []) n),
      length-append (decimal 20 tag) (numbers_text (n ∷ [])),
      length-append (decimal 20 n) (numbers_text []),
      decimal-digits 2 20 tag (omega arith),
      decimal-digits 2 20 n (omega arith),
    )
