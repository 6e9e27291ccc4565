-- Reading the text of numbers gives the numbers. Assumes nothing.
use Rattle.std.specs.Prelude.{Result, Ok}
use mathlib.Core.Path.{◌≡◌, refl, ap, ◌∙◌}
use mathlib.Core.Bool.{true, false, false≢true}
use mathlib.Core.List.{List, [], ◌∷◌, ◌++◌}
use Prim.Native.Nat.{ℕ, zero, suc, ◌+◌, ◌-◌, ◌*◌, ◌/◌, ◌%◌, ◌^◌, ◌≤◌, ◌<◌, min}
use native.Mathlib.Nat.{pow-suc, div-lt_iff_lt-mul}
use native.Mathlib.Omega.{arith}
use lib.Dec.{ltb}
use lib.ListN.{length, set, drop, replicate}
use lib.Seq.{sets, sets-eq}
use borrow.Author.Tests.{lt-ltb, le-leb, ltb-true}
use Rattle.lists.specs.Lists.{Each}
use Rattle.lists.proofs.Bools.{cases}
use Rattle.machine.specs.Printed.{decimal}
use Rattle.rows.specs.declared.Scan.{Scan}
use Rattle.rows.specs.declared.Row.{Row}
use Rattle.rows.specs.declared.Refusal.{Refusal}
use Rattle.rows.specs.declared.Phase.{Phase}
use Rattle.rows.specs.declared.Phase.TheVariants.{Start, BehindComma, InNumber, BehindNumber, Comment, Ended, Refused}
use Rattle.rows.specs.Scans.{awaits_number, past_numbers, begin, in_number}
use Rattle.rows.specs.Reading.{settle, grow, has_room, first_digit, on_digit, on_comma, ended, byte_read, step, scan, finish, outcome, row_of, more_text, row_text}
use Rattle.rows.proofs.Scanning.{scan-append}

-- a line that is not refused
abbrev row : (count : ℕ) (numbers : List ℕ) → Result Row Refusal
row k l = Ok (record { count = k; numbers = l })

-- some numbers, and 0 at the places behind them
abbrev pub row_with : List ℕ → Result Row Refusal
row_with ns = row (length ns) (ns ++ replicate (32 - length ns) 0)

drop-replicate : (n m : ℕ) → drop {A = ℕ} n (replicate m 0) ≡ replicate (m - n) 0
drop-replicate zero m = let e : m ≡ m - 0 = omega arith in ap (λ (k : ℕ). replicate k 0) e
drop-replicate (suc n) zero = let e : 0 ≡ 0 - suc n = omega arith in ap (λ (k : ℕ). replicate k 0) e
drop-replicate (suc n) (suc m) = let e : m - n ≡ suc m - suc n = omega arith in drop-replicate n m ∙ ap (λ (k : ℕ). replicate k 0) e

digit-back : (d : ℕ) → 48 + d - 48 ≡ d
digit-back d = omega arith

-- where a number is to come, a byte is not passed over
awaits-on : (p : Phase) → awaits_number p ≡ true → past_numbers p ≡ false
awaits-on Start e = refl
awaits-on BehindComma e = refl
awaits-on InNumber e = refl
awaits-on BehindNumber e = refl
awaits-on Comment e = absurd (false≢true e)
awaits-on Ended e = absurd (false≢true e)
awaits-on (Refused reason) e = absurd (false≢true e)

module _ (least most limit : ℕ) where
  -- ---- digits

  -- the first digit of a number for which there is room
  first-digit : (s : Scan) → awaits_number s.phase ≡ true → s.count < min most 32 → (i d : ℕ) → d < 10 → d ≤ limit
      → step least most limit s (48 + d) i ≡ in_number s i d
  unfolding step byte_read on_digit first_digit has_room grow
  first-digit s p h i d l f =
      rw (awaits-on s.phase p, le-leb 48 (48 + d) (omega arith), le-leb (48 + d) 57 (omega arith), p, lt-ltb s.count (min most 32) h, digit-back d, le-leb d limit f)

  -- a digit more
  next-digit : (s : Scan) (start v i d : ℕ) → d < 10 → v * 10 + d ≤ limit
      → step least most limit (in_number s start v) (48 + d) i ≡ in_number s start (v * 10 + d)
  unfolding step byte_read on_digit grow
  next-digit s start v i d l f =
      rw (le-leb 48 (48 + d) (omega arith), le-leb (48 + d) 57 (omega arith), digit-back d, le-leb (v * 10 + d) limit f)

  -- the digits of a number
  digits-read : (s : Scan) → awaits_number s.phase ≡ true → s.count < min most 32 → (i k n : ℕ) → 1 ≤ k → n < 10 ^ k → n ≤ limit
      → scan least most limit s i (decimal k n) ≡ in_number s i n
  unfolding decimal scan
  digits-read s p h i zero n l b f = absurd (omega arith)
  digits-read s p h i (suc zero) n l b f =
      rw (lt-ltb n 10 b) (ap (λ (d : ℕ). step least most limit s (48 + d) i) (omega arith) ∙ first-digit s p h i n b f)
  digits-read s p h i (suc (suc k)) n l b f =
      cases (ltb n 10) _
      (λ e. rw e (ap (λ (d : ℕ). step least most limit s (48 + d) i) (omega (arith, ltb-true n 10 e)) ∙ first-digit s p h i n (ltb-true n 10 e) f))
      (λ e. rw e (longer-read (digits-read s p h i (suc k) (n / 10) (omega arith) (fewer (suc k) n b) (omega arith))))
    where
      fewer : (k n : ℕ) → n < 10 ^ suc k → n / 10 < 10 ^ k
      fewer k n b = (div-lt_iff_lt-mul {k = 10} {x = n} {y = 10 ^ k} (omega arith)).1 (rw (pow-suc 10 k) at b)

      longer-read : scan least most limit s i (decimal (suc k) (n / 10)) ≡ in_number s i (n / 10)
          → scan least most limit s i (decimal (suc k) (n / 10) ++ ((48 + n % 10) ∷ [])) ≡ in_number s i n
      longer-read e =
          let j = i + length (decimal (suc k) (n / 10)) in
          scan-append least most limit s i (decimal (suc k) (n / 10)) ((48 + n % 10) ∷ [])
          ∙ ap (λ (t : Scan). step least most limit t (48 + n % 10) j) e
          ∙ next-digit s i (n / 10) j (n % 10) (omega arith) (omega arith)
          ∙ ap (λ (v : ℕ). in_number s i v) (omega arith)

  -- ---- numbers

  -- behind a comma, with one number more
  abbrev next : Scan → (value place : ℕ) → Scan
  next s v i = record { phase = BehindComma; start = i; value = v; count = suc s.count; numbers = set s.numbers s.count v }

  comma-read : (s : Scan) (start v i : ℕ) → suc s.count < min most 32 → step least most limit (in_number s start v) 44 i ≡ next s v i
  unfolding step byte_read settle on_comma has_room
  comma-read s start v i h =
      let e : min (s.count + 1) 32 ≡ suc s.count = omega arith in
      rw (e, lt-ltb (suc s.count) (min most 32) h)

  -- the numbers that were read, when the line ends in one
  abbrev done : Scan → List ℕ → Result Row Refusal
  done s ns = row (s.count + length ns) (sets s.numbers s.count ns)

  module _ (at : ℕ) where
    last-read : (s : Scan) (start v : ℕ) → s.count < 32 → least ≤ suc s.count → outcome (finish least (in_number s start v) at) ≡ done s (v ∷ [])
    unfolding finish settle ended outcome
    last-read s start v h l =
        let e : min (s.count + 1) 32 ≡ s.count + 1 = omega arith in
        rw (e, le-leb least (s.count + 1) (omega arith))

    more-read : (ns : List ℕ) (s : Scan) (start v i : ℕ) → s.count + suc (length ns) ≤ min most 32 → least ≤ s.count + suc (length ns) → limit < 2 ^ 32 → Each (λ n. n ≤ limit) ns
        → outcome (finish least (scan least most limit (in_number s start v) i (more_text ns)) at) ≡ done s (v ∷ ns)
    unfolding more_text scan
    more-read [] s start v i h l b e = last-read s start v (omega arith) (omega arith)
    more-read (n ∷ ns) s start v i h l b e =
        let t = next s v i in
        ap (λ (u : Scan). outcome (finish least u at))
        (ap (λ (u : Scan). scan least most limit u (suc i) (decimal 20 n ++ more_text ns)) (comma-read s start v i (omega arith))
        ∙ scan-append least most limit t (suc i) (decimal 20 n) (more_text ns)
        ∙ ap (λ (u : Scan). scan least most limit u (suc i + length (decimal 20 n)) (more_text ns)) (digits-read t refl (omega arith) (suc i) 20 n (omega arith) (omega arith) e.0))
        ∙ more-read ns t (suc i) n (suc i + length (decimal 20 n)) (omega arith) (omega arith) b e.1
        ∙ ap (λ (k : ℕ). row k (sets t.numbers t.count (n ∷ ns))) (omega arith)

  -- "for every list of 1 to 32 numbers each at most the limit"
  pub read-row-text : (ns : List ℕ) → 1 ≤ length ns → least ≤ length ns → length ns ≤ min most 32 → limit < 2 ^ 32 → Each (λ n. n ≤ limit) ns
      → row_of least most limit (row_text ns) ≡ row_with ns
  unfolding row_of row_text
  read-row-text [] o l h b e = absurd (omega arith)
  read-row-text (n ∷ ns) o l h b e =
      let line = decimal 20 n ++ more_text ns in
      let k : 0 + suc (length ns) ≡ suc (length ns) = omega arith in
      ap (λ (u : Scan). outcome (finish least u (length line)))
      (scan-append least most limit begin 0 (decimal 20 n) (more_text ns)
      ∙ ap (λ (u : Scan). scan least most limit u (0 + length (decimal 20 n)) (more_text ns)) (digits-read begin refl (omega arith) 0 20 n (omega arith) (omega arith) e.0))
      ∙ more-read (length line) ns begin 0 n (0 + length (decimal 20 n)) (omega arith) (omega arith) b e.1
      ∙ ap (λ (c : ℕ). row c (sets (replicate 32 0) 0 (n ∷ ns))) k
      ∙ ap (row (suc (length ns)))
      (sets-eq (n ∷ ns) (replicate 32 0) 0 (omega arith)
      ∙ ap (λ (c : ℕ). (n ∷ ns) ++ drop c (replicate 32 0)) k
      ∙ ap (λ (l : List ℕ). (n ∷ ns) ++ l) (drop-replicate (suc (length ns)) 32))
