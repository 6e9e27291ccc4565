-- A number that is written is read back. Assumes nothing.
use mathlib.Core.Path.{◌≡◌, refl, ap, ◌∙◌}
use mathlib.Core.Bool.{Bool, true, false, ◌&&◌, not}
use mathlib.Core.List.{List, [], ◌∷◌, ◌++◌}
use Prim.Native.Nat.{ℕ, zero, suc, ◌+◌, ◌-◌, ◌*◌, ◌/◌, ◌%◌, ◌^◌, ◌≤◌, ◌<◌, min}
use native.Mathlib.Nat.{pow-suc, div-lt_iff_lt-mul}
use native.Mathlib.Omega.{arith}
use lib.Dec.{eqb, leb, ltb}
use lib.ListN.{length, set}
use borrow.Author.Tests.{lt-ltb, le-leb, lt-leb, ltb-true, ltb-false, ne_eqb}
use Rattle.lists.specs.Lists.{one_if}
use Rattle.lists.proofs.Bools.{cases}
use Rattle.machine.specs.Printed.{decimal}
use Rattle.forms.specs.Forms.{kind_of}
use Rattle.spelling.specs.Text.{money_text, number_text}
use Rattle.spelling.proofs.Texts.{number-low, number-money, number-price, price-low, price-mid, price-high}
use Rattle.notation.specs.declared.Scan.{Scan}
use Rattle.notation.specs.declared.Phase.TheVariants.{Between, BeforeNumber, InNumber, BehindMinus}
use Rattle.notation.specs.Scans.{is_over}
use Rattle.notation.specs.Reading.{limit_of, number_of, settle, settle_number, next_point, more_digits, on_digit, on_minus, on_point, mark_read, byte_read, step, scan}
use Rattle.notation.proofs.Codes.{grown-short, number-minus, number-plus, number-plain}

-- ---- the states on the way

-- behind the name or a number
abbrev pub mid : (tag item start value : ℕ) → List ℕ → Scan
mid tag item start value ns =
    record { phase = Between; tag = tag; item = item; start = start; value = value; point = 0; minus = false; set = 0; numbers = ns }

-- before a number; of a set some members may be read
abbrev pub bef : (tag item start value members : ℕ) → List ℕ → Scan
bef tag item start value members ns =
    record { phase = BeforeNumber; tag = tag; item = item; start = start; value = value; point = 0; minus = false; set = members; numbers = ns }

-- behind a minus sign
abbrev pub neg : (tag item start value : ℕ) → List ℕ → Scan
neg tag item start value ns =
    record { phase = BehindMinus; tag = tag; item = item; start = start; value = value; point = 0; minus = true; set = 0; numbers = ns }

-- in a number
abbrev pub num : (tag item start value point : ℕ) (minus : Bool) (members : ℕ) → List ℕ → Scan
num tag item start value point minus members ns =
    record { phase = InNumber; tag = tag; item = item; start = start; value = value; point = point; minus = minus; set = members; numbers = ns }

pub scan-append : (s : Scan) (i : ℕ) (xs ys : List ℕ) → scan s i (xs ++ ys) ≡ scan (scan s i xs) (i + length xs) ys
unfolding scan
scan-append s i [] ys = ap (λ (k : ℕ). scan s k ys) (omega arith)
scan-append s i (b ∷ xs) ys = scan-append (step s b i) (suc i) xs ys ∙ ap (λ (k : ℕ). scan (scan (step s b i) (suc i) xs) k ys) (omega arith)

-- ---- digits

pub first-digit : (tag item start value members : ℕ) (ns : List ℕ) (i d : ℕ) → d < 10
    → step (bef tag item start value members ns) (48 + d) i ≡ num tag item i d 0 false members ns
unfolding step byte_read mark_read on_digit
first-digit tag item start value members ns i zero h = refl
first-digit tag item start value members ns i (suc zero) h = refl
first-digit tag item start value members ns i (suc (suc zero)) h = refl
first-digit tag item start value members ns i (suc (suc (suc zero))) h = refl
first-digit tag item start value members ns i (suc (suc (suc (suc zero)))) h = refl
first-digit tag item start value members ns i (suc (suc (suc (suc (suc zero))))) h = refl
first-digit tag item start value members ns i (suc (suc (suc (suc (suc (suc zero)))))) h = refl
first-digit tag item start value members ns i (suc (suc (suc (suc (suc (suc (suc zero))))))) h = refl
first-digit tag item start value members ns i (suc (suc (suc (suc (suc (suc (suc (suc zero)))))))) h = refl
first-digit tag item start value members ns i (suc (suc (suc (suc (suc (suc (suc (suc (suc zero))))))))) h = refl
first-digit tag item start value members ns i (suc (suc (suc (suc (suc (suc (suc (suc (suc (suc d)))))))))) h = absurd (omega arith)

pub negative-digit : (tag item start value : ℕ) (ns : List ℕ) → kind_of tag item ≡ 5 → (i d : ℕ) → d < 10
    → step (neg tag item start value ns) (48 + d) i ≡ num tag item start d 0 true 0 ns
unfolding step byte_read mark_read on_digit
negative-digit tag item start value ns e i zero h = rw e
negative-digit tag item start value ns e i (suc zero) h = rw e
negative-digit tag item start value ns e i (suc (suc zero)) h = rw e
negative-digit tag item start value ns e i (suc (suc (suc zero))) h = rw e
negative-digit tag item start value ns e i (suc (suc (suc (suc zero)))) h = rw e
negative-digit tag item start value ns e i (suc (suc (suc (suc (suc zero))))) h = rw e
negative-digit tag item start value ns e i (suc (suc (suc (suc (suc (suc zero)))))) h = rw e
negative-digit tag item start value ns e i (suc (suc (suc (suc (suc (suc (suc zero))))))) h = rw e
negative-digit tag item start value ns e i (suc (suc (suc (suc (suc (suc (suc (suc zero)))))))) h = rw e
negative-digit tag item start value ns e i (suc (suc (suc (suc (suc (suc (suc (suc (suc zero))))))))) h = rw e
negative-digit tag item start value ns e i (suc (suc (suc (suc (suc (suc (suc (suc (suc (suc d)))))))))) h = absurd (omega arith)

another-digit : (tag item start value point : ℕ) (minus : Bool) (members : ℕ) (ns : List ℕ) (i d : ℕ) → d < 10
    → step (num tag item start value point minus members ns) (48 + d) i ≡ more_digits (num tag item start value point minus members ns) d i
unfolding step byte_read mark_read on_digit
another-digit tag item start value point minus members ns i zero h = refl
another-digit tag item start value point minus members ns i (suc zero) h = refl
another-digit tag item start value point minus members ns i (suc (suc zero)) h = refl
another-digit tag item start value point minus members ns i (suc (suc (suc zero))) h = refl
another-digit tag item start value point minus members ns i (suc (suc (suc (suc zero)))) h = refl
another-digit tag item start value point minus members ns i (suc (suc (suc (suc (suc zero))))) h = refl
another-digit tag item start value point minus members ns i (suc (suc (suc (suc (suc (suc zero)))))) h = refl
another-digit tag item start value point minus members ns i (suc (suc (suc (suc (suc (suc (suc zero))))))) h = refl
another-digit tag item start value point minus members ns i (suc (suc (suc (suc (suc (suc (suc (suc zero)))))))) h = refl
another-digit tag item start value point minus members ns i (suc (suc (suc (suc (suc (suc (suc (suc (suc zero))))))))) h = refl
another-digit tag item start value point minus members ns i (suc (suc (suc (suc (suc (suc (suc (suc (suc (suc d)))))))))) h = absurd (omega arith)

module _ (tag item start : ℕ) (minus : Bool) (members : ℕ) (ns : List ℕ) where
  -- a digit more, before the point
  next-digit : (value i d : ℕ) → d < 10 → value < 36028797018963968
      → step (num tag item start value 0 minus members ns) (48 + d) i ≡ num tag item start (value * 10 + d) 0 minus members ns
  unfolding more_digits next_point
  next-digit value i d h l =
      another-digit tag item start value 0 minus members ns i d h ∙ ap (λ (v : ℕ). num tag item start v 0 minus members ns) (grown-short 10 value d l)

  -- the two digits behind the point
  digit-one : (value i d : ℕ) → d < 10 → value < 36028797018963968
      → step (num tag item start value 1 minus members ns) (48 + d) i ≡ num tag item start (value * 10 + d) 2 minus members ns
  unfolding more_digits next_point
  digit-one value i d h l =
      another-digit tag item start value 1 minus members ns i d h ∙ ap (λ (v : ℕ). num tag item start v 2 minus members ns) (grown-short 10 value d l)

  digit-two : (value i d : ℕ) → d < 10 → value < 36028797018963968
      → step (num tag item start value 2 minus members ns) (48 + d) i ≡ num tag item start (value * 10 + d) 3 minus members ns
  unfolding more_digits next_point
  digit-two value i d h l =
      another-digit tag item start value 2 minus members ns i d h ∙ ap (λ (v : ℕ). num tag item start v 3 minus members ns) (grown-short 10 value d l)

  -- the digits of a number, from a state in which a number can begin
  module _ (s : Scan) (i : ℕ) (first : (d : ℕ) → d < 10 → step s (48 + d) i ≡ num tag item start d 0 minus members ns) where
    pub digits-read : (k n : ℕ) → 1 ≤ k → n < 10 ^ k → n < 36028797018963968 → scan s i (decimal k n) ≡ num tag item start n 0 minus members ns
    unfolding decimal scan
    digits-read zero n l h b = absurd (omega arith)
    digits-read (suc zero) n l h b =
        rw (lt-ltb n 10 h) (ap (λ (d : ℕ). step s (48 + d) i) (omega arith) ∙ first n h)
    digits-read (suc (suc f)) n l h b =
        cases (ltb n 10) _
        (λ e. rw e (ap (λ (d : ℕ). step s (48 + d) i) (omega (arith, ltb-true n 10 e)) ∙ first n (ltb-true n 10 e)))
        (λ e. rw e (longer-read f n (ltb-false n 10 e) h b (digits-read (suc f) (n / 10) (omega arith) (fewer (suc f) n h) (omega arith))))
      where
        fewer : (f n : ℕ) → n < 10 ^ suc f → n / 10 < 10 ^ f
        fewer f n h = (div-lt_iff_lt-mul {k = 10} {x = n} {y = 10 ^ f} (omega arith)).1 (rw (pow-suc 10 f) at h)

        longer-read : (f n : ℕ) → 10 ≤ n → n < 10 ^ suc (suc f) → n < 36028797018963968
            → scan s i (decimal (suc f) (n / 10)) ≡ num tag item start (n / 10) 0 minus members ns
            → scan s i (decimal (suc f) (n / 10) ++ ((48 + n % 10) ∷ [])) ≡ num tag item start n 0 minus members ns
        longer-read f n l h b e =
            scan-append s i (decimal (suc f) (n / 10)) ((48 + n % 10) ∷ [])
            ∙ ap (λ (t : Scan). step t (48 + n % 10) (i + length (decimal (suc f) (n / 10)))) e
            ∙ next-digit (n / 10) (i + length (decimal (suc f) (n / 10))) (n % 10) (omega arith) (omega arith)
            ∙ ap (λ (v : ℕ). num tag item start v 0 minus members ns) (omega arith)

-- ---- a number by its kind

-- what a word or a number comes to at its end: behind number `item`, with the numbers `ns`
pub record Settles (s : Scan) (tag item : ℕ) (ns : List ℕ) : Type 0 where
  pub start : ℕ
  pub value : ℕ
  pub is : settle s ≡ mid tag item start value ns
  pub active : is_over s.phase ≡ false

-- in a number, and in no member of a set
abbrev pub Plain : Scan → Type 0
Plain s = (s.phase ≡ InNumber) × (eqb (kind_of s.tag s.item) 3 ≡ false)

-- before number `item`
pub record Before (s : Scan) (tag item : ℕ) (ns : List ℕ) : Type 0 where
  pub start : ℕ
  pub value : ℕ
  pub is : s ≡ bef tag item start value 0 ns

module _ (tag item : ℕ) (ns : List ℕ) where
  -- the end of a number that fits
  pub end-number : (start value point : ℕ) (minus : Bool) (members kind n : ℕ) → kind_of tag item ≡ kind → (leb 4 kind && not (eqb point 3)) ≡ false
      → ltb value (limit_of kind + one_if minus) ≡ true → number_of kind minus members value ≡ n
      → settle (num tag item start value point minus members ns) ≡ mid tag (min (item + 1) 8) start value (set ns item n)
  unfolding settle settle_number
  end-number start value point minus members kind n k p f e =
      rw (k, p, f, e)

  plain_of : (start value point : ℕ) (minus : Bool) (members kind : ℕ) → kind_of tag item ≡ kind → (kind ≡ 3 → ⊥) → Plain (num tag item start value point minus members ns)
  plain_of start value point minus members kind k h = (refl, rw (k, ne_eqb kind 3 h))

  -- the point
  point-read : (start value i : ℕ) (minus : Bool) (members kind : ℕ) → kind_of tag item ≡ kind → 4 ≤ kind
      → step (num tag item start value 0 minus members ns) 46 i ≡ num tag item start value 1 minus members ns
  unfolding step byte_read mark_read on_point
  point-read start value i minus members kind k h = rw (k, le-leb 4 kind h)

  -- cents, from a state in which a number can begin
  money-read : (s : Scan) (i start : ℕ) (minus : Bool) (kind n : ℕ) → ((d : ℕ) → d < 10 → step s (48 + d) i ≡ num tag item start d 0 minus 0 ns)
      → kind_of tag item ≡ kind → 4 ≤ kind → n < 4294967296
      → scan s i (money_text n) ≡ num tag item start n 3 minus 0 ns
  unfolding money_text scan
  money-read s i start minus kind n first k h l =
      let j = i + length (decimal 20 (n / 100)) in
      scan-append s i (decimal 20 (n / 100)) (46 ∷ (48 + n / 10 % 10) ∷ (48 + n % 10) ∷ [])
      ∙ ap (λ (t : Scan). step (step (step t 46 j) (48 + n / 10 % 10) (suc j)) (48 + n % 10) (suc (suc j)))
      (digits-read tag item start minus 0 ns s i first 20 (n / 100) (omega arith) (omega arith) (omega arith))
      ∙ ap (λ (t : Scan). step (step t (48 + n / 10 % 10) (suc j)) (48 + n % 10) (suc (suc j))) (point-read start (n / 100) j minus 0 kind k h)
      ∙ ap (λ (t : Scan). step t (48 + n % 10) (suc (suc j))) (digit-one tag item start minus 0 ns (n / 100) (suc j) (n / 10 % 10) (omega arith) (omega arith))
      ∙ digit-two tag item start minus 0 ns (n / 100 * 10 + n / 10 % 10) (suc (suc j)) (n % 10) (omega arith) (omega arith)
      ∙ ap (λ (v : ℕ). num tag item start v 3 minus 0 ns) (omega arith)

  -- what is read of a number, at its end
  pub record Read-as (s : Scan) (n : ℕ) : Type 0 where
    pub settles : Settles s tag (min (item + 1) 8) (set ns item n)
    pub plain : Plain s

  read_as : (s : Scan) (n start value point : ℕ) (minus : Bool) (kind : ℕ) → s ≡ num tag item start value point minus 0 ns → kind_of tag item ≡ kind → (kind ≡ 3 → ⊥)
      → (leb 4 kind && not (eqb point 3)) ≡ false → ltb value (limit_of kind + one_if minus) ≡ true → number_of kind minus 0 value ≡ n → Read-as s n
  read_as s n start value point minus kind is k h p f e =
      rw is record {
        settles = record { start = start; value = value; is = end-number start value point minus 0 kind n k p f e; active = refl };
        plain = plain_of start value point minus 0 kind k h;
      }

  -- a number of one or two bytes
  pub read_count : (s : Scan) (i kind n : ℕ) → Before s tag item ns → kind_of tag item ≡ kind → kind < 3 → n < limit_of kind → n < 65536
      → Read-as (scan s i (number_text (kind_of tag item) n)) n
  unfolding one_if
  read_count s i kind n b k h f l =
      let e : scan s i (decimal 20 n) ≡ num tag item i n 0 false 0 ns =
      ap (λ (t : Scan). scan t i (decimal 20 n)) b.is
      ∙ digits-read tag item i false 0 ns _ i (first-digit tag item b.start b.value 0 ns i) 20 n (omega arith) (omega arith) (omega arith)
      in
      rw (k, ← number-low kind n h)
      (read_as _ n i n 0 false kind e k (λ z. omega arith) (rw (lt-leb 4 kind (omega arith))) (lt-ltb n (limit_of kind + 0) (omega arith))
      (number-plain kind 0 n false (λ z. omega arith) (λ z. omega arith) ∙ omega arith))

  -- an amount
  pub read-amount : (s : Scan) (i n : ℕ) → Before s tag item ns → kind_of tag item ≡ 4 → n < 4294967296
      → Read-as (scan s i (number_text (kind_of tag item) n)) n
  unfolding one_if limit_of
  read-amount s i n b k l =
      let e : scan s i (money_text n) ≡ num tag item i n 3 false 0 ns =
      ap (λ (t : Scan). scan t i (money_text n)) b.is ∙ money-read _ i i false 4 n (first-digit tag item b.start b.value 0 ns i) k (omega arith) l
      in
      rw (k, ← number-money 4 n refl)
      (read_as _ n i n 3 false 4 e k (λ z. omega arith) refl (lt-ltb n (4294967296 + 0) (omega arith))
      (number-plain 4 0 n false (λ z. omega arith) (λ z. omega arith) ∙ omega arith))

  -- a minus sign and cents
  negative-read : (s : Scan) (i n p : ℕ) → Before s tag item ns → kind_of tag item ≡ 5 → n ≤ 2147483648 → (4295967296 - n) % 4294967296 ≡ p
      → Read-as (scan s i (45 ∷ money_text n)) p
  unfolding one_if limit_of scan step byte_read mark_read on_minus
  negative-read s i n p b k l r =
      let e : scan s i (45 ∷ money_text n) ≡ num tag item i n 3 true 0 ns =
      ap (λ (t : Scan). scan (step t 45 i) (suc i) (money_text n)) b.is
      ∙ rw k (money-read _ (suc i) i true 5 n (negative-digit tag item i b.value ns k (suc i)) k (omega arith) (omega arith))
      in
      read_as _ p i n 3 true 5 e k (λ z. omega arith) refl (lt-ltb n (2147483648 + 1) (omega arith)) (number-minus 5 0 n true refl refl ∙ r)

  positive-read : (s : Scan) (i n p : ℕ) → Before s tag item ns → kind_of tag item ≡ 5 → n < 2147483648 → n + 1000000 ≡ p
      → Read-as (scan s i (money_text n)) p
  unfolding one_if limit_of
  positive-read s i n p b k l r =
      let e : scan s i (money_text n) ≡ num tag item i n 3 false 0 ns =
      ap (λ (t : Scan). scan t i (money_text n)) b.is ∙ money-read _ i i false 5 n (first-digit tag item b.start b.value 0 ns i) k (omega arith) (omega arith)
      in
      read_as _ p i n 3 false 5 e k (λ z. omega arith) refl (lt-ltb n (2147483648 + 0) (omega arith)) (number-plus 5 0 n false refl refl ∙ omega arith)

  -- a price
  pub read-price : (s : Scan) (i p : ℕ) → Before s tag item ns → kind_of tag item ≡ 5 → p < 4294967296
      → Read-as (scan s i (number_text (kind_of tag item) p)) p
  read-price s i p b k l =
      rw (k, ← number-price 5 p (omega arith) (λ z. omega arith) (λ z. omega arith))
      (cases (ltb p 1000000) _
      (λ e. rw (← price-low p (ltb-true p 1000000 e)) (negative-read s i (1000000 - p) p b k (omega arith) (omega (arith, ltb-true p 1000000 e))))
      (λ e.
      cases (ltb p 2148483648) _
      (λ f. rw (← price-mid p (ltb-false p 1000000 e) (ltb-true p 2148483648 f)) (positive-read s i (p - 1000000) p b k (omega (arith, ltb-true p 2148483648 f)) (omega (arith, ltb-false p 1000000 e))))
      (λ f. rw (← price-high p (ltb-false p 1000000 e) (ltb-false p 2148483648 f)) (negative-read s i (4295967296 - p) p b k (omega (arith, ltb-false p 2148483648 f)) (omega (arith, ltb-false p 2148483648 f))))))
