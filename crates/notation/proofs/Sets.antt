-- A set of members that is written is read back. Assumes nothing.
use mathlib.Core.Path.{◌≡◌, refl, sym, ap, subst, ◌∙◌}
use mathlib.Core.Bool.{Bool, true, false, ◌||◌}
use mathlib.Core.List.{List, [], ◌∷◌, ◌++◌}
use Prim.Native.Nat.{ℕ, suc, ◌+◌, ◌%◌, ◌^◌, ◌<◌, min}
use native.Mathlib.Omega.{arith}
use lib.Dec.{eqb}
use lib.ListN.{length, set}
use borrow.Author.Tests.{lt-ltb, eq-eqb, ne_eqb, eqb-true, eqb-false}
use Rattle.lists.specs.Lists.{any, one_if}
use Rattle.lists.proofs.Bools.{cases}
use Rattle.lists.proofs.Each.{Each}
use Rattle.sets.specs.Set.{member, members, insert, with_member}
use Rattle.sets.proofs.Members.{members-each, member-listed, member-none, with-is, member-insert, insert-fits, ext}
use Rattle.machine.specs.Printed.{decimal}
use Rattle.forms.specs.Forms.{kind_of}
use Rattle.spelling.specs.Text.{members_text, more_text, number_text}
use Rattle.spelling.proofs.Texts.{number-set}
use Rattle.notation.specs.declared.Scan.{Scan}
use Rattle.notation.specs.Reading.{limit_of, settle, settle_dash, on_minus, on_member, on_comma, mark_read, byte_read, step, scan}
use Rattle.notation.proofs.Codes.{number-set as set-number}
use Rattle.notation.proofs.Numbers.{mid, bef, neg, num, Settles, Before, scan-append, first-digit, digits-read, end-number}

-- ---- members, taken into a set one by one

gather : ℕ → List ℕ → ℕ
gather acc [] = acc
gather acc (m ∷ ms) = gather (with_member acc (m % 256)) ms

abbrev Small : ℕ → Type 0
Small m = m < 32

taken_in : (acc m : ℕ) → m < 32 → with_member acc (m % 256) ≡ insert acc m
taken_in acc m h = ap (with_member acc) (omega arith) ∙ with-is acc m h

eqb_swap : (a b : ℕ) → eqb a b ≡ eqb b a
eqb_swap a b = cases (eqb b a) _ (λ e. eq-eqb a b (sym (eqb-true b a e)) ∙ sym e) (λ e. ne_eqb a b (λ z. eqb-false b a e (sym z)) ∙ sym e)

or-moves : (a e b : Bool) → (a || (e || b)) ≡ ((e || a) || b)
or-moves true true b = refl
or-moves true false b = refl
or-moves false true b = refl
or-moves false false b = refl

gather-member : (ms : List ℕ) (acc j : ℕ) → Each Small ms → member (gather acc ms) j ≡ (any (eqb j) ms || member acc j)
unfolding gather any
gather-member [] acc j h = refl
gather-member (m ∷ ms) acc j h =
    gather-member ms (with_member acc (m % 256)) j h.1
    ∙ ap (λ (b : Bool). any (eqb j) ms || b) (ap (λ (s : ℕ). member s j) (taken_in acc m h.0) ∙ member-insert acc m j ∙ ap (λ (b : Bool). b || member acc j) (eqb_swap m j))
    ∙ or-moves (any (eqb j) ms) (eqb j m) (member acc j)

gather-fits : (ms : List ℕ) (acc : ℕ) → Each Small ms → acc < 2 ^ 32 → gather acc ms < 2 ^ 32
unfolding gather
gather-fits [] acc h f = f
gather-fits (m ∷ ms) acc h f = gather-fits ms (with_member acc (m % 256)) h.1 (rw (taken_in acc m h.0) (insert-fits acc m f h.0))

all_small : (ms : List ℕ) (n : ℕ) → Each (λ m. (m < 32) × (member n m ≡ true)) ms → Each Small ms
all_small [] n h = tt
all_small (m ∷ ms) n h = (h.0.0, all_small ms n h.1)

or-false : (b : Bool) → (b || false) ≡ b
or-false true = refl
or-false false = refl

-- the members of a set make up the set
gather-members : (n : ℕ) → n < 2 ^ 32 → gather 0 (members n) ≡ n
gather-members n f =
    let small = all_small (members n) n (members-each n) in
    ext (gather 0 (members n)) n (gather-fits (members n) 0 small (omega arith)) f
    (λ i l.
    gather-member (members n) 0 i small ∙ ap (λ (b : Bool). any (eqb i) (members n) || b) (member-none i) ∙ or-false (any (eqb i) (members n))
    ∙ member-listed n i l)

-- ---- members, read one by one

module _ (tag item : ℕ) (ns : List ℕ) (k : kind_of tag item ≡ 3) where
  -- in the last member; with it the members make up `total`
  record Gathers (s : Scan) (total : ℕ) : Type 0 where
    pub start : ℕ
    pub value : ℕ
    pub sofar : ℕ
    pub is : s ≡ num tag item start value 0 false sofar ns
    pub small : value < 32
    pub all : with_member sofar (value % 256) ≡ total

  comma : (start value acc i : ℕ) → value < 32 → step (num tag item start value 0 false acc ns) 44 i ≡ bef tag item start value (with_member acc (value % 256)) ns
  unfolding step byte_read mark_read on_comma on_member
  comma start value acc i h = rw (k, lt-ltb value 32 h)

  member-read : (start value acc i m : ℕ) → m < 32 → scan (bef tag item start value acc ns) i (decimal 20 m) ≡ num tag item i m 0 false acc ns
  member-read start value acc i m h =
      digits-read tag item i false acc ns _ i (first-digit tag item start value acc ns i) 20 m (omega arith) (omega arith) (omega arith)

  more-read : (ms : List ℕ) (start value acc i : ℕ) → Each Small ms → value < 32
      → Gathers (scan (num tag item start value 0 false acc ns) i (more_text ms)) (gather (with_member acc (value % 256)) ms)
  unfolding more_text gather scan
  more-read [] start value acc i e h = record { start = start; value = value; sofar = acc; is = refl; small = h; all = refl }
  more-read (m ∷ ms) start value acc i e h =
      let acc' = with_member acc (value % 256) in
      let e' : scan (num tag item start value 0 false acc ns) i (more_text (m ∷ ms)) ≡ scan (num tag item (suc i) m 0 false acc' ns) (suc i + length (decimal 20 m)) (more_text ms) =
      ap (λ (t : Scan). scan t (suc i) (decimal 20 m ++ more_text ms)) (comma start value acc i h)
      ∙ scan-append (bef tag item start value acc' ns) (suc i) (decimal 20 m) (more_text ms)
      ∙ ap (λ (t : Scan). scan t (suc i + length (decimal 20 m)) (more_text ms)) (member-read start value acc' (suc i) m e.0)
      in
      subst (λ (t : Scan). Gathers t (gather acc' (m ∷ ms))) (sym e') (more-read ms (suc i) m acc' (suc i + length (decimal 20 m)) e.1 e.0)

  dash : (start value i : ℕ) → step (bef tag item start value 0 ns) 45 i ≡ neg tag item i value ns
  unfolding step byte_read mark_read on_minus
  dash start value i = rw k

  dash-end : (start value : ℕ) → settle (neg tag item start value ns) ≡ mid tag (min (item + 1) 8) start value (set ns item 0)
  unfolding settle settle_dash
  dash-end start value = rw k

  text-read : (ms : List ℕ) (start value i : ℕ) → Each Small ms → Settles (scan (bef tag item start value 0 ns) i (members_text ms)) tag (min (item + 1) 8) (set ns item (gather 0 ms))
  unfolding members_text gather scan limit_of one_if
  text-read [] start value i e = rw (dash start value i) record { start = i; value = value; is = dash-end i value; active = refl }
  text-read (m ∷ ms) start value i e =
      let g = more-read ms i m 0 (i + length (decimal 20 m)) e.1 e.0 in
      rw (scan-append (bef tag item start value 0 ns) i (decimal 20 m) (more_text ms), member-read start value 0 i m e.0, g.is)
      record {
        start = g.start;
        value = g.value;
        is =
            end-number tag item ns g.start g.value 0 false g.sofar 3 (gather (with_member 0 (m % 256)) ms) k refl (lt-ltb g.value (32 + 0) (omega (arith, g.small)))
            (set-number 3 g.sofar g.value false refl ∙ g.all);
        active = refl;
      }

  -- a set
  pub read_set : (s : Scan) (i n : ℕ) → Before s tag item ns → n < 2 ^ 32
      → Settles (scan s i (number_text (kind_of tag item) n)) tag (min (item + 1) 8) (set ns item n)
  read_set s i n b f =
      rw (k, ← number-set 3 n refl, b.is)
      (rw (gather-members n f) at (text-read (members n) b.start b.value i (all_small (members n) n (members-each n))))
