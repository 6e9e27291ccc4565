-- The tables of the code hold the words and the limits, and the tests of the code are those of the definitions. Assumes nothing.
use mathlib.Core.Path.{◌≡◌, refl, sym, ap, ◌∙◌}
use mathlib.Core.Bool.{Bool, true, false}
use mathlib.Core.List.{List, [], ◌∷◌}
use Prim.Native.Nat.{ℕ, zero, suc, ◌+◌, ◌-◌, ◌*◌, ◌%◌, ◌≤◌, ◌<◌}
use native.Mathlib.Omega.{arith}
use lib.Dec.{eqb}
use lib.ListN.{get_or}
use borrow.Author.Tests.{lt-ltb, le-ltb, eq-eqb, ne_eqb}
use Rattle.lists.specs.Lists.{when◌then◌else◌, tab, all}
use Rattle.lists.proofs.Places.{get_or-tab}
use Rattle.sets.specs.Set.{with_member}
use Rattle.spelling.specs.Words.{keys, key_of}
use Rattle.spelling.proofs.Tables.{entry-small}
use Rattle.notation.specs.Reading.{grown, code_of, code_from, key_code, tag_named, limit_of, number_of}
use Rattle.notation.specs.Computing.{computing}

-- which key stands before the numbers of each call
abbrev pub rows : List ℕ
rows =
    0 ∷ 0 ∷ 0 ∷ 0 ∷ 0 ∷ 0 ∷ 0 ∷ 0
    ∷ 1 ∷ 2 ∷ 3 ∷ 4 ∷ 5 ∷ 6 ∷ 7 ∷ 8
    ∷ 9 ∷ 10 ∷ 11 ∷ 0 ∷ 0 ∷ 0 ∷ 0 ∷ 0
    ∷ 12 ∷ 13 ∷ 14 ∷ 0 ∷ 0 ∷ 0 ∷ 0 ∷ 0
    ∷ 15 ∷ 0 ∷ 0 ∷ 0 ∷ 0 ∷ 0 ∷ 0 ∷ 0
    ∷ 9 ∷ 12 ∷ 10 ∷ 16 ∷ 0 ∷ 0 ∷ 0 ∷ 0
    ∷ 0 ∷ 0 ∷ 0 ∷ 0 ∷ 0 ∷ 0 ∷ 0 ∷ 0
    ∷ 9 ∷ 16 ∷ 0 ∷ 0 ∷ 0 ∷ 0 ∷ 0 ∷ 0
    ∷ 9 ∷ 16 ∷ 0 ∷ 0 ∷ 0 ∷ 0 ∷ 0 ∷ 0
    ∷ 0 ∷ 0 ∷ 0 ∷ 0 ∷ 0 ∷ 0 ∷ 0 ∷ 0
    ∷ 12 ∷ 17 ∷ 0 ∷ 0 ∷ 0 ∷ 0 ∷ 0 ∷ 0
    ∷ 12 ∷ 0 ∷ 0 ∷ 0 ∷ 0 ∷ 0 ∷ 0 ∷ 0
    ∷ 12 ∷ 16 ∷ 0 ∷ 0 ∷ 0 ∷ 0 ∷ 0 ∷ 0
    ∷ 0 ∷ 0 ∷ 0 ∷ 0 ∷ 0 ∷ 0 ∷ 0 ∷ 0
    ∷ 9 ∷ 12 ∷ 16 ∷ 0 ∷ 0 ∷ 0 ∷ 0 ∷ 0
    ∷ 12 ∷ 18 ∷ 0 ∷ 0 ∷ 0 ∷ 0 ∷ 0 ∷ 0
    ∷ []

abbrev pub codes : List ℕ
codes = 0 ∷ 17284499 ∷ 12748404 ∷ 14140118611 ∷ 8556773 ∷ 16392370 ∷ 437853486 ∷ 218564 ∷ 8902245 ∷ 540140 ∷ 22488723 ∷ 427595 ∷ 441878706 ∷ 125490089330091502 ∷ 198110728356 ∷ 624487389363 ∷ 17376357 ∷ 47699412 ∷ 2340 ∷ []

pub row_in : (k : ℕ) → get_or rows k 0 ≤ 18
unfolding all
row_in k = entry-small 18 rows k refl

codes-are : tab 128 (λ k. get_or codes (get_or rows k 0) 0) ≡ tab 128 (λ k. code_of (get_or keys k []))
unfolding computing
codes-are = refl

pub key-high : (tag i : ℕ) → 16 ≤ tag → key_code tag i ≡ 0
unfolding key_code key_of code_from
key-high tag i h = rw (le-ltb tag 16 h)

pub key-past : (tag i : ℕ) → tag < 16 → 8 ≤ i → key_code tag i ≡ 0
unfolding key_code key_of code_from
key-past tag i l h = rw (lt-ltb tag 16 l, le-ltb i 8 h)

pub key_in : (tag i : ℕ) → tag < 16 → i < 8 → key_code tag i ≡ get_or codes (get_or rows (tag * 8 + i) 0) 0
unfolding key_code key_of
key_in tag i l h =
    rw (lt-ltb tag 16 l, lt-ltb i 8 h)
    (sym (get_or-tab 128 (λ k. code_of (get_or keys k [])) (tag * 8 + i) 0 (omega arith)) ∙ ap (λ (l : List ℕ). get_or l (tag * 8 + i) 0) (sym codes-are)
    ∙ get_or-tab 128 (λ k. get_or codes (get_or rows k 0) 0) (tag * 8 + i) 0 (omega arith))

abbrev pub limits : List ℕ
limits = 0 ∷ 256 ∷ 65536 ∷ 32 ∷ 4294967296 ∷ 2147483648 ∷ []

pub limit-high : (kind : ℕ) → 6 ≤ kind → limit_of kind ≡ 0
unfolding limit_of
limit-high zero h = absurd (omega arith)
limit-high (suc zero) h = absurd (omega arith)
limit-high (suc (suc zero)) h = absurd (omega arith)
limit-high (suc (suc (suc zero))) h = absurd (omega arith)
limit-high (suc (suc (suc (suc zero)))) h = absurd (omega arith)
limit-high (suc (suc (suc (suc (suc zero))))) h = absurd (omega arith)
limit-high (suc (suc (suc (suc (suc (suc k)))))) h = refl

pub limit-small : (kind : ℕ) → get_or limits kind 0 ≤ 4294967296
limit-small zero = omega arith
limit-small (suc zero) = omega arith
limit-small (suc (suc zero)) = omega arith
limit-small (suc (suc (suc zero))) = omega arith
limit-small (suc (suc (suc (suc zero)))) = omega arith
limit-small (suc (suc (suc (suc (suc zero))))) = omega arith
limit-small (suc (suc (suc (suc (suc (suc k)))))) = omega arith

pub limit-in : (kind : ℕ) → limit_of kind ≡ get_or limits kind 0
unfolding limit_of
limit-in kind = refl

pub named_by : (v : ℕ) → tag_named v ≡ (when eqb v 267300 then 1 else when eqb v 540140 then 2 else when eqb v 441878706 then 3 else when eqb v 19387844 then 4 else when eqb v 2340 then 5 else when eqb v 3554917 then 6 else when eqb v 47663122053 then 7 else when eqb v 660530 then 8 else when eqb v 99724 then 9 else when eqb v 16441 then 10 else when eqb v 442053 then 11 else when eqb v 435827 then 12 else when eqb v 211232360 then 13 else when eqb v 624005 then 14 else when eqb v 800617285687 then 15 else 0)
unfolding computing
named_by v = refl

pub grown-short : (base v d : ℕ) → v < 36028797018963968 → grown base v d ≡ v * base + d
unfolding grown
grown-short base v d h = rw (lt-ltb v 36028797018963968 h)

module _ (kind set value : ℕ) where
  pub number-set : (minus : Bool) → kind ≡ 3 → number_of kind minus set value ≡ with_member set (value % 256)
  unfolding number_of
  number-set minus h = rw (eq-eqb kind 3 h)

  pub number-minus : (minus : Bool) → kind ≡ 5 → minus ≡ true → number_of kind minus set value ≡ (4295967296 - value) % 4294967296
  unfolding number_of
  number-minus minus h e = rw (ne_eqb kind 3 (λ z. omega arith), eq-eqb kind 5 h, e)

  pub number-plus : (minus : Bool) → kind ≡ 5 → minus ≡ false → number_of kind minus set value ≡ (value + 1000000) % 4294967296
  unfolding number_of
  number-plus minus h e = rw (ne_eqb kind 3 (λ z. omega arith), eq-eqb kind 5 h, e)

  pub number-plain : (minus : Bool) → (kind ≡ 3 → ⊥) → (kind ≡ 5 → ⊥) → number_of kind minus set value ≡ value % 4294967296
  unfolding number_of
  number-plain minus h e = rw (ne_eqb kind 3 h, ne_eqb kind 5 e)
