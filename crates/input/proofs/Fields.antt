-- The first field of an input: the bytes that it takes, and what is left. Assumes nothing.
use mathlib.Core.Path.{◌≡◌, refl, sym, ◌∙◌}
use mathlib.Core.Bool.{Bool}
use mathlib.Core.List.{List, [], ◌∷◌}
use Prim.Native.Nat.{ℕ, zero, suc, ◌+◌, ◌*◌, ◌≤◌, ◌<◌, min}
use native.Mathlib.Omega.{arith}
use mathlib.Core.Logic.{⊎_elim}
use lib.ListN.{length, get_or, take, drop, drop_of_length-le}
use lib.Seq.{take-length, take_all, drop-length}
use borrow.Author.Tests.{lt-ltb, le-ltb, lt-leb, le-leb}
use Rattle.lists.specs.Lists.{when◌then◌else◌}
use Rattle.lists.proofs.Bools.{lt-or-le}
use Rattle.machine.specs.Printed.{fields_in}
use Rattle.wire.proofs.Numbers.{number-two}
use Rattle.input.specs.Fields.{field_size, front_size}

-- the bytes of the first field that are there
unfoldable pub first-size : List ℕ → ℕ
first-size s = min (field_size s) (length s)

pub size-cut : (s : List ℕ) → length s < 3 → length s ≡ min (field_size s) (length s)
unfolding field_size
size-cut s h = rw (lt-ltb (length s) 3 h) (omega arith)

pub size-whole : (s : List ℕ) → 3 ≤ length s → field_size s ≡ 3 + (get_or s 1 0 * 256 + get_or s 2 0)
unfolding field_size
size-whole s h = rw (le-ltb (length s) 3 h, number-two s 1 (omega arith))

-- what lies past the end changes neither part
take-there : (n : ℕ) (s : List ℕ) → take (min n (length s)) s ≡ take n s
take-there n s =
    ⊎_elim
    (λ l. let e : min n (length s) ≡ n = omega arith in rw e refl)
    (λ l. let e : min n (length s) ≡ length s = omega arith in rw e (take-length s ∙ sym (take_all n s l)))
    (lt-or-le n (length s))

drop-there : (n : ℕ) (s : List ℕ) → drop (min n (length s)) s ≡ drop n s
drop-there n s =
    ⊎_elim
    (λ l. let e : min n (length s) ≡ n = omega arith in rw e refl)
    (λ l. let e : min n (length s) ≡ length s = omega arith in rw e (drop-length s ∙ sym (drop_of_length-le s {i = n} l)))
    (lt-or-le n (length s))

-- an input at its end has no field
pub fields-none : (n : ℕ) → fields_in n [] ≡ []
unfolding fields_in
fields-none zero = refl
fields-none (suc n) = refl

-- an input that is not at its end has a first field
pub fields-more : (n : ℕ) (s : List ℕ) → 0 < length s → fields_in (suc n) s ≡ take (first-size s) s ∷ fields_in n (drop (first-size s) s)
unfolding fields_in first-size
fields-more n [] h = absurd (omega arith)
fields-more n (tag ∷ []) h = rw (← size-cut (tag ∷ []) (omega arith), fields-none n)
fields-more n (tag ∷ high ∷ []) h = rw (← size-cut (tag ∷ high ∷ []) (omega arith), fields-none n)
fields-more n (tag ∷ high ∷ low ∷ rest) h =
    let s : List ℕ = tag ∷ high ∷ low ∷ rest in
    let e : field_size s ≡ suc (suc (suc (high * 256 + low))) = omega (arith, size-whole s (omega arith)) in
    rw (take-there (field_size s) s, drop-there (field_size s) s, e)

-- ---- the bytes of the first field at an input's front

module _ (last : Bool) (s : List ℕ) where
  pub front-short : length s < 3 → (when last then length s else 0) ≡ front_size last s
  unfolding front_size
  front-short h = rw (lt-leb 3 (length s) h)

  module _ (h : 3 ≤ length s) (size : ℕ) (is : size ≡ 3 + (get_or s 1 0 * 256 + get_or s 2 0)) where
    its : field_size s ≡ size
    its = size-whole s h ∙ sym is

    pub front_cut : length s < size → (when last then length s else 0) ≡ front_size last s
    unfolding front_size
    front_cut more = rw (le-leb 3 (length s) h, its, lt-leb size (length s) more)

    pub front-whole : size ≤ length s → size ≡ front_size last s
    unfolding front_size
    front-whole all = rw (le-leb 3 (length s) h, its, le-leb size (length s) all)
