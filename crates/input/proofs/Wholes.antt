-- The first field of some bytes, whole or cut off, and the whole fields behind it. Assumes nothing.
use mathlib.Core.Path.{◌≡◌, sym, ap, ◌∙◌}
use mathlib.Core.Bool.{true, false}
use mathlib.Core.List.{List, [], ◌∷◌}
use Prim.Native.Nat.{ℕ, zero, suc, ◌-◌, ◌≤◌, ◌<◌}
use native.Mathlib.Omega.{arith}
use lib.Dec.{leb}
use lib.ListN.{length, take, drop}
use borrow.Author.Tests.{leb-true}
use Rattle.lists.proofs.Bools.{and_left, and_right}
use Rattle.input.specs.Fields.{field_size, whole_first, front_size, whole_fields}
use Rattle.input.proofs.Fields.{size-whole}
use Rattle.input.proofs.Pieces.{front-none, front-next}
use Rattle.input.proofs.Fronts.{front-most}

-- it is all there, and has some bytes
pub record First (s : List ℕ) (size : ℕ) : Type 0 where
  pub whole : whole_first s ≡ true
  pub is : size ≡ field_size s
  pub least : 3 ≤ size
  pub most : size ≤ length s

pub first_of : (s : List ℕ) (size : ℕ) → whole_first s ≡ true → size ≡ field_size s → First s size
first_of s size w i =
    let three : 3 ≤ length s = leb-true 3 (length s) (and_left (leb 3 (length s)) (leb (field_size s) (length s)) w) in
    record {
      whole = w;
      is = i;
      least = omega (arith, i, size-whole s three);
      most = omega (arith, i, leb-true (field_size s) (length s) (and_right (leb 3 (length s)) (leb (field_size s) (length s)) w));
    }

pub size-first : (s : List ℕ) → whole_first s ≡ true → front_size false s ≡ field_size s
unfolding front_size
size-first s w = rw w

pub size_none : (s : List ℕ) → whole_first s ≡ false → front_size false s ≡ 0
unfolding front_size
size_none s w = rw w

-- the whole fields, where the first is all there
pub fields-next : (n : ℕ) (s : List ℕ) (size : ℕ) → First s size → 0 < n → whole_fields n s ≡ take size s ∷ whole_fields (n - 1) (drop size s)
fields-next zero s size f h = absurd (omega arith)
fields-next (suc n) s size f h =
    let k : suc n - 1 ≡ n = omega arith in
    let e : front_size false s ≡ size = size-first s f.whole ∙ sym f.is in
    rw k (front-next (front_size false) (front-most false) n s (λ z. absurd (omega (arith, f.least))) ∙ ap (λ (m : ℕ). take m s ∷ whole_fields n (drop m s)) e)

pub fields-none : (n : ℕ) (s : List ℕ) → whole_first s ≡ false → whole_fields n s ≡ []
fields-none n s w = front-none (front_size false) (front-most false) n s (size_none s w)
