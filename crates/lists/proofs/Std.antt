-- The sums, counts and parts of lists of `specs/Lists.antt` are those that std's iterators speak of. Assumes nothing.
use mathlib.Core.Bool.{Bool, true, false, ◌&&◌, ◌||◌, false≢true}
use mathlib.Core.Path.{◌≡◌, refl, sym, ap}
use mathlib.Core.List.{List, [], ◌∷◌}
use Prim.Native.Nat.{ℕ, ◌<◌}
use Rattle.std.specs.List.{filter, list_all, list_any, sum as std_sum, count_by}
use Rattle.std.proofs.lemmas.List.Sums.{sum_by-cons}
use native.Mathlib.Omega.{arith}
use lib.ListN.{length, get_or}
use Rattle.lists.proofs.Bools.{cases}
use Rattle.lists.proofs.Each.{each_at}
use Rattle.lists.proofs.Counts.{each_all, all_of}
use Rattle.lists.specs.Lists.{when◌then◌else◌, one_if, sum, count, any, all, keep}

pub sum-std : (l : List ℕ) → sum l ≡ std_sum l
unfolding sum
sum-std [] = refl
sum-std (x ∷ l) = omega (arith, sum-std l, sum_by-cons (λ x. x) x l)

module _ {A : Type 0} (p : A → Bool) where
  pub count-std : (l : List A) → count p l ≡ count_by p l
  unfolding count one_if
  count-std [] = refl
  count-std (x ∷ l) = omega (arith, count-std l, sum_by-cons (λ x. when p x then 1 else 0) x l, one (p x))
    where
      one : (b : Bool) → one_if b ≡ (when b then 1 else 0)
      one true = refl
      one false = refl

  pub any-std : (l : List A) → any p l ≡ list_any p l
  unfolding any
  any-std [] = refl
  any-std (x ∷ l) = ap (λ b. p x || b) (any-std l)

  pub all-std : (l : List A) → all p l ≡ list_all p l
  unfolding all
  all-std [] = refl
  all-std (x ∷ l) = ap (λ b. p x && b) (all-std l)

  pub keep-std : (l : List A) → keep p l ≡ filter p l
  unfolding keep
  keep-std [] = refl
  keep-std (x ∷ l) = ap (λ r. when p x then x ∷ r else r) (keep-std l)

  -- an answer that is true exactly if the test passes at each place
  pub all-decided : (l : List A) (d : A) (b : Bool) → (b ≡ true → (k : ℕ) → k < length l → p (get_or l k d) ≡ true)
      → (((k : ℕ) → k < length l → p (get_or l k d) ≡ true) → b ≡ true) → b ≡ all p l
  all-decided l d true to from = sym (all_of p l d (to refl))
  all-decided l d false to from =
      cases (all p l) (false ≡ all p l)
      (λ e. absurd (false≢true (from (λ k h. each_at (λ x. p x ≡ true) l k d h (each_all p l e)))))
      (λ e. sym e)
