-- "R holds of each entry of a list and the entry at its place in another list of the same length": how the changes of a list make such pairs, and what
-- follows of fields, counts and sums. Assumes nothing.
use mathlib.Core.Path.{◌≡◌, refl, ap}
use mathlib.Core.Bool.{Bool, true, false}
use mathlib.Core.List.{List, [], ◌∷◌, map}
use Prim.Native.Nat.{ℕ, zero, suc, ◌≤◌, ◌<◌}
use native.Mathlib.Omega.{arith}
use lib.ListN.{length, get_or, set, drop}
use Rattle.lists.specs.Lists.{when◌then◌else◌, sum, count, keep, change_first, map_from}
use Rattle.lists.proofs.Bools.{one_if-le}
use Rattle.lists.proofs.Each.{Each, drop-step}
use Rattle.lists.proofs.Keep.{sum-keep-cons}

abbrev pub Pairs : {A : Type 0} → (A → A → Type 0) → List A → List A → Type 0
Pairs R [] [] = Unit {0}
Pairs R [] (y ∷ ys) = ⊥
Pairs R (x ∷ xs) [] = ⊥
Pairs R (x ∷ xs) (y ∷ ys) = R x y × Pairs R xs ys

module _ {A : Type 0} (R : A → A → Type 0) where
  pub pairs-same : ((x : A) → R x x) → (xs : List A) → Pairs R xs xs
  pairs-same same [] = tt
  pairs-same same (x ∷ xs) = (same x, pairs-same same xs)

  pub pairs-trans : ((x y z : A) → R x y → R y z → R x z) → (xs ys zs : List A) → Pairs R xs ys → Pairs R ys zs → Pairs R xs zs
  pairs-trans trans [] [] [] g h = tt
  pairs-trans trans [] [] (z ∷ zs) g h = absurd h
  pairs-trans trans [] (y ∷ ys) zs g h = absurd g
  pairs-trans trans (x ∷ xs) [] zs g h = absurd g
  pairs-trans trans (x ∷ xs) (y ∷ ys) [] g h = absurd h
  pairs-trans trans (x ∷ xs) (y ∷ ys) (z ∷ zs) g h = (trans x y z g.0 h.0, pairs-trans trans xs ys zs g.1 h.1)

  -- ---- changes of a list

  pub pairs-map : (f : A → A) → ((x : A) → R x (f x)) → (xs : List A) → Pairs R xs (map f xs)
  pairs-map f h [] = tt
  pairs-map f h (x ∷ xs) = (h x, pairs-map f h xs)

  -- where the change at a place is known of the entry there
  pub pairs-map_from : (f : ℕ → A → A) (d : A) (all : List A) → ((i : ℕ) → i < length all → R (get_or all i d) (f i (get_or all i d)))
      → (i : ℕ) (xs : List A) → drop i all ≡ xs → Pairs R xs (map_from i f xs)
  unfolding map_from
  pairs-map_from f d all h i [] e = tt
  pairs-map_from f d all h i (x ∷ xs) e =
      let r = drop-step all i x d xs e in
      (rw r.1 at (h i r.0), pairs-map_from f d all h (suc i) xs r.2)

  pub pairs-change_first : ((x : A) → R x x) → (p : A → Bool) (f : A → A) → ((x : A) → p x ≡ true → R x (f x))
      → (n : ℕ) (xs : List A) → Pairs R xs (change_first p f n xs)
  unfolding change_first
  pairs-change_first same p f h zero xs = pairs-same same xs
  pairs-change_first same p f h (suc n) [] = tt
  pairs-change_first same p f h (suc n) (x ∷ xs) =
      go (p x) refl (pairs-change_first same p f h n xs) (pairs-change_first same p f h (suc n) xs)
    where
      go : (b : Bool) → p x ≡ b → Pairs R xs (change_first p f n xs) → Pairs R xs (change_first p f (suc n) xs)
          → Pairs R (x ∷ xs) (elim b [ true ↦ f x ∷ change_first p f n xs | false ↦ x ∷ change_first p f (suc n) xs ])
      go true e a b = (h x e, a)
      go false e a b = (same x, b)

  pub pairs_set : ((x : A) → R x x) → (xs : List A) (i : ℕ) (v d : A) → R (get_or xs i d) v → Pairs R xs (set xs i v)
  pairs_set same [] i v d h = tt
  pairs_set same (x ∷ xs) zero v d h = (h, pairs-same same xs)
  pairs_set same (x ∷ xs) (suc i) v d h = (same x, pairs_set same xs i v d h)

  -- ---- what follows

  pub pairs-length : (xs ys : List A) → Pairs R xs ys → length ys ≡ length xs
  pairs-length [] [] h = refl
  pairs-length [] (y ∷ ys) h = absurd h
  pairs-length (x ∷ xs) [] h = absurd h
  pairs-length (x ∷ xs) (y ∷ ys) h = ap suc (pairs-length xs ys h.1)

  pub pairs-at : (xs ys : List A) (i : ℕ) (d : A) → R d d → Pairs R xs ys → R (get_or xs i d) (get_or ys i d)
  pairs-at [] [] i d same h = same
  pairs-at [] (y ∷ ys) i d same h = absurd h
  pairs-at (x ∷ xs) [] i d same h = absurd h
  pairs-at (x ∷ xs) (y ∷ ys) zero d same h = h.0
  pairs-at (x ∷ xs) (y ∷ ys) (suc i) d same h = pairs-at xs ys i d same h.1

  pub pairs-each : (P Q : A → Type 0) → ((x y : A) → R x y → P x → Q y) → (xs ys : List A) → Pairs R xs ys → Each P xs → Each Q ys
  pairs-each P Q keeps [] [] h e = tt
  pairs-each P Q keeps [] (y ∷ ys) h e = absurd h
  pairs-each P Q keeps (x ∷ xs) [] h e = absurd h
  pairs-each P Q keeps (x ∷ xs) (y ∷ ys) h e = (keeps x y h.0 e.0, pairs-each P Q keeps xs ys h.1 e.1)

  -- a field that the pairs have in common
  pub pairs-field : {B : Type 0} (g : A → B) → ((x y : A) → R x y → g y ≡ g x) → (xs ys : List A) → Pairs R xs ys → map g ys ≡ map g xs
  pairs-field g same [] [] h = refl
  pairs-field g same [] (y ∷ ys) h = absurd h
  pairs-field g same (x ∷ xs) [] h = absurd h
  pairs-field g same (x ∷ xs) (y ∷ ys) h = cc (same x y h.0, pairs-field g same xs ys h.1)

  -- a test that does not begin to fail
  pub pairs-count : (p : A → Bool) → ((x y : A) → R x y → p x ≡ true → p y ≡ true) → (xs ys : List A) → Pairs R xs ys → count p xs ≤ count p ys
  unfolding count
  pairs-count p stays [] [] h = omega arith
  pairs-count p stays [] (y ∷ ys) h = absurd h
  pairs-count p stays (x ∷ xs) [] h = absurd h
  pairs-count p stays (x ∷ xs) (y ∷ ys) h = omega (arith, one_if-le (p x) (p y) (stays x y h.0), pairs-count p stays xs ys h.1)

  -- a test that does not begin to pass
  pub pairs-count-falls : (p : A → Bool) → ((x y : A) → R x y → p y ≡ true → p x ≡ true) → (xs ys : List A) → Pairs R xs ys → count p ys ≤ count p xs
  unfolding count
  pairs-count-falls p stays [] [] h = omega arith
  pairs-count-falls p stays [] (y ∷ ys) h = absurd h
  pairs-count-falls p stays (x ∷ xs) [] h = absurd h
  pairs-count-falls p stays (x ∷ xs) (y ∷ ys) h = omega (arith, one_if-le (p y) (p x) (stays x y h.0), pairs-count-falls p stays xs ys h.1)

  -- a sum over those that pass a test, which does not fall
  pub pairs-sum : (p : A → Bool) (f : A → ℕ) → ((x y : A) → R x y → (when p x then f x else 0) ≤ (when p y then f y else 0))
      → (xs ys : List A) → Pairs R xs ys → sum (map f (keep p xs)) ≤ sum (map f (keep p ys))
  unfolding keep
  pairs-sum p f grows [] [] h = omega arith
  pairs-sum p f grows [] (y ∷ ys) h = absurd h
  pairs-sum p f grows (x ∷ xs) [] h = absurd h
  pairs-sum p f grows (x ∷ xs) (y ∷ ys) h =
      omega (arith, sum-keep-cons p f x xs, sum-keep-cons p f y ys, grows x y h.0, pairs-sum p f grows xs ys h.1)
