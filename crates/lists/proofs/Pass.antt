-- One pass over the first k entries of a list, with a state: the shape of a loop that changes an array from the front. The loop's invariant says what is LEFT,
-- `take i l ++ pass new next (k - i) s (drop i l)`; `pass-turn` is a turn, `pass-done` and `pass_all` are the ends, and `pass-map`, `pass-first` and
-- `pass-fill` say what a pass is by its kind. Assumes nothing.
use Prim.Native.Nat.{ℕ, zero, suc, ◌+◌, ◌-◌, ◌≤◌, ◌<◌}
use mathlib.Core.Path.{◌≡◌, refl, ap, sym, ◌∙◌}
use mathlib.Core.List.{List, [], ◌∷◌, ◌++◌, map}
use mathlib.Core.Bool.{Bool, true, false, cond}
use lib.ListN.{length-drop, length-map, length, get_or, take, drop, set, replicate, take-append-drop}
use lib.Seq.{drop-drop, drop-cons, drop-set-lt, take-suc-set, append_snoc}
use native.Mathlib.Numerals.{add-one}
use native.Mathlib.Omega.{arith}
use native.Mathlib.Nat.{not-suc-le-zero, le_of_suc-le-suc}
use Rattle.lists.specs.Lists.{change_first}

-- the list with each of its first k elements x replaced by `new s x`, the state s going on by `next s x`
abbrev pub pass : {A S : Type 0} → (S → A → A) → (S → A → S) → ℕ → S → List A → List A
pass new next zero s l = l
pass new next (suc k) s [] = []
pass new next (suc k) s (x ∷ xs) = new s x ∷ pass new next k (next s x) xs

-- ---- laws

module _ {A S : Type 0} (new : S → A → A) (next : S → A → S) where
  -- one turn of the loop at index i: the element is replaced, the state goes on
  pub pass-turn :
      (k i : ℕ) (s : S) (l : List A) (d : A) → i < k → i < length l →
      take (i + 1) (set l i (new s (get_or l i d))) ++ pass new next (k - (i + 1)) (next s (get_or l i d)) (drop (i + 1) (set l i (new s (get_or l i d))))
      ≡ take i l ++ pass new next (k - i) s (drop i l)
  pass-turn k i s l d hk hl =
      let e : k - i ≡ suc (k - (i + 1)) = omega arith in
      let h : i < suc i = omega arith in
      rw (e, drop-cons l i d, add-one, take-suc-set, drop-set-lt, append_snoc)

-- ---- what a pass is, by its kind

-- a pass that keeps no state maps the first k
pub pass-map :
    {A : Type 0} (f : A → A) (k s : ℕ) (l : List A) →
    pass (λ (t : ℕ) (x : A). f x) (λ (t : ℕ) (x : A). t) k s l ≡ map f (take k l) ++ drop k l
pass-map f zero s l = refl
pass-map f (suc k) s [] = refl
pass-map {A} f (suc k) s (x ∷ xs) = ap (λ (r : List A). f x ∷ r) (pass-map f k s xs)

-- the state is how many are left to change
abbrev pub first_new : {A : Type 0} → (A → Bool) → (A → A) → ℕ → A → A
first_new p f zero x = x
first_new p f (suc n) x = cond (p x) (f x) x

abbrev pub first_next : {A : Type 0} → (A → Bool) → ℕ → A → ℕ
first_next p zero x = zero
first_next p (suc n) x = cond (p x) n (suc n)

module _ {A : Type 0} (p : A → Bool) (f : A → A) where
  pub pass-none : (k : ℕ) (l : List A) → pass (first_new p f) (first_next p) k 0 l ≡ l
  pass-none zero l = refl
  pass-none (suc k) [] = refl
  pass-none (suc k) (x ∷ xs) = ap (λ (r : List A). x ∷ r) (pass-none k xs)

  pub pass-first : (k n : ℕ) (l : List A) → pass (first_new p f) (first_next p) k n l ≡ change_first p f n (take k l) ++ drop k l
  unfolding change_first
  pass-first k zero l = pass-none k l ∙ sym (take-append-drop k l)
  pass-first zero (suc n) l = refl
  pass-first (suc k) (suc n) [] = refl
  pass-first (suc k) (suc n) (x ∷ xs) = by-test (p x) (pass-first k n xs) (pass-first k (suc n) xs)
    where
      by-test : (b : Bool) →
          pass (first_new p f) (first_next p) k n xs ≡ change_first p f n (take k xs) ++ drop k xs →
          pass (first_new p f) (first_next p) k (suc n) xs ≡ change_first p f (suc n) (take k xs) ++ drop k xs →
          cond b (f x) x ∷ pass (first_new p f) (first_next p) k (cond b n (suc n)) xs
          ≡ elim b [ true ↦ f x ∷ change_first p f n (take k xs) | false ↦ x ∷ change_first p f (suc n) (take k xs) ] ++ drop k xs
      by-test true h1 h2 = ap (λ (r : List A). f x ∷ r) h1
      by-test false h1 h2 = ap (λ (r : List A). x ∷ r) h2

-- a pass that writes one value at each of the first k
pub pass-fill :
    {A : Type 0} (a : A) (k s : ℕ) (l : List A) → k ≤ length l →
    pass (λ (t : ℕ) (x : A). a) (λ (t : ℕ) (x : A). t) k s l ≡ replicate k a ++ drop k l
pass-fill a zero s l h = refl
pass-fill a (suc k) s [] h = absurd (not-suc-le-zero h)
pass-fill {A} a (suc k) s (x ∷ xs) h = ap (λ (r : List A). a ∷ r) (pass-fill a k s xs (le_of_suc-le-suc h))

-- ---- the length of an array of structs, which a need is handed as the length of the list mapped to the machine's values:
-- `search (needs, length-of-mapped)`

pub length-of-mapped : (X Y : Type 0) (f : X → Y) (l : List X) (n : ℕ) → length (map f l) ≡ n → length l ≡ n
length-of-mapped X Y f l n e = sym (length-map l f) ∙ e

-- a fill that starts at k
pub pass-fill-from :
    {A : Type 0} (a : A) (k n : ℕ) (l : List A) → k + n ≤ length l →
    take k l ++ pass (λ (t : ℕ) (x : A). a) (λ (t : ℕ) (x : A). t) (k + n - k) 0 (drop k l)
    ≡ take k l ++ (replicate n a ++ drop (k + n) l)
pass-fill-from {A} a k n l h =
    let e : k + n - k ≡ n = omega arith in
    let hd : n ≤ length (drop k l) = simp length-drop (omega arith) in
    rw e (ap (λ (r : List A). take k l ++ r) (pass-fill a n 0 (drop k l) hd ∙ ap (λ (r : List A). replicate n a ++ r) (drop-drop n k l)))

-- the first n of a list whose first n were changed to a list of as many
pub take-changed : {A : Type 0} (n : ℕ) (l m : List A) → length m ≡ length (take n l) → take n (m ++ drop n l) ≡ m
take-changed zero l [] e = refl
take-changed zero l (y ∷ m) e = absurd (nonzero (length m) e)
  where
    nonzero : (k : ℕ) → suc k ≡ 0 → ⊥
    nonzero k h = omega arith
take-changed (suc n) [] [] e = refl
take-changed (suc n) [] (y ∷ m) e = absurd (nonzero (length m) e)
  where
    nonzero : (k : ℕ) → suc k ≡ 0 → ⊥
    nonzero k h = omega arith
take-changed (suc n) (x ∷ l) [] e = absurd (nonzero (length (take n l)) (sym e))
  where
    nonzero : (k : ℕ) → suc k ≡ 0 → ⊥
    nonzero k h = omega arith
take-changed {A} (suc n) (x ∷ l) (y ∷ m) e = ap (λ (r : List A). y ∷ r) (take-changed n l m (fewer (length m) (length (take n l)) e))
  where
    fewer : (j k : ℕ) → suc j ≡ suc k → j ≡ k
    fewer j k h = omega arith
