-- Laws of `count`, `any` and `all` over lists, and of `change_first`. Assumes nothing.
use mathlib.Core.Path.{◌≡◌, refl, sym, ap, ◌∙◌}
use mathlib.Core.Bool.{Bool, true, false, ◌&&◌, ◌||◌, false≢true}
use mathlib.Core.Logic.{⊎_elim}
use mathlib.Core.List.{List, [], ◌∷◌, ◌++◌, map}
use Prim.Native.Nat.{ℕ, zero, suc, ◌+◌, ◌≤◌, ◌<◌}
use native.Mathlib.Nat.{zero-add}
use native.Mathlib.Numerals.{add-one}
use native.Mathlib.Omega.{arith}
use lib.Dec.{ltb, eqb}
use lib.ListN.{length, get_or, take, drop, set, replicate, drop_of_length-le}
use lib.Seq.{take-suc, drop-cons}
use borrow.Author.Tests.{lt-ltb, le-ltb, eq-eqb, ne_eqb, eqb-true, eqb-false}
use Rattle.lists.specs.Lists.{when◌then◌else◌, one_if, sum_to, count, any, all, tab, places, keep, change_first}
use Rattle.lists.proofs.Bools.{one_if-small, one_if-le, and_left, and_right, or_left, or_right, cases, lt-or-le, ltb-same}
use Rattle.lists.proofs.Sums.{sum_to-ext}
use Rattle.lists.proofs.Keep.{count_kept, sum_to-one}
use Rattle.lists.proofs.Each.{Each, each-get, each_of}
use Rattle.lists.proofs.Places.{tab-last}

-- what passes the test still passes it
abbrev pub Stays : {A : Type 0} → (A → Bool) → A → A → Type 0
Stays p x y = p x ≡ true → p y ≡ true

module _ {A : Type 0} (p : A → Bool) where
  pub count-append : (xs ys : List A) → count p (xs ++ ys) ≡ count p xs + count p ys
  unfolding count
  count-append [] ys = omega arith
  count-append (x ∷ xs) ys = omega (arith, count-append xs ys)

  -- one turn of a loop that counts
  pub count_turn : (i : ℕ) (l : List A) (d : A) → i < length l → count p (take (i + 1) l) ≡ count p (take i l) + one_if (p (get_or l i d))
  unfolding count
  count_turn i l d h = rw (add-one, take-suc l i d, count-append) (omega arith)

  pub count-few : (xs : List A) → count p xs ≤ length xs
  unfolding count
  count-few [] = omega arith
  count-few (x ∷ xs) = omega (arith, count-few xs, one_if-small (p x))

  -- ---- counts that do not fall

  pub count_map : (f : A → A) → ((x : A) → Stays p x (f x)) → (xs : List A) → count p xs ≤ count p (map f xs)
  unfolding count
  count_map f h [] = omega arith
  count_map f h (x ∷ xs) = omega (arith, one_if-le (p x) (p (f x)) (h x), count_map f h xs)

  pub count_set : (v d : A) (xs : List A) (i : ℕ) → Stays p (get_or xs i d) v → count p xs ≤ count p (set xs i v)
  unfolding count
  count_set v d [] i h = omega arith
  count_set v d (x ∷ xs) zero h = omega (arith, one_if-le (p x) (p v) h)
  count_set v d (x ∷ xs) (suc i) h = omega (arith, count_set v d xs i h)

  pub count-first : (t : A → Bool) (f : A → A) → ((x : A) → Stays p x (f x)) → (n : ℕ) (xs : List A) → count p xs ≤ count p (change_first t f n xs)
  unfolding count change_first
  count-first t f h zero xs = omega arith
  count-first t f h (suc n) [] = omega arith
  count-first t f h (suc n) (x ∷ xs) = go (t x) (count-first t f h n xs) (count-first t f h (suc n) xs)
    where
      go : (b : Bool) → count p xs ≤ count p (change_first t f n xs) → count p xs ≤ count p (change_first t f (suc n) xs)
          → one_if (p x) + count p xs ≤ count p (elim b [ true ↦ f x ∷ change_first t f n xs | false ↦ x ∷ change_first t f (suc n) xs ])
      go true a b = omega (arith, one_if-le (p x) (p (f x)) (h x))
      go false a b = omega arith

  -- of n that are changed at most n begin to pass the test
  pub count-first-le : (t : A → Bool) (f : A → A) (n : ℕ) (xs : List A) → count p (change_first t f n xs) ≤ count p xs + n
  unfolding count change_first
  count-first-le t f zero xs = omega arith
  count-first-le t f (suc n) [] = omega arith
  count-first-le t f (suc n) (x ∷ xs) = go (t x) (count-first-le t f n xs) (count-first-le t f (suc n) xs)
    where
      go : (b : Bool) → count p (change_first t f n xs) ≤ count p xs + n → count p (change_first t f (suc n) xs) ≤ count p xs + suc n
          → count p (elim b [ true ↦ f x ∷ change_first t f n xs | false ↦ x ∷ change_first t f (suc n) xs ]) ≤ one_if (p x) + count p xs + suc n
      go true a b = omega (arith, one_if-small (p (f x)))
      go false a b = omega arith

  -- ---- counts that stay

  -- entries changed that count as before
  pub count_same : (t : A → Bool) (f : A → A) → ((x : A) → t x ≡ true → p (f x) ≡ p x) → (n : ℕ) (xs : List A) → count p (change_first t f n xs) ≡ count p xs
  unfolding count change_first
  count_same t f h zero xs = refl
  count_same t f h (suc n) [] = refl
  count_same t f h (suc n) (x ∷ xs) = go (t x) refl (count_same t f h n xs) (count_same t f h (suc n) xs)
    where
      go : (b : Bool) → t x ≡ b → count p (change_first t f n xs) ≡ count p xs → count p (change_first t f (suc n) xs) ≡ count p xs
          → count p (elim b [ true ↦ f x ∷ change_first t f n xs | false ↦ x ∷ change_first t f (suc n) xs ]) ≡ one_if (p x) + count p xs
      go true e a b = rw (h x e, a)
      go false e a b = rw b

  -- a test that none passes, and one that all do
  pub count_none : (xs : List A) → Each (λ x. p x ≡ false) xs → count p xs ≡ 0
  unfolding count one_if
  count_none [] h = refl
  count_none (x ∷ xs) h = rw (h.0, count_none xs h.1)

  pub count-all : (xs : List A) → Each (λ x. p x ≡ true) xs → count p xs ≡ length xs
  unfolding count one_if
  count-all [] h = refl
  count-all (x ∷ xs) h = rw (h.0, count-all xs h.1) (omega arith)

  pub count-replicate-in : (n : ℕ) (x : A) → p x ≡ true → count p (replicate n x) ≡ n
  unfolding count one_if
  count-replicate-in zero x e = refl
  count-replicate-in (suc n) x e = rw (e, count-replicate-in n x e) (omega arith)

  pub count-replicate-out : (n : ℕ) (x : A) → p x ≡ false → count p (replicate n x) ≡ 0
  unfolding count one_if
  count-replicate-out zero x e = refl
  count-replicate-out (suc n) x e = rw (e, count-replicate-out n x e)

  -- ---- any and all

  pub any-count : (xs : List A) → any p xs ≡ ltb 0 (count p xs)
  unfolding any count one_if
  any-count [] = refl
  any-count (x ∷ xs) = go (p x) (any-count xs)
    where
      go : (b : Bool) → any p xs ≡ ltb 0 (count p xs) → (b || any p xs) ≡ ltb 0 (one_if b + count p xs)
      go true e = sym (lt-ltb 0 (1 + count p xs) (omega arith))
      go false e = e ∙ rw (zero-add (count p xs))

  -- all pass the test, as a fact about each
  pub each_all : (xs : List A) → all p xs ≡ true → Each (λ x. p x ≡ true) xs
  unfolding all
  each_all [] e = tt
  each_all (x ∷ xs) e = (and_left (p x) (all p xs) e, each_all xs (and_right (p x) (all p xs) e))

  pub all-each : (xs : List A) → Each (λ x. p x ≡ true) xs → all p xs ≡ true
  unfolding all
  all-each [] h = refl
  all-each (x ∷ xs) h = rw (h.0, all-each xs h.1)

  -- all pass the test, as a fact about each place
  pub all-get : (xs : List A) (d : A) → p d ≡ true → all p xs ≡ true → (k : ℕ) → p (get_or xs k d) ≡ true
  all-get xs d e h k = each-get (λ x. p x ≡ true) xs k d e (each_all xs h)

  pub all_of : (xs : List A) (d : A) → ((k : ℕ) → k < length xs → p (get_or xs k d) ≡ true) → all p xs ≡ true
  all_of xs d h = all-each xs (each_of (λ x. p x ≡ true) xs d h)

  -- one turn of a loop that looks for one that does not pass: what is left to look at
  pub all-turn : (i : ℕ) (l : List A) (d : A) → i < length l → all p (drop i l) ≡ (p (get_or l i d) && all p (drop (i + 1) l))
  unfolding all
  all-turn i l d h = rw (add-one, drop-cons l i d)

  pub all_done : (i : ℕ) (l : List A) → length l ≤ i → all p (drop i l) ≡ true
  unfolding all
  all_done i l h = rw (drop_of_length-le l h)

  -- none passes the test, as a fact about each
  pub each-any : (xs : List A) → any p xs ≡ false → Each (λ x. p x ≡ false) xs
  unfolding any
  each-any [] e = tt
  each-any (x ∷ xs) e = (or_left (p x) (any p xs) e, each-any xs (or_right (p x) (any p xs) e))

-- ---- one test after another

-- tests that agree on each entry
pub count-ext : {A : Type 0} (p q : A → Bool) (xs : List A) → Each (λ x. p x ≡ q x) xs → count p xs ≡ count q xs
unfolding count
count-ext p q [] h = refl
count-ext p q (x ∷ xs) h = rw (h.0, count-ext p q xs h.1)

-- a test that two others share out
pub count-parts : {A : Type 0} (p q r : A → Bool) → ((x : A) → one_if (p x) ≡ one_if (q x) + one_if (r x)) → (xs : List A) → count p xs ≡ count q xs + count r xs
unfolding count
count-parts p q r h [] = refl
count-parts p q r h (x ∷ xs) = omega (arith, h x, count-parts p q r h xs)

-- a test seen through a change of every entry
pub count-of-map : {A B : Type 0} (p : B → Bool) (f : A → B) (xs : List A) → count p (map f xs) ≡ count (λ x. p (f x)) xs
unfolding count
count-of-map p f [] = refl
count-of-map p f (x ∷ xs) = ap (λ (n : ℕ). one_if (p (f x)) + n) (count-of-map p f xs)

-- ---- the first n that pass a test

-- n of those that pass the test, changed so that they pass it no more
pub count-given : {A : Type 0} (t : A → Bool) (f : A → A) → ((x : A) → t x ≡ true → t (f x) ≡ false)
    → (n : ℕ) (xs : List A) → n ≤ count t xs → count t (change_first t f n xs) + n ≡ count t xs
unfolding count change_first one_if
count-given t f h zero xs l = omega arith
count-given t f h (suc n) [] l = absurd (omega arith)
count-given t f h (suc n) (x ∷ xs) l = go (t x) refl l (count-given t f h n xs) (count-given t f h (suc n) xs)
  where
    go : (b : Bool) → t x ≡ b → suc n ≤ one_if b + count t xs
        → (n ≤ count t xs → count t (change_first t f n xs) + n ≡ count t xs)
        → (suc n ≤ count t xs → count t (change_first t f (suc n) xs) + suc n ≡ count t xs)
        → count t (elim b [ true ↦ f x ∷ change_first t f n xs | false ↦ x ∷ change_first t f (suc n) xs ]) + suc n ≡ one_if b + count t xs
    go true e l a b = rw (h x e) (omega (arith, a (omega arith)))
    go false e l a b = rw e (omega (arith, b (omega arith)))

-- the first entry passes the test, or it does not
module _ {A : Type 0} (p : A → Bool) (f : A → A) (x : A) (xs : List A) where
  pub change_first-here : (n : ℕ) → p x ≡ true → change_first p f (suc n) (x ∷ xs) ≡ f x ∷ change_first p f n xs
  unfolding change_first
  change_first-here n e = ap (λ (b : Bool). elim b [ true ↦ f x ∷ change_first p f n xs | false ↦ x ∷ change_first p f (suc n) xs ]) e

  pub change_first-past : (n : ℕ) → p x ≡ false → change_first p f n (x ∷ xs) ≡ x ∷ change_first p f n xs
  unfolding change_first
  change_first-past zero e = refl
  change_first-past (suc n) e = ap (λ (b : Bool). elim b [ true ↦ f x ∷ change_first p f n xs | false ↦ x ∷ change_first p f (suc n) xs ]) e

pub length-change_first : {A : Type 0} (p : A → Bool) (f : A → A) (n : ℕ) (l : List A) → length (change_first p f n l) ≡ length l
unfolding change_first
length-change_first p f zero l = refl
length-change_first p f (suc n) [] = refl
length-change_first {A = A} p f (suc n) (x ∷ xs) = go (p x) (length-change_first p f n xs) (length-change_first p f (suc n) xs)
  where
    go : (t : Bool) → length (change_first p f n xs) ≡ length xs → length (change_first p f (suc n) xs) ≡ length xs
        → length {A = A} (elim t [ true ↦ f x ∷ change_first p f n xs | false ↦ x ∷ change_first p f (suc n) xs ]) ≡ suc (length xs)
    go true h k = ap suc h
    go false h k = ap suc k

-- a view of the entries under which the test and the change are another test and another change
pub map-change_first : {A B : Type 0} (g : A → B) (p : A → Bool) (f : A → A) (q : B → Bool) (h : B → B)
    → ((x : A) → q (g x) ≡ p x) → ((x : A) → p x ≡ true → g (f x) ≡ h (g x)) → (n : ℕ) (l : List A)
    → map g (change_first p f n l) ≡ change_first q h n (map g l)
unfolding change_first
map-change_first g p f q h test change zero l = refl
map-change_first g p f q h test change (suc n) [] = refl
map-change_first g p f q h test change (suc n) (x ∷ xs) =
    go (p x) (q (g x)) refl (test x) (map-change_first g p f q h test change n xs) (map-change_first g p f q h test change (suc n) xs)
  where
    go : (b d : Bool) → p x ≡ b → d ≡ p x → map g (change_first p f n xs) ≡ change_first q h n (map g xs) → map g (change_first p f (suc n) xs) ≡ change_first q h (suc n) (map g xs)
        → map g (elim b [ true ↦ f x ∷ change_first p f n xs | false ↦ x ∷ change_first p f (suc n) xs ])
        ≡ elim d [ true ↦ h (g x) ∷ change_first q h n (map g xs) | false ↦ g x ∷ change_first q h (suc n) (map g xs) ]
    go true true e u a b = cc (change x e)
    go true false e u a b = absurd (false≢true (u ∙ e))
    go false true e u a b = absurd (false≢true (sym (u ∙ e)))
    go false false e u a b = cc

-- ---- the places that pass a test

-- m is among the places that pass the test exactly if it passes
pub any-kept : (n : ℕ) (p : ℕ → Bool) (m : ℕ) → m < n → any (eqb m) (keep p (places n)) ≡ p m
unfolding one_if
any-kept n p m l =
    any-count (eqb m) (keep p (places n))
    ∙ ap (ltb 0)
    (count_kept n p (eqb m) (λ k. k)
    ∙ sum_to-ext n _ (λ k. when eqb k m then one_if (p m) else 0) (λ k below. at k (eqb k m) refl)
    ∙ sum_to-one n m (one_if (p m)) l)
    ∙ positive (p m)
  where
    and_none : (a : Bool) → one_if (a && false) ≡ 0
    and_none true = refl
    and_none false = refl

    and_one : (a : Bool) → one_if (a && true) ≡ one_if a
    and_one true = refl
    and_one false = refl

    at : (k : ℕ) (b : Bool) → eqb k m ≡ b → one_if (p k && eqb m k) ≡ (when b then one_if (p m) else 0)
    at k true e = let s : k ≡ m = eqb-true k m e in rw (s, eq-eqb m m refl) (and_one (p m))
    at k false e = rw (ne_eqb m k (λ s. eqb-false k m e (sym s))) (and_none (p k))

    positive : (a : Bool) → ltb 0 (one_if a) ≡ a
    positive true = refl
    positive false = refl

-- changes of entries that have nothing to do with each other may change places
module _ {A : Type 0} (p q : A → Bool) (f g : A → A) (apart : (x : A) → p x ≡ true → (q x ≡ false) × (q (f x) ≡ false)) (kept : (x : A) → q x ≡ true → p (g x) ≡ false) where
  pub change_first-swap : (n m : ℕ) (xs : List A) → change_first p f n (change_first q g m xs) ≡ change_first q g m (change_first p f n xs)
  unfolding change_first
  change_first-swap zero m xs = refl
  change_first-swap (suc n) zero xs = refl
  change_first-swap (suc n) (suc m) [] = refl
  change_first-swap (suc n) (suc m) (x ∷ xs) =
      cases (p x) _
      (λ a. rw (
        change_first-past q g x xs (suc m) (apart x a).0,
        change_first-here p f x (change_first q g (suc m) xs) n a,
        change_first-here p f x xs n a,
        change_first-past q g (f x) (change_first p f n xs) (suc m) (apart x a).1,
      ) (ap (λ (l : List A). f x ∷ l) (change_first-swap n (suc m) xs)))
      (λ a. cases (q x) _
      (λ b. rw (
        change_first-here q g x xs m b,
        change_first-past p f (g x) (change_first q g m xs) (suc n) (kept x b),
        change_first-past p f x xs (suc n) a,
        change_first-here q g x (change_first p f (suc n) xs) m b,
      ) (ap (λ (l : List A). g x ∷ l) (change_first-swap (suc n) m xs)))
      (λ b. rw (
        change_first-past q g x xs (suc m) b,
        change_first-past p f x (change_first q g (suc m) xs) (suc n) a,
        change_first-past p f x xs (suc n) a,
        change_first-past q g x (change_first p f (suc n) xs) (suc m) b,
      ) (ap (λ (l : List A). x ∷ l) (change_first-swap (suc n) (suc m) xs))))

-- ---- whether one passes a test

-- tests that agree
pub any-ext : {A : Type 0} (p q : A → Bool) (l : List A) → ((x : A) → p x ≡ q x) → any p l ≡ any q l
unfolding any
any-ext p q [] h = refl
any-ext p q (x ∷ xs) h = rw (h x, any-ext p q xs h)

-- one that passes the test is among those kept
pub any-keep : {A : Type 0} (p q : A → Bool) (l : List A) → Each (λ x. q x ≡ false → p x ≡ false) l → any p (keep q l) ≡ any p l
unfolding any keep
any-keep p q [] h = refl
any-keep p q (x ∷ xs) h = go (q x) refl (any-keep p q xs h.1)
  where
    go : (b : Bool) → q x ≡ b → any p (keep q xs) ≡ any p xs → any p (when b then x ∷ keep q xs else keep q xs) ≡ (p x || any p xs)
    go true e r = rw r
    go false e r = rw (h.0 e) r

any_append : {A : Type 0} (p : A → Bool) (xs ys : List A) → any p (xs ++ ys) ≡ (any p xs || any p ys)
unfolding any
any_append p [] ys = refl
any_append p (x ∷ xs) ys = go (p x) (any_append p xs ys)
  where
    go : (b : Bool) → any p (xs ++ ys) ≡ (any p xs || any p ys) → (b || any p (xs ++ ys)) ≡ ((b || any p xs) || any p ys)
    go true e = refl
    go false e = e

-- no place, and one place more, as a loop's turn has it
pub any_none : (p : ℕ → Bool) → any p (places 0) ≡ false
unfolding any tab
any_none p = refl

pub any_next : (n : ℕ) (p : ℕ → Bool) → any p (places (n + 1)) ≡ (any p (places n) || p n)
unfolding any
any_next n p = rw (add-one n, tab-last n (λ k. k)) (any_append p (places n) (n ∷ []) ∙ rw (or-none (p n)))
  where
    or-none : (a : Bool) → (a || false) ≡ a
    or-none true = refl
    or-none false = refl

-- no entry passes the test
pub any_false : {A : Type 0} (p : A → Bool) (xs : List A) → Each (λ x. p x ≡ false) xs → any p xs ≡ false
any_false p xs h = any-count p xs ∙ rw (count_none p xs h)

-- one of several numbers is above 0 exactly if their sum is
pub any_sum : (n : ℕ) (f : ℕ → ℕ) → any (λ k. ltb 0 (f k)) (places n) ≡ ltb 0 (sum_to n f)
unfolding sum_to
any_sum zero f = any_none (λ k. ltb 0 (f k))
any_sum (suc n) f =
    ap (λ (m : ℕ). any (λ k. ltb 0 (f k)) (places m)) (sym (add-one n)) ∙ any_next n (λ k. ltb 0 (f k)) ∙ rw (any_sum n f) (go (sum_to n f) (f n))
  where
    go : (a b : ℕ) → (ltb 0 a || ltb 0 b) ≡ ltb 0 (a + b)
    go a b =
        ⊎_elim
        (λ h. rw (lt-ltb 0 a h, lt-ltb 0 (a + b) (omega arith)))
        (λ h. rw (le-ltb 0 a h) (ltb-same 0 b 0 (a + b) (λ l. omega arith) (λ l. omega arith)))
        (lt-or-le 0 a)
