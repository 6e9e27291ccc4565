-- Laws of `keep`, `count` and `put_back`. A sum or a count over the places that pass a test, `keep p (places n)`, is a `sum_to n` in
-- which the others give 0. Assumes nothing.
use mathlib.Core.Path.{◌≡◌, refl, sym, ap, ◌∙◌}
use mathlib.Core.Bool.{Bool, true, false, false≢true, ◌&&◌, cond}
use mathlib.Core.Logic.{⊎_elim}
use mathlib.Core.List.{List, [], ◌∷◌, map}
use Prim.Native.Nat.{ℕ, zero, suc, ◌+◌, ◌≤◌, ◌<◌}
use native.Mathlib.Omega.{arith}
use native.Mathlib.Nat.{not-suc-le-zero, le_of_suc-le-suc, eq-or-lt_of_le}
use lib.Dec.{eqb}
use lib.ListN.{length, get_or, drop}
use borrow.Author.Tests.{eq-eqb, ne_eqb}
use Rattle.lists.specs.Lists.{when◌then◌else◌, sum, sum_to, one_if, count_to, tab, places, count, keep, put_back}
use Rattle.lists.proofs.Bools.{eqb_same, cases}
use Rattle.lists.proofs.Sums.{sum_to-ext, sum_to-add, sum_to-front, sum_to-zero, sum_to-swap, sum-places}
use Rattle.lists.proofs.Each.{Each}

-- ---- keep

-- all of two tests, one after the other
pub keep-and : {A : Type 0} (p r : A → Bool) (l : List A) → keep (λ x. p x && r x) l ≡ keep r (keep p l)
unfolding keep
keep-and p r [] = refl
keep-and {A = A} p r (x ∷ xs) = go (p x) (keep-and p r xs)
  where
    both : List A
    both = keep (λ x. p x && r x) xs

    go : (s : Bool) → both ≡ keep r (keep p xs) → cond (s && r x) (x ∷ both) both ≡ keep r (cond s (x ∷ keep p xs) (keep p xs))
    go true e = rw e
    go false e = e

-- a test that all pass
pub keep_all : {A : Type 0} (l : List A) → keep (λ x. true) l ≡ l
unfolding keep
keep_all [] = refl
keep_all (x ∷ xs) = ap (λ l. x ∷ l) (keep_all xs)

-- tests that agree
pub keep-ext : {A : Type 0} (p r : A → Bool) (l : List A) → ((x : A) → p x ≡ r x) → keep p l ≡ keep r l
unfolding keep
keep-ext p r [] h = refl
keep-ext p r (x ∷ xs) h = rw (h x, keep-ext p r xs h)

-- functions that agree on what passes the test
pub sum-keep-ext : {A : Type 0} (p : A → Bool) (f g : A → ℕ) (l : List A) → ((x : A) → p x ≡ true → f x ≡ g x)
    → sum (map f (keep p l)) ≡ sum (map g (keep p l))
unfolding keep sum
sum-keep-ext p f g [] h = refl
sum-keep-ext p f g (x ∷ xs) h = go (p x) refl (sum-keep-ext p f g xs h)
  where
    go : (b : Bool) → p x ≡ b → sum (map f (keep p xs)) ≡ sum (map g (keep p xs))
        → sum (map f (cond b (x ∷ keep p xs) (keep p xs))) ≡ sum (map g (cond b (x ∷ keep p xs) (keep p xs)))
    go true e ih = omega (arith, h x e, ih)
    go false e ih = ih

-- a test that passes wherever another does keeps at least as much
pub sum-keep-le : {A : Type 0} (p r : A → Bool) (f : A → ℕ) (l : List A) → ((x : A) → p x ≡ true → r x ≡ true)
    → sum (map f (keep p l)) ≤ sum (map f (keep r l))
unfolding keep sum
sum-keep-le p r f [] h = omega arith
sum-keep-le p r f (x ∷ xs) h = go (p x) (r x) (h x) (sum-keep-le p r f xs h)
  where
    go : (a b : Bool) → (a ≡ true → b ≡ true) → sum (map f (keep p xs)) ≤ sum (map f (keep r xs))
        → sum (map f (cond a (x ∷ keep p xs) (keep p xs))) ≤ sum (map f (cond b (x ∷ keep r xs) (keep r xs)))
    go true true h ih = omega arith
    go true false h ih = absurd (false≢true (h refl))
    go false true h ih = omega arith
    go false false h ih = ih

-- a test that two others share out
pub sum-keep-parts : {A : Type 0} (p r s : A → Bool) (f : A → ℕ) (l : List A) → ((x : A) → one_if (p x) ≡ one_if (r x) + one_if (s x))
    → sum (map f (keep p l)) ≡ sum (map f (keep r l)) + sum (map f (keep s l))
unfolding keep sum one_if
sum-keep-parts p r s f [] h = refl
sum-keep-parts p r s f (x ∷ xs) h = go (p x) (r x) (s x) (h x) (sum-keep-parts p r s f xs h)
  where
    go : (a b d : Bool) → one_if a ≡ one_if b + one_if d → sum (map f (keep p xs)) ≡ sum (map f (keep r xs)) + sum (map f (keep s xs))
        → sum (map f (cond a (x ∷ keep p xs) (keep p xs)))
        ≡ sum (map f (cond b (x ∷ keep r xs) (keep r xs))) + sum (map f (cond d (x ∷ keep s xs) (keep s xs)))
    go true true true e ih = absurd (omega arith)
    go true true false e ih = omega arith
    go true false true e ih = omega arith
    go true false false e ih = absurd (omega arith)
    go false true true e ih = absurd (omega arith)
    go false true false e ih = absurd (omega arith)
    go false false true e ih = absurd (omega arith)
    go false false false e ih = ih

-- a sum over those kept is a sum over all, in which the others give 0
pub sum-keep : {A : Type 0} (p : A → Bool) (f : A → ℕ) (l : List A) → sum (map f (keep p l)) ≡ sum (map (λ x. when p x then f x else 0) l)
unfolding keep sum
sum-keep p f [] = refl
sum-keep p f (x ∷ xs) = go (p x) (sum-keep p f xs)
  where
    go : (b : Bool) → sum (map f (keep p xs)) ≡ sum (map (λ x. when p x then f x else 0) xs)
        → sum (map f (cond b (x ∷ keep p xs) (keep p xs))) ≡ cond b (f x) 0 + sum (map (λ x. when p x then f x else 0) xs)
    go true e = omega arith
    go false e = omega arith

-- what those that pass the test give, and 0 from the others
pub sum-chosen : {A : Type 0} (p : A → Bool) (f g : A → ℕ) (l : List A) → Each (λ x. f x ≡ (when p x then g x else 0)) l → sum (map f l) ≡ sum (map g (keep p l))
unfolding sum keep
sum-chosen p f g [] h = refl
sum-chosen p f g (x ∷ xs) h =
    cases (p x) _
    (λ e. rw e (omega (arith, rw e at h.0, sum-chosen p f g xs h.1)))
    (λ e. rw e (omega (arith, rw e at h.0, sum-chosen p f g xs h.1)))

-- a sum of numbers that are 1 or 0 by a test
pub sum_ones : {A : Type 0} (f : A → ℕ) (p : A → Bool) → ((x : A) → f x ≡ one_if (p x)) → (l : List A) → sum (map f l) ≡ count p l
unfolding sum count
sum_ones f p h [] = refl
sum_ones f p h (x ∷ xs) = omega (arith, h x, sum_ones f p h xs)

-- ---- sums and counts of what is kept of a list that is given by its places

sum-if : {A : Type 0} (b : Bool) (f : A → ℕ) (x : A) (l : List A) → sum (map f (cond b (x ∷ l) l)) ≡ cond b (f x) 0 + sum (map f l)
unfolding sum
sum-if true f x l = refl
sum-if false f x l = omega arith

-- one entry more, in front
pub sum-keep-cons : {A : Type 0} (p : A → Bool) (f : A → ℕ) (x : A) (xs : List A)
    → sum (map f (keep p (x ∷ xs))) ≡ (when p x then f x else 0) + sum (map f (keep p xs))
unfolding keep
sum-keep-cons p f x xs = sum-if (p x) f x (keep p xs)

pub sum_kept : {A : Type 0} (n : ℕ) (p : A → Bool) (f : A → ℕ) (g : ℕ → A)
    → sum (map f (keep p (tab n g))) ≡ sum_to n (λ k. when p (g k) then f (g k) else 0)
unfolding sum tab keep sum_to
sum_kept zero p f g = refl
sum_kept (suc n) p f g =
    omega (
      arith,
      sum-if (p (g 0)) f (g 0) (keep p (tab n (λ k. g (suc k)))),
      sum_kept n p f (λ k. g (suc k)),
      sum_to-front n (λ k. when p (g k) then f (g k) else 0),
    )

length-if : {A : Type 0} (b : Bool) (x : A) (l : List A) → length (cond b (x ∷ l) l) ≡ one_if b + length l
unfolding one_if
length-if true x l = omega arith
length-if false x l = omega arith

pub length-kept : {A : Type 0} (n : ℕ) (p : A → Bool) (g : ℕ → A) → length (keep p (tab n g)) ≡ count_to n (λ k. p (g k))
unfolding tab keep sum_to
length-kept zero p g = refl
length-kept (suc n) p g =
    omega (
      arith,
      length-if (p (g 0)) (g 0) (keep p (tab n (λ k. g (suc k)))),
      length-kept n p (λ k. g (suc k)),
      sum_to-front n (λ k. one_if (p (g k))),
    )

-- a count is the length of what is kept
pub count-keep : {A : Type 0} (p : A → Bool) (l : List A) → count p l ≡ length (keep p l)
unfolding count keep
count-keep p [] = refl
count-keep p (x ∷ xs) = omega (arith, count-keep p xs, length-if (p x) x (keep p xs))

pub count_kept : {A : Type 0} (n : ℕ) (p r : A → Bool) (g : ℕ → A) → count r (keep p (tab n g)) ≡ count_to n (λ k. p (g k) && r (g k))
count_kept n p r g = count-keep r (keep p (tab n g)) ∙ ap length (sym (keep-and p r (tab n g))) ∙ length-kept n (λ x. p x && r x) g

-- a list of n numbers that is 0 where the test fails, added up where it passes
pub sum-at-kept : (n : ℕ) (p : ℕ → Bool) (xs : List ℕ) → length xs ≡ n → ((k : ℕ) → k < n → p k ≡ false → get_or xs k 0 ≡ 0)
    → sum (map (λ k. get_or xs k 0) (keep p (places n))) ≡ sum xs
sum-at-kept n p xs long off =
    sum_kept n p (λ k. get_or xs k 0) (λ k. k)
    ∙ sum_to-ext n _ (λ k. get_or xs k 0) (λ k l. go k l (p k) refl)
    ∙ ap (λ m. sum_to m (λ k. get_or xs k 0)) (sym long)
    ∙ sym (sum-places xs)
  where
    go : (k : ℕ) → k < n → (b : Bool) → p k ≡ b → (when b then get_or xs k 0 else 0) ≡ get_or xs k 0
    go k l true e = refl
    go k l false e = sym (off k l e)

-- ---- groups

-- v at one of n places
one-past : (n j v : ℕ) → n ≤ j → sum_to n (λ i. when eqb i j then v else 0) ≡ 0
unfolding sum_to
one-past zero j v l = refl
one-past (suc n) j v l = rw (ne_eqb n j (omega arith)) (omega (arith, one-past n j v (omega arith)))

pub sum_to-one : (n j v : ℕ) → j < n → sum_to n (λ i. when eqb i j then v else 0) ≡ v
unfolding sum_to
sum_to-one zero j v l = absurd (not-suc-le-zero l)
sum_to-one (suc n) j v l =
    ⊎_elim
    (λ e. rw (eq-eqb n j (omega arith)) (omega (arith, one-past n j v (omega arith))))
    (λ m. rw (ne_eqb n j (omega arith)) (omega (arith, sum_to-one n j v m)))
    (eq-or-lt_of_le (le_of_suc-le-suc l))

-- the places that pass the test, in m groups by a key: what the groups add up to, added up
pub sum-by-key : (n m : ℕ) (p : ℕ → Bool) (f key : ℕ → ℕ) → ((k : ℕ) → k < n → p k ≡ true → key k < m)
    → sum_to m (λ i. sum (map f (keep (λ k. eqb i (key k)) (keep p (places n))))) ≡ sum (map f (keep p (places n)))
sum-by-key n m p f key below =
    sum_to-ext m _ (λ i. sum_to n (λ k. when p k && eqb i (key k) then f k else 0))
    (λ i l. ap (λ ks. sum (map f ks)) (sym (keep-and p (λ k. eqb i (key k)) (places n))) ∙ sum_kept n (λ k. p k && eqb i (key k)) f (λ k. k))
    ∙ sum_to-swap m n (λ i k. when p k && eqb i (key k) then f k else 0)
    ∙ sum_to-ext n _ (λ k. when p k then f k else 0) (λ k l. go k l (p k) refl)
    ∙ sym (sum_kept n p f (λ k. k))
  where
    go : (k : ℕ) → k < n → (b : Bool) → p k ≡ b → sum_to m (λ i. when b && eqb i (key k) then f k else 0) ≡ (when b then f k else 0)
    go k l true e = sum_to-one m (key k) (f k) (below k l e)
    go k l false e = sum_to-zero m

-- ---- what is put back

pub drop-one : (ys : List ℕ) (k : ℕ) → get_or (drop 1 ys) k 0 ≡ get_or ys (suc k) 0
drop-one [] k = refl
drop-one (y ∷ ys) k = refl

-- what is put back at a place is at most f there, if it is at most f of those kept
pub put_back-le : {A : Type 0} (p : A → Bool) (f : A → ℕ) (d : A) (xs : List A) (ys : List ℕ)
    → ((k : ℕ) → get_or ys k 0 ≤ get_or (map f (keep p xs)) k 0) → (i : ℕ) → i < length xs → get_or (put_back p xs ys) i 0 ≤ f (get_or xs i d)
unfolding keep put_back
put_back-le p f d [] ys h i l = absurd (omega arith)
put_back-le p f d (x ∷ xs) ys h i l = go (p x) h i l (λ zs g k m. put_back-le p f d xs zs g k m)
  where
    go : (b : Bool) → ((k : ℕ) → get_or ys k 0 ≤ get_or (map f (when b then x ∷ keep p xs else keep p xs)) k 0) → (i : ℕ) → i < length (x ∷ xs)
        → ((zs : List ℕ) → ((k : ℕ) → get_or zs k 0 ≤ get_or (map f (keep p xs)) k 0) → (k : ℕ) → k < length xs → get_or (put_back p xs zs) k 0 ≤ f (get_or xs k d))
        → get_or ((when b then get_or ys 0 0 else 0) ∷ put_back p xs (when b then drop 1 ys else ys)) i 0 ≤ f (get_or (x ∷ xs) i d)
    go true h zero l rest = h 0
    go true h (suc i) l rest = rest (drop 1 ys) (λ k. rw (drop-one ys k) (h (suc k))) i (omega arith)
    go false h zero l rest = omega arith
    go false h (suc i) l rest = rest ys h i (omega arith)

pub sum_drop : (ys : List ℕ) → get_or ys 0 0 + sum (drop 1 ys) ≡ sum ys
unfolding sum
sum_drop [] = refl
sum_drop (y ∷ ys) = refl

-- what is left of a list from a place on, with the entry there taken out in front
pub sum-from : (ys : List ℕ) (i : ℕ) → get_or ys i 0 + sum (drop (suc i) ys) ≡ sum (drop i ys)
unfolding sum
sum-from [] zero = refl
sum-from [] (suc i) = refl
sum-from (y ∷ ys) zero = refl
sum-from (y ∷ ys) (suc i) = sum-from ys i

pub put_back-sum : {A : Type 0} (p : A → Bool) (xs : List A) (ys : List ℕ) → sum (put_back p xs ys) ≤ sum ys
unfolding put_back sum
put_back-sum p [] ys = omega arith
put_back-sum p (x ∷ xs) ys = go (p x) (put_back-sum p xs (drop 1 ys)) (put_back-sum p xs ys)
  where
    go : (b : Bool) → sum (put_back p xs (drop 1 ys)) ≤ sum (drop 1 ys) → sum (put_back p xs ys) ≤ sum ys
        → (when b then get_or ys 0 0 else 0) + sum (put_back p xs (when b then drop 1 ys else ys)) ≤ sum ys
    go true a b = omega (arith, sum_drop ys)
    go false a b = omega arith

-- what holds of 0, and of what those kept are given, holds of what is put back at each place
pub put_back-at : {A : Type 0} (R : A → ℕ → Type 0) → ((x : A) → R x 0) → (p : A → Bool) (d : A) (xs : List A) (ys : List ℕ)
    → ((k : ℕ) → k < length (keep p xs) → R (get_or (keep p xs) k d) (get_or ys k 0)) → (i : ℕ) → i < length xs → R (get_or xs i d) (get_or (put_back p xs ys) i 0)
unfolding keep put_back
put_back-at {A} R none p d [] ys h i l = absurd (omega arith)
put_back-at {A} R none p d (x ∷ xs) ys h i l = go (p x) h i l (λ zs g k m. put_back-at R none p d xs zs g k m)
  where
    kept : Bool → List A
    kept b = when b then x ∷ keep p xs else keep p xs

    go : (b : Bool) → ((k : ℕ) → k < length (kept b) → R (get_or (kept b) k d) (get_or ys k 0)) → (i : ℕ) → i < length (x ∷ xs)
        → ((zs : List ℕ) → ((k : ℕ) → k < length (keep p xs) → R (get_or (keep p xs) k d) (get_or zs k 0)) → (k : ℕ) → k < length xs → R (get_or xs k d) (get_or (put_back p xs zs) k 0))
        → R (get_or (x ∷ xs) i d) (get_or ((when b then get_or ys 0 0 else 0) ∷ put_back p xs (when b then drop 1 ys else ys)) i 0)
    go true h zero l rest = h 0 (omega arith)
    go true h (suc i) l rest = rest (drop 1 ys) (λ k m. rw (drop-one ys k) (h (suc k) (omega arith))) i (omega arith)
    go false h zero l rest = none x
    go false h (suc i) l rest = rest ys h i (omega arith)

-- those that pass a test are not more than all
pub keep-few : {A : Type 0} (p : A → Bool) (xs : List A) → length (keep p xs) ≤ length xs
unfolding keep
keep-few p [] = omega arith
keep-few p (x ∷ xs) = go (p x) (keep-few p xs)
  where
    go : (b : Bool) → length (keep p xs) ≤ length xs → length (when b then x ∷ keep p xs else keep p xs) ≤ suc (length xs)
    go true h = omega arith
    go false h = omega arith

-- the entries in groups by a key below n: what the groups add up to, added up
pub sum-keys : {A : Type 0} (n : ℕ) (f key : A → ℕ) (xs : List A) → Each (λ x. key x < n) xs
    → sum_to n (λ k. sum (map f (keep (λ x. eqb (key x) k) xs))) ≡ sum (map f xs)
unfolding keep sum
sum-keys n f key [] h = sum_to-zero n
sum-keys n f key (x ∷ xs) h =
    sum_to-ext n _ (λ k. (when eqb k (key x) then f x else 0) + sum (map f (keep (λ y. eqb (key y) k) xs)))
    (λ k l. sum-keep-cons (λ y. eqb (key y) k) f x xs
    ∙ ap (λ (b : Bool). (when b then f x else 0) + sum (map f (keep (λ y. eqb (key y) k) xs))) (eqb_same (key x) k k (key x) sym sym))
    ∙ sum_to-add n (λ k. when eqb k (key x) then f x else 0) (λ k. sum (map f (keep (λ y. eqb (key y) k) xs)))
    ∙ ap (λ (m : ℕ). m + sum_to n (λ k. sum (map f (keep (λ y. eqb (key y) k) xs)))) (sum_to-one n (key x) (f x) h.0)
    ∙ ap (λ (m : ℕ). f x + m) (sum-keys n f key xs h.1)
