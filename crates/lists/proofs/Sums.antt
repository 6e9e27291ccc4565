-- Laws of sums and counts over the places 0 .. n - 1, and of sums of lists. Assumes nothing.
use mathlib.Core.Path.{◌≡◌, refl, sym, ap}
use mathlib.Core.Bool.{Bool}
use mathlib.Core.Logic.{⊎_elim}
use mathlib.Core.List.{List, [], ◌∷◌, map, ◌++◌}
use Prim.Native.Nat.{ℕ, zero, suc, ◌+◌, ◌*◌, ◌≤◌, ◌<◌}
use native.Mathlib.Nat.{add-mul, mul-add, zero-mul, suc-mul, mul-zero, not-suc-le-zero, le_of_suc-le-suc, eq-or-lt_of_le}
use native.Mathlib.Numerals.{add-one}
use native.Mathlib.Omega.{arith}
use lib.ListN.{length, get_or}
use Rattle.lists.specs.Lists.{sum, sum_to, count_to, least}
use Rattle.lists.proofs.Bools.{one_if-small}
use Rattle.lists.proofs.Each.{Each, each_more}

-- one place more, as a loop's turn has it
pub sum_to-next : (n : ℕ) (f : ℕ → ℕ) → sum_to (n + 1) f ≡ sum_to n f + f n
unfolding sum_to
sum_to-next n f = rw add-one

pub sum_to-none : (f : ℕ → ℕ) → sum_to 0 f ≡ 0
unfolding sum_to
sum_to-none f = refl

pub sum_to-ext : (n : ℕ) (f g : ℕ → ℕ) → ((k : ℕ) → k < n → f k ≡ g k) → sum_to n f ≡ sum_to n g
unfolding sum_to
sum_to-ext zero f g h = refl
sum_to-ext (suc n) f g h = omega (arith, sum_to-ext n f g (λ k l. h k (omega arith)), h n (omega arith))

pub sum_to-le : (n : ℕ) (f g : ℕ → ℕ) → ((k : ℕ) → k < n → f k ≤ g k) → sum_to n f ≤ sum_to n g
unfolding sum_to
sum_to-le zero f g h = omega arith
sum_to-le (suc n) f g h = omega (arith, sum_to-le n f g (λ k l. h k (omega arith)), h n (omega arith))

pub sum_to-add : (n : ℕ) (f g : ℕ → ℕ) → sum_to n (λ k. f k + g k) ≡ sum_to n f + sum_to n g
unfolding sum_to
sum_to-add zero f g = refl
sum_to-add (suc n) f g = omega (arith, sum_to-add n f g)

pub sum_to-mul : (n : ℕ) (f : ℕ → ℕ) (c : ℕ) → sum_to n (λ k. f k * c) ≡ sum_to n f * c
unfolding sum_to
sum_to-mul zero f c = sym (zero-mul c)
sum_to-mul (suc n) f c = omega (arith, sum_to-mul n f c, add-mul (sum_to n f) (f n) c)

pub sum_to-times : (n : ℕ) (c : ℕ) (f : ℕ → ℕ) → sum_to n (λ k. c * f k) ≡ c * sum_to n f
unfolding sum_to
sum_to-times zero c f = sym (mul-zero c)
sum_to-times (suc n) c f = omega (arith, sum_to-times n c f, mul-add c (sum_to n f) (f n))

pub sum_to-zero : (n : ℕ) → sum_to n (λ k. 0) ≡ 0
unfolding sum_to
sum_to-zero zero = refl
sum_to-zero (suc n) = omega (arith, sum_to-zero n)

-- two sums, one in the other, may change places
pub sum_to-swap : (n m : ℕ) (f : ℕ → ℕ → ℕ) → sum_to n (λ i. sum_to m (f i)) ≡ sum_to m (λ k. sum_to n (λ i. f i k))
unfolding sum_to
sum_to-swap zero m f = sym (sum_to-zero m)
sum_to-swap (suc n) m f = omega (arith, sum_to-swap n m f, sum_to-add m (λ k. sum_to n (λ i. f i k)) (f n))

-- the first place taken out in front
pub sum_to-front : (n : ℕ) (f : ℕ → ℕ) → sum_to (suc n) f ≡ f 0 + sum_to n (λ k. f (suc k))
unfolding sum_to
sum_to-front zero f = omega arith
sum_to-front (suc n) f = omega (arith, sum_to-front n f)

-- one term is at most the sum
pub sum_to-term : (n : ℕ) (f : ℕ → ℕ) (i : ℕ) → i < n → f i ≤ sum_to n f
unfolding sum_to
sum_to-term zero f i l = absurd (not-suc-le-zero l)
sum_to-term (suc n) f i l =
    ⊎_elim
    (λ e. omega (arith, ap f e))
    (λ m. omega (arith, sum_to-term n f i m))
    (eq-or-lt_of_le (le_of_suc-le-suc l))

-- a list's sum, by its places
pub sum-places : (xs : List ℕ) → sum xs ≡ sum_to (length xs) (λ k. get_or xs k 0)
unfolding sum sum_to
sum-places [] = refl
sum-places (x ∷ xs) = omega (arith, sum-places xs, sum_to-front (length xs) (λ k. get_or (x ∷ xs) k 0))

pub count_small : (n : ℕ) (p : ℕ → Bool) → count_to n p ≤ n
unfolding sum_to
count_small zero p = omega arith
count_small (suc n) p = omega (arith, count_small n p, one_if-small (p n))

-- an entry is at most the sum
pub entry-le : (xs : List ℕ) (i : ℕ) → get_or xs i 0 ≤ sum xs
unfolding sum
entry-le [] i = omega arith
entry-le (x ∷ xs) zero = omega arith
entry-le (x ∷ xs) (suc i) = omega (arith, entry-le xs i)

-- a bound on each entry bounds the sum
pub sum_bound : (b : ℕ) (xs : List ℕ) → ((k : ℕ) → get_or xs k 0 ≤ b) → sum xs ≤ length xs * b
unfolding sum
sum_bound b [] h = omega arith
sum_bound b (x ∷ xs) h = omega (arith, sum_bound b xs (λ k. h (suc k)), h 0, suc-mul (length xs) b)

-- a bound on the entries holds past the end too, where 0 stands
pub bound-past : (b : ℕ) (xs : List ℕ) → ((k : ℕ) → k < length xs → get_or xs k 0 ≤ b) → (k : ℕ) → get_or xs k 0 ≤ b
bound-past b [] h k = omega arith
bound-past b (x ∷ xs) h zero = h 0 (omega arith)
bound-past b (x ∷ xs) h (suc k) = bound-past b xs (λ j l. h (suc j) (omega arith)) k

-- terms that are each at most others, and add up to as much, are these
pub sum_to-tight : (n : ℕ) (f g : ℕ → ℕ) → ((k : ℕ) → k < n → f k ≤ g k) → sum_to n f ≡ sum_to n g → (k : ℕ) → k < n → f k ≡ g k
unfolding sum_to
sum_to-tight zero f g h e k l = absurd (not-suc-le-zero l)
sum_to-tight (suc n) f g h e k l =
    let below : sum_to n f ≤ sum_to n g = sum_to-le n f g (λ k l. h k (omega arith)) in
    let last : f n ≤ g n = h n (omega arith) in
    ⊎_elim
    (λ s. rw s (omega arith))
    (λ m. sum_to-tight n f g (λ k l. h k (omega arith)) (omega arith) k m)
    (eq-or-lt_of_le (le_of_suc-le-suc l))

-- a bound on each term bounds the sum
pub sum_to-bound : (n b : ℕ) (f : ℕ → ℕ) → ((k : ℕ) → k < n → f k ≤ b) → sum_to n f ≤ n * b
unfolding sum_to
sum_to-bound zero b f h = omega arith
sum_to-bound (suc n) b f h = omega (arith, sum_to-bound n b f (λ k l. h k (omega arith)), h n (omega arith), suc-mul n b)

-- terms that are each at most a multiple of another's
pub sum-scaled : {A : Type 0} (c : ℕ) (f g : A → ℕ) (xs : List A) → Each (λ x. f x ≤ g x * c) xs → sum (map f xs) ≤ sum (map g xs) * c
unfolding sum
sum-scaled c f g [] h = omega arith
sum-scaled c f g (x ∷ xs) h = omega (arith, h.0, sum-scaled c f g xs h.1, add-mul (g x) (sum (map g xs)) c)

-- the least is at most each
pub least-each : (ys : List ℕ) → Each (λ y. least ys ≤ y) ys
unfolding least
least-each [] = tt
least-each (y ∷ []) = (omega arith, tt)
least-each (y ∷ z ∷ ys) = (omega arith, each_more _ _ (λ x h. omega arith) (z ∷ ys) (least-each (z ∷ ys)))

-- terms that are each at most another's
pub sum-le : {A : Type 0} (f g : A → ℕ) (xs : List A) → Each (λ x. f x ≤ g x) xs → sum (map f xs) ≤ sum (map g xs)
unfolding sum
sum-le f g [] h = omega arith
sum-le f g (x ∷ xs) h = omega (arith, h.0, sum-le f g xs h.1)

-- and add up to as much
pub sum-equal : {A : Type 0} (f g : A → ℕ) (xs : List A) → Each (λ x. f x ≤ g x) xs → sum (map f xs) ≡ sum (map g xs) → Each (λ x. f x ≡ g x) xs
unfolding sum
sum-equal f g [] h e = tt
sum-equal f g (x ∷ xs) h e =
    let less = sum-le f g xs h.1 in
    (omega (arith, h.0), sum-equal f g xs h.1 (omega (arith, h.0)))

-- terms that are all 0
pub sum-none : {A : Type 0} (f : A → ℕ) (xs : List A) → Each (λ x. f x ≡ 0) xs → sum (map f xs) ≡ 0
unfolding sum
sum-none f [] h = refl
sum-none f (x ∷ xs) h = omega (arith, h.0, sum-none f xs h.1)

pub sum-append : (xs ys : List ℕ) → sum (xs ++ ys) ≡ sum xs + sum ys
unfolding sum
sum-append [] ys = omega arith
sum-append (x ∷ xs) ys = omega (arith, sum-append xs ys)

-- a bound on what each gives
pub sum-at-most : {A : Type 0} (f : A → ℕ) (b : ℕ) (xs : List A) → Each (λ x. f x ≤ b) xs → sum (map f xs) ≤ length xs * b
unfolding sum
sum-at-most f b [] h = omega arith
sum-at-most f b (x ∷ xs) h = omega (arith, h.0, sum-at-most f b xs h.1, suc-mul (length xs) b)
