-- Laws of lists that are given by their places, and of loops that fill them. Assumes nothing.
use mathlib.Core.Path.{◌≡◌, refl, sym, ap, ◌∙◌}
use mathlib.Core.List.{List, [], ◌∷◌, ◌++◌, map}
use Prim.Native.Nat.{ℕ, zero, suc, ◌+◌, ◌≤◌, ◌<◌, ◌-◌}
use native.Mathlib.Nat.{zero-add, not-suc-le-zero, le_of_suc-le-suc}
use native.Mathlib.Numerals.{add-one}
use native.Mathlib.Omega.{arith}
use lib.Dec.{eqb}
use lib.ListN.{length, get_or, set, take, drop, replicate, length-set, get_or-eq_default}
use lib.Seq.{append_snoc, take-suc, length-take-le, set_at, get_or-set_same, get_or-set_other, ext_get_or}
use borrow.Author.Count.{below_more}
use borrow.Author.Tests.{eqb-true, eqb-false}
use Rattle.lists.specs.Lists.{sum, sum_to, tab, places, map_from}
use Rattle.lists.proofs.Bools.{cases}
use Rattle.lists.proofs.Each.{length-map, map-append, length-map_from, get_or-map_from}
use Rattle.lists.proofs.Sums.{sum_to-front}

pub length-tab : {A : Type 0} (n : ℕ) (f : ℕ → A) → length (tab n f) ≡ n
unfolding tab
length-tab zero f = refl
length-tab (suc n) f = ap suc (length-tab n (λ k. f (suc k)))

pub get_or-tab : {A : Type 0} (n : ℕ) (f : ℕ → A) (i : ℕ) (d : A) → i < n → get_or (tab n f) i d ≡ f i
unfolding tab
get_or-tab zero f i d l = absurd (not-suc-le-zero l)
get_or-tab (suc n) f zero d l = refl
get_or-tab (suc n) f (suc i) d l = get_or-tab n (λ k. f (suc k)) i d (le_of_suc-le-suc l)

pub map-tab : {A B : Type 0} (n : ℕ) (g : A → B) (f : ℕ → A) → map g (tab n f) ≡ tab n (λ k. g (f k))
unfolding tab
map-tab zero g f = refl
map-tab (suc n) g f = ap (λ l. g (f 0) ∷ l) (map-tab n g (λ k. f (suc k)))

pub take-tab : {A : Type 0} (n i : ℕ) (f : ℕ → A) → i ≤ n → take i (tab n f) ≡ tab i f
unfolding tab
take-tab n zero f l = refl
take-tab zero (suc i) f l = absurd (not-suc-le-zero l)
take-tab (suc n) (suc i) f l = ap (λ l. f 0 ∷ l) (take-tab n i (λ k. f (suc k)) (le_of_suc-le-suc l))

-- 0 past the end
pub get_or-tab-past : (n : ℕ) (f : ℕ → ℕ) (i : ℕ) → n ≤ i → get_or (tab n f) i 0 ≡ 0
get_or-tab-past n f i g = get_or-eq_default (tab n f) 0 {n = i} (omega (arith, length-tab n f))

pub sum-tab : (n : ℕ) (f : ℕ → ℕ) → sum (tab n f) ≡ sum_to n f
unfolding tab sum sum_to
sum-tab zero f = refl
sum-tab (suc n) f = omega (arith, sum-tab n (λ k. f (suc k)), sum_to-front n f)

-- a list that has f k at each place k is the list of f's values
pub tab-of : {A : Type 0} (n : ℕ) (f : ℕ → A) (d : A) (xs : List A) → length xs ≡ n → ((k : ℕ) → k < n → get_or xs k d ≡ f k) → xs ≡ tab n f
tab-of n f d xs e h =
    ext_get_or d xs (tab n f) (e ∙ sym (length-tab n f))
    (λ i l. h i (omega arith) ∙ sym (get_or-tab n f i d (omega arith)))

-- a list is given by what stands at its places
pub tab-self : {A : Type 0} (d : A) (xs : List A) → xs ≡ tab (length xs) (λ k. get_or xs k d)
tab-self d xs = tab-of (length xs) (λ k. get_or xs k d) d xs refl (λ k l. refl)

pub map-places : {A : Type 0} (d : A) (xs : List A) → map (λ k. get_or xs k d) (places (length xs)) ≡ xs
map-places d xs = map-tab (length xs) (λ k. get_or xs k d) (λ k. k) ∙ sym (tab-self d xs)

-- functions that agree at the places
pub tab-ext : {A : Type 0} (n : ℕ) (f g : ℕ → A) → ((k : ℕ) → k < n → f k ≡ g k) → tab n f ≡ tab n g
unfolding tab
tab-ext zero f g h = refl
tab-ext (suc n) f g h = cc (h 0 (omega arith), tab-ext n (λ k. f (suc k)) (λ k. g (suc k)) (λ k l. h (suc k) (omega arith)))

-- one place more, at the end
pub tab-last : {A : Type 0} (n : ℕ) (f : ℕ → A) → tab (suc n) f ≡ tab n f ++ (f n ∷ [])
unfolding tab
tab-last zero f = refl
tab-last (suc n) f = ap (λ l. f 0 ∷ l) (tab-last n (λ k. f (suc k)))

-- one place more, where the earlier ones stay as they are
pub tab-more : {A : Type 0} (n : ℕ) (f g : ℕ → A) (a : A) → ((k : ℕ) → k < n → g k ≡ f k) → g n ≡ a → tab (n + 1) g ≡ tab n f ++ (a ∷ [])
tab-more n f g a h e = rw (add-one n, tab-last n g, tab-ext n g f h, e)

-- a list of one entry throughout
pub tab-same : {A : Type 0} (n : ℕ) (a : A) → tab n (λ k. a) ≡ replicate n a
unfolding tab
tab-same zero a = refl
tab-same (suc n) a = ap (λ l. a ∷ l) (tab-same n a)

-- an entry throughout, past the end too
pub get_or-same : {A : Type 0} (n i : ℕ) (a : A) → get_or (replicate n a) i a ≡ a
get_or-same zero i a = refl
get_or-same (suc n) zero a = refl
get_or-same (suc n) (suc i) a = get_or-same n i a

-- a run of 0, cut
pub take-zeros : (m n : ℕ) → n ≤ m → take {A = ℕ} n (replicate m 0) ≡ replicate n 0
take-zeros m zero h = refl
take-zeros zero (suc n) h = absurd (omega arith)
take-zeros (suc m) (suc n) h = ap (λ (l : List ℕ). 0 ∷ l) (take-zeros m n (omega arith))

pub drop-zeros : (m n : ℕ) → drop {A = ℕ} n (replicate m 0) ≡ replicate (m - n) 0
drop-zeros m zero =
    let e : m - 0 ≡ m = omega arith in
    rw e
drop-zeros zero (suc n) =
    let e : 0 - suc n ≡ 0 = omega arith in
    rw e
drop-zeros (suc m) (suc n) =
    let e : suc m - suc n ≡ m - n = omega arith in
    rw e (drop-zeros m n)

-- a run of 0 behind a list changes no place of it
pub get_or-zeros : (xs : List ℕ) (k j : ℕ) → get_or (xs ++ replicate k 0) j 0 ≡ get_or xs j 0
get_or-zeros [] k zero = get_or-same k zero 0
get_or-zeros [] k (suc j) = get_or-same k (suc j) 0
get_or-zeros (x ∷ xs) k zero = refl
get_or-zeros (x ∷ xs) k (suc j) = get_or-zeros xs k j

-- a loop that fills a list from the front: after the store at place i the places below i + 1 are filled
pub filled_next : {A : Type 0} (f : ℕ → A) (d : A) (xs : List A) (i : ℕ) (v : A) → i < length xs → ((k : ℕ) → k < i → get_or xs k d ≡ f k) → v ≡ f i
    → (k : ℕ) → k < i + 1 → get_or (set xs i v) k d ≡ f k
filled_next f d xs i v l below e =
    below_more (λ k. get_or (set xs i v) k d ≡ f k) i
    (λ k m. get_or-set_other xs i k v d (omega arith) ∙ below k m)
    (get_or-set_same xs i v d l ∙ e)

-- a loop that changes a list from the front: the places from i + 1 on stay as they were
pub unfilled-next : {A : Type 0} (d : A) (xs ys : List A) (i : ℕ) (v : A) → ((k : ℕ) → i ≤ k → get_or xs k d ≡ get_or ys k d)
    → (k : ℕ) → i + 1 ≤ k → get_or (set xs i v) k d ≡ get_or ys k d
unfilled-next d xs ys i v above k l = get_or-set_other xs i k v d (omega arith) ∙ above k (omega arith)

-- n places and m more
pub tab-append : {A : Type 0} (n m : ℕ) (f : ℕ → A) → tab (n + m) f ≡ tab n f ++ tab m (λ k. f (n + k))
unfolding tab
tab-append zero m f = rw (zero-add m) (tab-ext m f (λ k. f (0 + k)) (λ k l. ap f (sym (zero-add k))))
tab-append {A} (suc n) m f =
    let e : suc n + m ≡ suc (n + m) = omega arith in
    rw e
    (ap (λ (l : List A). f 0 ∷ l)
    (tab-append n m (λ k. f (suc k))
    ∙ ap (λ (l : List A). tab n (λ k. f (suc k)) ++ l) (tab-ext m (λ k. f (suc (n + k))) (λ k. f (suc n + k)) (λ k l. ap f (omega arith)))))

-- ---- what stands at a place of a list, whatever would stand past its end

pub get_or-in : {A : Type 0} (l : List A) (i : ℕ) (d e : A) → i < length l → get_or l i d ≡ get_or l i e
get_or-in [] i d e h = absurd (not-suc-le-zero h)
get_or-in (x ∷ xs) zero d e h = refl
get_or-in (x ∷ xs) (suc i) d e h = get_or-in xs i d e (le_of_suc-le-suc h)

pub get_or-map-in : {A B : Type 0} (f : A → B) (l : List A) (i : ℕ) (d : A) (y : B) → i < length l → get_or (map f l) i y ≡ f (get_or l i d)
get_or-map-in f [] i d y h = absurd (not-suc-le-zero h)
get_or-map-in f (x ∷ xs) zero d y h = refl
get_or-map-in f (x ∷ xs) (suc i) d y h = get_or-map-in f xs i d y (le_of_suc-le-suc h)

-- a loop that writes f of each entry into a run of m: f of the first i entries stands in front, x behind them
pub written_next : {A B : Type 0} (f : A → B) (m i : ℕ) (l : List A) (d : A) (x : B) → i < length l → i < m
    → set (map f (take i l) ++ replicate (m - i) x) i (f (get_or l i d)) ≡ map f (take (i + 1) l) ++ replicate (m - (i + 1)) x
written_next f m i l d x hl hm =
    let e : m - i ≡ suc (m - (i + 1)) = omega arith in
    let long : length (map f (take i l)) ≡ i = length-map f (take i l) ∙ length-take-le i l (omega arith) in
    rw (
      e,
      set_at (map f (take i l)) x (replicate (m - (i + 1)) x) (f (get_or l i d)) i long,
      add-one i,
      take-suc l i d hl,
      map-append f (take i l) (get_or l i d ∷ []),
      append_snoc,
    )

-- ---- lists that are given by their places, changed

-- one place changed
pub tab-set : {A : Type 0} (n : ℕ) (f g : ℕ → A) (i : ℕ) (v : A) → ((k : ℕ) → k < n → (k ≡ i → ⊥) → g k ≡ f k) → (i < n → g i ≡ v)
    → tab n g ≡ set (tab n f) i v
tab-set n f g i v others here =
    sym (tab-of n g v (set (tab n f) i v) (length-set (tab n f) i v ∙ length-tab n f)
    (λ k l. cases (eqb k i) _
    (λ t. let e = eqb-true k i t in rw e (get_or-set_same (tab n f) i v v (omega (arith, length-tab n f)) ∙ sym (here (omega arith))))
    (λ t.
    let apart = eqb-false k i t in
    get_or-set_other (tab n f) i k v v apart ∙ get_or-tab n f k v l ∙ sym (others k l apart))))

-- each place changed
pub map_from-tab : {A : Type 0} (n : ℕ) (f : ℕ → A → A) (g : ℕ → A) → map_from 0 f (tab n g) ≡ tab n (λ k. f k (g k))
map_from-tab n f g =
    tab-of n (λ k. f k (g k)) (g 0) (map_from 0 f (tab n g)) (length-map_from f 0 (tab n g) ∙ length-tab n g)
    (λ k l. get_or-map_from f 0 (tab n g) k (g 0) (omega (arith, length-tab n g)) ∙ cc (zero-add k, get_or-tab n g k (g 0) l))

-- the first n of a list, by their places
pub take_places : {A : Type 0} (d : A) (n : ℕ) (l : List A) → n ≤ length l → take n l ≡ tab n (λ k. get_or l k d)
take_places d n l h = ap (take n) (tab-self d l) ∙ take-tab (length l) n (λ k. get_or l k d) h
