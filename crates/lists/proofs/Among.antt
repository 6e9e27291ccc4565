-- Laws of `among`: the place at which each of those that pass a test stands, sums over them, and what is put back there. Assumes nothing.
use mathlib.Core.Path.{◌≡◌, refl, sym, ap, ◌∙◌}
use mathlib.Core.Bool.{Bool, true, false}
use mathlib.Core.List.{List, [], ◌∷◌, ◌++◌, map}
use Prim.Native.Nat.{ℕ, zero, suc, ◌+◌, ◌<◌}
use native.Mathlib.Omega.{arith}
use lib.Dec.{ltb}
use lib.ListN.{length, get_or, drop, replicate}
use lib.Seq.{ext_get_or}
use borrow.Author.Tests.{lt-ltb, le-ltb}
use Rattle.lists.specs.Lists.{when◌then◌else◌, sum_to, tab, places, keep, put_back, among}
use Rattle.lists.proofs.Bools.{ltb-same}
use Rattle.lists.proofs.Sums.{sum_to-front}
use Rattle.lists.proofs.Keep.{drop-one}
use Rattle.lists.proofs.Each.{Each, each-tab}
use Rattle.lists.proofs.Places.{length-tab, tab-self, tab-ext, tab-same, tab-append}

abbrev pub place_if : Bool → (ℕ → ℕ) → ℕ → ℕ
place_if true rest zero = 0
place_if true rest (suc k) = suc (rest k)
place_if false rest k = suc (rest k)

ltb-suc : (a b : ℕ) → ltb (suc a) (suc b) ≡ ltb a b
ltb-suc a b = ltb-same (suc a) (suc b) a b (λ h. omega arith) (λ h. omega arith)

module _ {A : Type 0} (p : A → Bool) where
  -- where the k-th of those that pass the test stands, counted from 0
  abbrev pub place : List A → ℕ → ℕ
  place [] k = k
  place (x ∷ xs) k = place_if (p x) (place xs) k

  -- whether what stands at place i passes the test
  abbrev pub passes : List A → ℕ → Bool
  passes l i = get_or (map p l) i false

  -- the places stand in the order of those that pass
  pub place-order : (l : List A) (j k : ℕ) → ltb (place l j) (place l k) ≡ ltb j k
  place-order [] j k = refl
  place-order (x ∷ xs) j k = go (p x) j k (place-order xs)
    where
      go : (b : Bool) (j k : ℕ) → ((j k : ℕ) → ltb (place xs j) (place xs k) ≡ ltb j k) → ltb (place_if b (place xs) j) (place_if b (place xs) k) ≡ ltb j k
      go true zero zero rest = refl
      go true zero (suc k) rest = ltb-same 0 (suc (place xs k)) 0 (suc k) (λ h. omega arith) (λ h. omega arith)
      go true (suc j) zero rest = ltb-same (suc (place xs j)) 0 (suc j) 0 (λ h. omega arith) (λ h. omega arith)
      go true (suc j) (suc k) rest = ltb-suc (place xs j) (place xs k) ∙ rest j k ∙ sym (ltb-suc j k)
      go false j k rest = ltb-suc (place xs j) (place xs k) ∙ rest j k

  -- each place is that of one that passes, or what stands there does not pass
  pub place-cases : (P : ℕ → Type 0) (l : List A) → ((k : ℕ) → k < length (keep p l) → P (place l k)) → ((i : ℕ) → passes l i ≡ false → P i) → (i : ℕ) → P i
  unfolding keep
  place-cases P [] on off i = off i refl
  place-cases P (x ∷ xs) on off i = go (p x) i on off (place-cases (λ i. P (suc i)) xs)
    where
      go : (b : Bool) (i : ℕ)
          → ((k : ℕ) → k < length (when b then x ∷ keep p xs else keep p xs) → P (place_if b (place xs) k))
          → ((i : ℕ) → get_or (b ∷ map p xs) i false ≡ false → P i)
          → (((k : ℕ) → k < length (keep p xs) → P (suc (place xs k))) → ((i : ℕ) → passes xs i ≡ false → P (suc i)) → (i : ℕ) → P (suc i))
          → P i
      go true zero on off rest = on 0 (omega arith)
      go true (suc i) on off rest = rest (λ k l. on (suc k) (omega arith)) (λ i. off (suc i)) i
      go false zero on off rest = off 0 refl
      go false (suc i) on off rest = rest on (λ i. off (suc i)) i

  -- what stands at the place of one that passes: g there is f of the k-th that passes, where g is f on all that pass
  pub at_place : {B : Type 0} (d : B) (f g : A → B) → ((x : A) → p x ≡ true → g x ≡ f x)
      → (l : List A) (k : ℕ) → get_or (map g l) (place l k) d ≡ get_or (map f (keep p l)) k d
  unfolding keep
  at_place d f g h [] k = refl
  at_place d f g h (x ∷ xs) k = go (p x) k refl (at_place d f g h xs)
    where
      go : (b : Bool) (k : ℕ) → p x ≡ b → ((k : ℕ) → get_or (map g xs) (place xs k) d ≡ get_or (map f (keep p xs)) k d)
          → get_or (map g (x ∷ xs)) (place_if b (place xs) k) d ≡ get_or (map f (when b then x ∷ keep p xs else keep p xs)) k d
      go true zero e rest = h x e
      go true (suc k) e rest = rest k
      go false k e rest = rest k

  -- what stands at another place: g there is 0, where g is 0 on all that do not pass
  pub off-place : (g : A → ℕ) → ((x : A) → p x ≡ false → g x ≡ 0) → (l : List A) (i : ℕ) → passes l i ≡ false → get_or (map g l) i 0 ≡ 0
  off-place g h [] i e = refl
  off-place g h (x ∷ xs) zero e = h x e
  off-place g h (x ∷ xs) (suc i) e = off-place g h xs i e

  -- a sum over the places in which those that do not pass give 0
  pub sum_to-among : (f : ℕ → ℕ) (l : List A) → ((i : ℕ) → passes l i ≡ false → f i ≡ 0) → sum_to (length l) f ≡ sum_to (length (keep p l)) (λ k. f (place l k))
  unfolding keep sum_to
  sum_to-among f [] h = refl
  sum_to-among f (x ∷ xs) h = go (p x) h (sum_to-among (λ i. f (suc i)) xs (λ i. h (suc i)))
    where
      go : (b : Bool) → ((i : ℕ) → get_or (b ∷ map p xs) i false ≡ false → f i ≡ 0)
          → sum_to (length xs) (λ i. f (suc i)) ≡ sum_to (length (keep p xs)) (λ k. f (suc (place xs k)))
          → sum_to (suc (length xs)) f ≡ sum_to (length (when b then x ∷ keep p xs else keep p xs)) (λ k. f (place_if b (place xs) k))
      go true h rest = omega (arith, rest, sum_to-front (length xs) f, sum_to-front (length (keep p xs)) (λ k. f (place_if true (place xs) k)))
      go false h rest = omega (arith, rest, sum_to-front (length xs) f, h 0 refl)

  -- ---- what is put back

  pub put_back-length : (l : List A) (ys : List ℕ) → length (put_back p l ys) ≡ length l
  unfolding put_back
  put_back-length [] ys = refl
  put_back-length (x ∷ xs) ys = ap suc (put_back-length xs (when p x then drop 1 ys else ys))

  pub put_back-on : (l : List A) (ys : List ℕ) (k : ℕ) → k < length (keep p l) → get_or (put_back p l ys) (place l k) 0 ≡ get_or ys k 0
  unfolding keep put_back
  put_back-on [] ys k h = absurd (omega arith)
  put_back-on (x ∷ xs) ys k h = go (p x) k h (put_back-on xs)
    where
      go : (b : Bool) (k : ℕ) → k < length (when b then x ∷ keep p xs else keep p xs)
          → ((ys : List ℕ) (k : ℕ) → k < length (keep p xs) → get_or (put_back p xs ys) (place xs k) 0 ≡ get_or ys k 0)
          → get_or ((when b then get_or ys 0 0 else 0) ∷ put_back p xs (when b then drop 1 ys else ys)) (place_if b (place xs) k) 0 ≡ get_or ys k 0
      go true zero h rest = refl
      go true (suc k) h rest = rest (drop 1 ys) k (omega arith) ∙ drop-one ys k
      go false k h rest = rest ys k h

  pub put_back-off : (l : List A) (ys : List ℕ) (i : ℕ) → passes l i ≡ false → get_or (put_back p l ys) i 0 ≡ 0
  unfolding put_back
  put_back-off [] ys i e = refl
  put_back-off (x ∷ xs) ys zero e = rw e
  put_back-off (x ∷ xs) ys (suc i) e = put_back-off xs (when p x then drop 1 ys else ys) i e

  -- ---- among

  module _ (f : List A → List ℕ) (l : List A) where
    pub among-length : length (among p f l) ≡ length l
    unfolding among
    among-length = put_back-length l (f (keep p l))

    pub among-on : (k : ℕ) → k < length (keep p l) → get_or (among p f l) (place l k) 0 ≡ get_or (f (keep p l)) k 0
    unfolding among
    among-on = put_back-on l (f (keep p l))

    pub among-off : (i : ℕ) → passes l i ≡ false → get_or (among p f l) i 0 ≡ 0
    unfolding among
    among-off = put_back-off l (f (keep p l))

    -- a list that has what f gives at the places of those that pass, and 0 at the others
    pub among-is : (xs : List ℕ) → length xs ≡ length l
        → ((k : ℕ) → k < length (keep p l) → get_or xs (place l k) 0 ≡ get_or (f (keep p l)) k 0)
        → ((i : ℕ) → passes l i ≡ false → get_or xs i 0 ≡ 0)
        → xs ≡ among p f l
    among-is xs long on off =
        ext_get_or 0 xs (among p f l) (long ∙ sym among-length)
        (λ i m. place-cases (λ i. get_or xs i 0 ≡ get_or (among p f l) i 0) l
        (λ k h. on k h ∙ sym (among-on k h))
        (λ i e. off i e ∙ sym (among-off i e))
        i)

  -- where those that pass stand in front of the others, as in an array whose end is not used
  keep-front : (xs ys : List A) → Each (λ x. p x ≡ true) xs → Each (λ x. p x ≡ false) ys → keep p (xs ++ ys) ≡ xs
  unfolding keep
  keep-front [] [] on off = refl
  keep-front [] (y ∷ ys) on off = rw off.0 (keep-front [] ys on off.1)
  keep-front (x ∷ xs) ys on off = rw on.0 (ap (λ l. x ∷ l) (keep-front xs ys on.1 off))

  put_back-front : (xs ys : List A) (zs : List ℕ) → Each (λ x. p x ≡ true) xs → Each (λ x. p x ≡ false) ys → length zs ≡ length xs
      → put_back p (xs ++ ys) zs ≡ zs ++ replicate (length ys) 0
  unfolding put_back
  put_back-front [] [] [] on off e = refl
  put_back-front [] [] (z ∷ zs) on off e = absurd (omega arith)
  put_back-front [] (y ∷ ys) [] on off e = rw off.0 (ap {B = List ℕ} (λ l. 0 ∷ l) (put_back-front [] ys [] on off.1 refl))
  put_back-front [] (y ∷ ys) (z ∷ zs) on off e = absurd (omega arith)
  put_back-front (x ∷ xs) ys [] on off e = absurd (omega arith)
  put_back-front (x ∷ xs) ys (z ∷ zs) on off e = rw on.0 (ap {B = List ℕ} (λ l. z ∷ l) (put_back-front xs ys zs on.1 off (omega arith)))

  pub among-front : (f : List A → List ℕ) (xs ys : List A) → Each (λ x. p x ≡ true) xs → Each (λ x. p x ≡ false) ys → length (f xs) ≡ length xs
      → among p f (xs ++ ys) ≡ f xs ++ replicate (length ys) 0
  unfolding among
  among-front f xs ys on off long = rw (keep-front xs ys on off) (put_back-front xs ys (f xs) on off long)

-- the first n of n + m places
pub among_first : (n m : ℕ) (f : List ℕ → List ℕ) → length (f (places n)) ≡ n → among (λ i. ltb i n) f (places (n + m)) ≡ f (places n) ++ replicate m 0
among_first n m f long =
    let rest : List ℕ = tab m (λ k. n + k) in
    ap (among (λ i. ltb i n) f) (tab-append n m (λ k. k))
    ∙ among-front (λ i. ltb i n) f (places n) rest
    (each-tab (λ i. ltb i n ≡ true) n (λ k. k) (λ k l. lt-ltb k n l))
    (each-tab (λ i. ltb i n ≡ false) m (λ k. n + k) (λ k l. le-ltb (n + k) n (omega arith)))
    (long ∙ sym (length-tab n (λ k. k)))
    ∙ ap (λ (k : ℕ). f (places n) ++ replicate k 0) (length-tab m (λ k. n + k))

-- a list and m zeros after it, as the numbers of the first of its places and 0 for the others
pub padded : (xs : List ℕ) (m : ℕ) → tab (length xs + m) (λ i. when ltb i (length xs) then get_or xs i 0 else 0) ≡ xs ++ replicate m 0
padded xs m =
    let n = length xs in
    let own : ℕ → ℕ = λ i. when ltb i n then get_or xs i 0 else 0 in
    tab-append n m own
    ∙ cc (
      tab-ext n own (λ i. get_or xs i 0) (λ i l. rw (lt-ltb i n l)) ∙ sym (tab-self 0 xs),
      tab-ext m (λ k. own (n + k)) (λ k. 0) (λ k l. rw (le-ltb (n + k) n (omega arith))) ∙ tab-same m 0,
    )
