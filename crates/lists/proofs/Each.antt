-- "P holds of each entry of a list", and how the operations on lists keep it; a field of the entries that a change leaves alone. Assumes nothing.
use mathlib.Core.Path.{◌≡◌, refl, sym, ap, ◌∙◌}
use mathlib.Core.Bool.{Bool, true, false, false≢true}
use mathlib.Core.List.{List, [], ◌∷◌, ◌++◌, map}
use Prim.Native.Nat.{ℕ, zero, suc, ◌+◌, ◌<◌}
use native.Mathlib.Omega.{arith}
use lib.ListN.{length, get_or, set, take, drop, replicate}
use Rattle.lists.specs.Lists.{when◌then◌else◌, tab, keep, change_first, map_from}
pub use Rattle.lists.specs.Lists.{Each}

module _ {A : Type 0} (P : A → Type 0) where
  pub each_append : (xs ys : List A) → Each P xs → Each P ys → Each P (xs ++ ys)
  each_append [] ys h g = g
  each_append (x ∷ xs) ys h g = (h.0, each_append xs ys h.1 g)

  pub each_take : (n : ℕ) (xs : List A) → Each P xs → Each P (take n xs)
  each_take zero xs h = tt
  each_take (suc n) [] h = tt
  each_take (suc n) (x ∷ xs) h = (h.0, each_take n xs h.1)

  pub each-drop : (n : ℕ) (xs : List A) → Each P xs → Each P (drop n xs)
  each-drop zero xs h = h
  each-drop (suc n) [] h = tt
  each-drop (suc n) (x ∷ xs) h = each-drop n xs h.1

  pub each-replicate : (n : ℕ) (x : A) → P x → Each P (replicate n x)
  each-replicate zero x h = tt
  each-replicate (suc n) x h = (h, each-replicate n x h)

  pub each_set : (xs : List A) (i : ℕ) (v : A) → P v → Each P xs → Each P (set xs i v)
  each_set [] i v p h = tt
  each_set (x ∷ xs) zero v p h = (p, h.1)
  each_set (x ∷ xs) (suc i) v p h = (h.0, each_set xs i v p h.1)

  pub each-get : (xs : List A) (i : ℕ) (d : A) → P d → Each P xs → P (get_or xs i d)
  each-get [] i d p h = p
  each-get (x ∷ xs) zero d p h = h.0
  each-get (x ∷ xs) (suc i) d p h = each-get xs i d p h.1

  pub each_at : (xs : List A) (i : ℕ) (d : A) → i < length xs → Each P xs → P (get_or xs i d)
  each_at [] i d l h = absurd (omega arith)
  each_at (x ∷ xs) zero d l h = h.0
  each_at (x ∷ xs) (suc i) d l h = each_at xs i d (omega arith) h.1

  -- what holds at a place after a store
  pub set_cases : (xs : List A) (i : ℕ) (v d : A) (k : ℕ) → (k ≡ i → P v) → P (get_or xs k d) → P (get_or (set xs i v) k d)
  set_cases [] i v d k new old = old
  set_cases (x ∷ xs) zero v d zero new old = new refl
  set_cases (x ∷ xs) zero v d (suc k) new old = old
  set_cases (x ∷ xs) (suc i) v d zero new old = old
  set_cases (x ∷ xs) (suc i) v d (suc k) new old = set_cases xs i v d k (λ e. new (ap suc e)) old

  -- and back: what holds at each place
  pub each_of : (xs : List A) (d : A) → ((k : ℕ) → k < length xs → P (get_or xs k d)) → Each P xs
  each_of [] d h = tt
  each_of (x ∷ xs) d h = (h 0 (omega arith), each_of xs d (λ k l. h (suc k) (omega arith)))

  -- a part of the entries changed
  pub each-change_first : (p : A → Bool) (f : A → A) → ((x : A) → p x ≡ true → P x → P (f x))
      → (n : ℕ) (xs : List A) → Each P xs → Each P (change_first p f n xs)
  unfolding change_first
  each-change_first p f keeps zero xs h = h
  each-change_first p f keeps (suc n) [] h = tt
  each-change_first p f keeps (suc n) (x ∷ xs) h =
      go (p x) refl (each-change_first p f keeps n xs h.1) (each-change_first p f keeps (suc n) xs h.1)
    where
      go : (b : Bool) → p x ≡ b → Each P (change_first p f n xs) → Each P (change_first p f (suc n) xs)
          → Each P (elim b [ true ↦ f x ∷ change_first p f n xs | false ↦ x ∷ change_first p f (suc n) xs ])
      go true e a b = (keeps x e h.0, a)
      go false e a b = (h.0, b)

-- every entry changed, from one claim to another
pub each_map : {A B : Type 0} (P : A → Type 0) (Q : B → Type 0) (f : A → B) → ((x : A) → P x → Q (f x)) → (xs : List A) → Each P xs → Each Q (map f xs)
each_map P Q f keeps [] h = tt
each_map P Q f keeps (x ∷ xs) h = (keeps x h.0, each_map P Q f keeps xs h.1)

-- a claim about the changed entries is one about the entries
pub each-of-map : {A B : Type 0} (Q : B → Type 0) (f : A → B) (xs : List A) → Each Q (map f xs) → Each (λ x. Q (f x)) xs
each-of-map Q f [] h = tt
each-of-map Q f (x ∷ xs) h = (h.0, each-of-map Q f xs h.1)

pub each-map_from : {A : Type 0} (P Q : A → Type 0) (f : ℕ → A → A) → ((i : ℕ) (x : A) → P x → Q (f i x))
    → (i : ℕ) (xs : List A) → Each P xs → Each Q (map_from i f xs)
unfolding map_from
each-map_from P Q f keeps i [] h = tt
each-map_from P Q f keeps i (x ∷ xs) h = (keeps i x h.0, each-map_from P Q f keeps (suc i) xs h.1)

pub each_more : {A : Type 0} (P Q : A → Type 0) → ((x : A) → P x → Q x) → (xs : List A) → Each P xs → Each Q xs
each_more P Q more [] h = tt
each_more P Q more (x ∷ xs) h = (more x h.0, each_more P Q more xs h.1)

pub each_both : {A : Type 0} (P Q : A → Type 0) (xs : List A) → Each P xs → Each Q xs → Each (λ x. P x × Q x) xs
each_both P Q [] h g = tt
each_both P Q (x ∷ xs) h g = ((h.0, g.0), each_both P Q xs h.1 g.1)

pub each-always : {A : Type 0} (P : A → Type 0) → ((x : A) → P x) → (xs : List A) → Each P xs
each-always P h [] = tt
each-always P h (x ∷ xs) = (h x, each-always P h xs)

-- a field g of the entries that the change leaves alone
module _ {A B : Type 0} (g : A → B) where
  pub same_map : (f : A → A) → ((x : A) → g (f x) ≡ g x) → (xs : List A) → map g (map f xs) ≡ map g xs
  same_map f same [] = refl
  same_map f same (x ∷ xs) = cc (same x, same_map f same xs)

  pub same-map_from : (f : ℕ → A → A) → ((i : ℕ) (x : A) → g (f i x) ≡ g x) → (i : ℕ) (xs : List A) → map g (map_from i f xs) ≡ map g xs
  unfolding map_from
  same-map_from f same i [] = refl
  same-map_from f same i (x ∷ xs) = cc (same i x, same-map_from f same (suc i) xs)

  pub same-change_first : (p : A → Bool) (f : A → A) → ((x : A) → g (f x) ≡ g x) → (n : ℕ) (xs : List A) → map g (change_first p f n xs) ≡ map g xs
  unfolding change_first
  same-change_first p f same zero xs = refl
  same-change_first p f same (suc n) [] = refl
  same-change_first p f same (suc n) (x ∷ xs) =
      go (p x) (same-change_first p f same n xs) (same-change_first p f same (suc n) xs)
    where
      go : (b : Bool) → map g (change_first p f n xs) ≡ map g xs → map g (change_first p f (suc n) xs) ≡ map g xs
          → map g (elim b [ true ↦ f x ∷ change_first p f n xs | false ↦ x ∷ change_first p f (suc n) xs ]) ≡ g x ∷ map g xs
      go true a b = cc (same x)
      go false a b = cc

  pub length-map : (xs : List A) → length (map g xs) ≡ length xs
  length-map [] = refl
  length-map (x ∷ xs) = ap suc (length-map xs)

  pub map-append : (xs ys : List A) → map g (xs ++ ys) ≡ map g xs ++ map g ys
  map-append [] ys = refl
  map-append (x ∷ xs) ys = cc (map-append xs ys)

  pub map-replicate : (n : ℕ) (x : A) → map g (replicate n x) ≡ replicate n (g x)
  map-replicate zero x = refl
  map-replicate (suc n) x = cc (map-replicate n x)

  pub map-set : (xs : List A) (i : ℕ) (v : A) → map g (set xs i v) ≡ set (map g xs) i (g v)
  map-set [] i v = refl
  map-set (x ∷ xs) zero v = refl
  map-set (x ∷ xs) (suc i) v = cc (map-set xs i v)

  -- every entry changed by f, seen by g: what is seen changes by h
  pub map-change : (f : A → A) (h : B → B) → ((x : A) → g (f x) ≡ h (g x)) → (xs : List A) → map g (map f xs) ≡ map h (map g xs)
  map-change f h same [] = refl
  map-change f h same (x ∷ xs) = cc (same x, map-change f h same xs)

  -- what f reads of the entries, k reads of what is seen of them
  pub map-seen : {C : Type 0} (f : A → C) (k : B → C) (xs : List A) → Each (λ x. f x ≡ k (g x)) xs → map f xs ≡ map k (map g xs)
  map-seen f k [] same = refl
  map-seen f k (x ∷ xs) same = cc (same.0, map-seen f k xs same.1)

pub length-map_from : {A : Type 0} (f : ℕ → A → A) (i : ℕ) (xs : List A) → length (map_from i f xs) ≡ length xs
unfolding map_from
length-map_from f i [] = refl
length-map_from f i (x ∷ xs) = ap suc (length-map_from f (suc i) xs)

-- ---- what stands at a place from which a list goes on

pub drop-step : {A : Type 0} (l : List A) (i : ℕ) (x d : A) (xs : List A) → drop i l ≡ x ∷ xs
    → (i < length l) × (get_or l i d ≡ x) × (drop (suc i) l ≡ xs)
drop-step [] zero x d xs e = absurd (omega (arith, ap length e))
drop-step [] (suc i) x d xs e = absurd (omega (arith, ap length e))
drop-step (y ∷ l) zero x d xs e = (omega arith, cc, cc)
drop-step (y ∷ l) (suc i) x d xs e = let r = drop-step l i x d xs e in (omega (arith, r.0), r.1, r.2)

-- every entry changed, where the change at a place is known of the entry there
pub each-map_from-at : {A : Type 0} (P Q : A → Type 0) (f : ℕ → A → A) (d : A) (all : List A)
    → ((i : ℕ) → i < length all → P (get_or all i d) → Q (f i (get_or all i d)))
    → (i : ℕ) (xs : List A) → drop i all ≡ xs → Each P xs → Each Q (map_from i f xs)
unfolding map_from
each-map_from-at P Q f d all keeps i [] e h = tt
each-map_from-at P Q f d all keeps i (x ∷ xs) e h =
    let r = drop-step all i x d xs e in
    (rw r.1 at (keeps i r.0 (rw r.1 h.0)), each-map_from-at P Q f d all keeps (suc i) xs r.2 h.1)

-- those kept pass the test
pub each_keep : {A : Type 0} (p : A → Bool) (xs : List A) → Each (λ x. p x ≡ true) (keep p xs)
unfolding keep
each_keep p [] = tt
each_keep p (x ∷ xs) = go (p x) refl (each_keep p xs)
  where
    go : (b : Bool) → p x ≡ b → Each (λ y. p y ≡ true) (keep p xs) → Each (λ y. p y ≡ true) (when b then x ∷ keep p xs else keep p xs)
    go true e h = (e, h)
    go false e h = h

-- what holds of each that is kept holds at each place that passes the test
pub each-kept-at : {A : Type 0} (P : A → Type 0) (p : A → Bool) (xs : List A) (i : ℕ) (d : A) → Each P (keep p xs) → i < length xs
    → p (get_or xs i d) ≡ true → P (get_or xs i d)
unfolding keep
each-kept-at P p [] i d h l e = absurd (omega arith)
each-kept-at P p (x ∷ xs) i d h l e = go (p x) refl i l e h (λ k g m q. each-kept-at P p xs k d g m q)
  where
    go : (b : Bool) → p x ≡ b → (i : ℕ) → i < length (x ∷ xs) → p (get_or (x ∷ xs) i d) ≡ true → Each P (when b then x ∷ keep p xs else keep p xs)
        → ((k : ℕ) → Each P (keep p xs) → k < length xs → p (get_or xs k d) ≡ true → P (get_or xs k d)) → P (get_or (x ∷ xs) i d)
    go true q zero l e h rest = h.0
    go true q (suc i) l e h rest = rest i h.1 (omega arith) e
    go false q zero l e h rest = absurd (false≢true (sym q ∙ e))
    go false q (suc i) l e h rest = rest i h (omega arith) e

-- one of the entries changed by its place, read at a place
pub get_or-map_from : {A : Type 0} (f : ℕ → A → A) (j : ℕ) (xs : List A) (i : ℕ) (d : A) → i < length xs → get_or (map_from j f xs) i d ≡ f (j + i) (get_or xs i d)
unfolding map_from
get_or-map_from f j [] i d l = absurd (omega arith)
get_or-map_from f j (x ∷ xs) zero d l = ap (λ (k : ℕ). f k x) (omega arith)
get_or-map_from f j (x ∷ xs) (suc i) d l = get_or-map_from f (suc j) xs i d (omega arith) ∙ ap (λ (k : ℕ). f k (get_or xs i d)) (omega arith)

-- what holds of each entry holds of those kept
pub each-kept : {A : Type 0} (P : A → Type 0) (p : A → Bool) (xs : List A) → Each P xs → Each P (keep p xs)
unfolding keep
each-kept P p [] h = tt
each-kept P p (x ∷ xs) h = go (p x) (each-kept P p xs h.1)
  where
    go : (b : Bool) → Each P (keep p xs) → Each P (when b then x ∷ keep p xs else keep p xs)
    go true r = (h.0, r)
    go false r = r

-- a list that is given by its places
pub each-tab : {A : Type 0} (P : A → Type 0) (n : ℕ) (f : ℕ → A) → ((k : ℕ) → k < n → P (f k)) → Each P (tab n f)
unfolding tab
each-tab P zero f h = tt
each-tab P (suc n) f h = (h 0 (omega arith), each-tab P n (λ k. f (suc k)) (λ k l. h (suc k) (omega arith)))

-- what holds of each of the values of a function
pub each-unmap : {A B : Type 0} (P : B → Type 0) (f : A → B) (xs : List A) → Each P (map f xs) → Each (λ x. P (f x)) xs
each-unmap P f [] h = tt
each-unmap P f (x ∷ xs) h = (h.0, each-unmap P f xs h.1)

-- functions that agree on each entry
pub map-ext : {A B : Type 0} (f g : A → B) (xs : List A) → Each (λ x. f x ≡ g x) xs → map f xs ≡ map g xs
map-ext f g [] h = refl
map-ext f g (x ∷ xs) h = rw (h.0, map-ext f g xs h.1)
