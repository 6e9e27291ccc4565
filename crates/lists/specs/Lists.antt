-- Sums, counts and parts of lists: the words in which the other definitions are written.
use Rattle.std.specs.Prelude.{Bool, true, false, ◌&&◌, ◌||◌, cond, List, [], ◌∷◌, ◌++◌, map, ℕ, zero, suc, ◌+◌, ◌<◌, min, leb, eqb, get_or, drop}

infixr 1 when◌then◌else◌
abbrev pub when◌then◌else◌ : {A : Type 0} → Bool → A → A → A
when b then x else y = cond b x y

-- low to high, both included
abbrev pub between : ℕ → ℕ → ℕ → Bool
between low high n = leb low n && leb n high

-- 1 where the test passes, 0 where it fails
unfoldable pub one_if : Bool → ℕ
one_if true = 1
one_if false = 0

-- the sum of a list's entries
unfoldable pub sum : List ℕ → ℕ
sum [] = 0
sum (x ∷ xs) = x + sum xs

-- f 0 + f 1 + .. + f (n - 1)
unfoldable pub sum_to : ℕ → (ℕ → ℕ) → ℕ
sum_to zero f = 0
sum_to (suc n) f = sum_to n f + f n

-- how many of the places 0 .. n - 1 pass the test
abbrev pub count_to : ℕ → (ℕ → Bool) → ℕ
count_to n p = sum_to n (λ k. one_if (p k))

-- the list f 0, f 1, .. , f (n - 1)
unfoldable pub tab : {A : Type 0} → ℕ → (ℕ → A) → List A
tab zero f = []
tab (suc n) f = f 0 ∷ tab n (λ k. f (suc k))

-- the places 0, 1, .. , n - 1
abbrev pub places : ℕ → List ℕ
places n = tab n (λ k. k)

-- how many pass the test
unfoldable pub count : {A : Type 0} → (A → Bool) → List A → ℕ
count p [] = 0
count p (x ∷ xs) = one_if (p x) + count p xs

-- whether one passes the test
unfoldable pub any : {A : Type 0} → (A → Bool) → List A → Bool
any p [] = false
any p (x ∷ xs) = p x || any p xs

-- whether all pass the test
unfoldable pub all : {A : Type 0} → (A → Bool) → List A → Bool
all p [] = true
all p (x ∷ xs) = p x && all p xs

-- those that pass the test, in their order
unfoldable pub keep : {A : Type 0} → (A → Bool) → List A → List A
keep p [] = []
keep p (x ∷ xs) = when p x then x ∷ keep p xs else keep p xs

-- the numbers ys, one for each that passes the test, at their places; 0 at the others
unfoldable pub put_back : {A : Type 0} → (A → Bool) → List A → List ℕ → List ℕ
put_back p [] ys = []
put_back p (x ∷ xs) ys = (when p x then get_or ys 0 0 else 0) ∷ put_back p xs (when p x then drop 1 ys else ys)

-- what f gives to those that pass the test, taken as a list in their order, each at its own place; 0 for the others
unfoldable pub among : {A : Type 0} → (A → Bool) → (List A → List ℕ) → List A → List ℕ
among p f l = put_back p l (f (keep p l))

-- the first n that pass the test, changed by f
unfoldable pub change_first : {A : Type 0} → (A → Bool) → (A → A) → ℕ → List A → List A
change_first p f zero l = l
change_first p f (suc n) [] = []
change_first p f (suc n) (x ∷ xs) = elim (p x) [ true ↦ f x ∷ change_first p f n xs | false ↦ x ∷ change_first p f (suc n) xs ]

-- each entry changed by f, which is told its place, counted from i
unfoldable pub map_from : {A : Type 0} → ℕ → (ℕ → A → A) → List A → List A
map_from i f [] = []
map_from i f (x ∷ xs) = f i x ∷ map_from (suc i) f xs

-- the least of a list, and 0 of an empty one
unfoldable pub least : List ℕ → ℕ
least [] = 0
least (x ∷ []) = x
least (x ∷ y ∷ xs) = min x (least (y ∷ xs))

-- for each key below n, the values of the entries that have it, added up
unfoldable pub sum_by_key : {A : Type 0} → ℕ → (A → ℕ) → (A → ℕ) → List A → List ℕ
sum_by_key n key value l = tab n (λ k. sum (map (λ x. when eqb (key x) k then value x else 0) l))

-- P holds of each entry of a list
abbrev pub Each : {A : Type 0} → (A → Type 0) → List A → Type 0
Each P [] = Unit {0}
Each P (x ∷ xs) = P x × Each P xs

-- lists one behind the other
unfoldable pub joined : {A : Type 0} → List (List A) → List A
joined [] = []
joined (l ∷ ls) = l ++ joined ls

-- a string of bytes
abbrev pub Bytes : List ℕ → Type 0
Bytes = Each (λ b. b < 256)
