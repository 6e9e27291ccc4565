-- The records of a run and their days. Assumes nothing.
use Rattle.std.proofs.Common.{◌≡◌, ℕ, ◌+◌, ◌*◌, ◌/◌, ◌<◌, ◌≤◌, Bool, true, ◌&&◌, leb, List, [], ◌∷◌, map, length, get_or, refl, sym, ap, ◌∙◌, mul_comm, le-div_iff_mul-le, mul-one, mul-add, arith, leb-true}
use Rattle.std.specs.List.{list_all, range_with_len}
use Rattle.std.proofs.lemmas.List.FromFn.{fill_by_all}
use Rattle.lists.specs.Lists.{all, Each}
use Rattle.lists.proofs.Counts.{all-get, each_all}
use Rattle.lists.proofs.Each.{each_more, each-tab}
use Rattle.lists.proofs.Places.{length-tab, get_or-tab}
use Rattle.machine.specs.Wire.{number}
use Rattle.positions.specs.Days.{Day, most_position, size, day_at, days_of, in_range}

-- ---- positions within the limit

abbrev pub ok : ℕ → Bool
ok p = leb p most_position

module _ (n : ℕ) (bytes : List ℕ) (at : ℕ) where
  pub day-length : length (day_at n bytes at) ≡ n
  unfolding day_at
  day-length = length-tab n (λ m. number (at + 4 * m) 4 bytes)

  pub day-get : (m : ℕ) → m < n → get_or (day_at n bytes at) m 0 ≡ number (at + 4 * m) 4 bytes
  unfolding day_at
  day-get m l = get_or-tab n (λ j. number (at + 4 * j) 4 bytes) m 0 l

  -- the positions in their order
  day-is : day_at n bytes at ≡ map (λ m. number (at + 4 * m) 4 bytes) (range_with_len 0 n)
  day-is = fill_by_all (λ m. number (at + 4 * m) 4 bytes) (day_at n bytes at) n 0 day-length day-get

all-map : (f : ℕ → ℕ) (l : List ℕ) → all ok (map f l) ≡ list_all (λ m. ok (f m)) l
unfolding all
all-map f [] = refl
all-map f (x ∷ l) = ap (λ (b : Bool). ok (f x) && b) (all-map f l)

pub range-is : (n : ℕ) (bytes : List ℕ) (at : ℕ) → list_all (λ m. ok (number (at + 4 * m) 4 bytes)) (range_with_len 0 n) ≡ in_range (day_at n bytes at)
unfolding in_range
range-is n bytes at = sym (ap (all ok) (day-is n bytes at) ∙ all-map (λ m. number (at + 4 * m) 4 bytes) (range_with_len 0 n))

-- no position is above its limit
abbrev pub Fits : Day → Type 0
Fits day = (m : ℕ) → get_or day m 0 ≤ most_position

pub range-fits : (day : Day) → in_range day ≡ true → Fits day
unfolding in_range
range-fits day e m = leb-true (get_or day m 0) most_position (all-get ok day 0 refl e m)

pub all_fit : (days : List Day) → all in_range days ≡ true → Each Fits days
all_fit days e = each_more (λ d. in_range d ≡ true) Fits range-fits days (each_all in_range days e)

-- ---- the whole records

module _ (n : ℕ) (bytes : List ℕ) where
  pub days-count : length (days_of n bytes) ≡ length bytes / size n
  unfolding days_of
  days-count = length-tab (length bytes / size n) (λ d. day_at n bytes (size n * d))

  pub days-get : (d : ℕ) → d < length bytes / size n → get_or (days_of n bytes) d [] ≡ day_at n bytes (size n * d)
  unfolding days_of
  days-get d l = get_or-tab (length bytes / size n) (λ k. day_at n bytes (size n * k)) d [] l

  pub days-long : Each (λ d. length d ≡ n) (days_of n bytes)
  unfolding days_of
  days-long = each-tab (λ d. length d ≡ n) (length bytes / size n) (λ d. day_at n bytes (size n * d)) (λ d l. day-length n bytes (size n * d))

  pub next-at : (d : ℕ) → size n * (d + 1) ≡ size n * d + size n
  next-at d = mul-add (size n) d 1 ∙ ap (λ (k : ℕ). size n * d + k) (mul-one (size n))

  -- a whole record lies in the run
  pub record-fits : (d : ℕ) → 1 ≤ n → d < length bytes / size n → size n * d + size n ≤ length bytes
  record-fits d h l =
      let whole : (d + 1) * size n ≤ length bytes = (le-div_iff_mul-le {k = size n} {x = d + 1} {y = length bytes} (omega arith)).0 (omega arith) in
      let same : (d + 1) * size n ≡ size n * d + size n = mul_comm (d + 1) (size n) ∙ next-at d in
      omega arith
