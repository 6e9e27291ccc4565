-- The whole records of a part of a run, taken one after another. Assumes nothing.
use Rattle.std.proofs.Common.{◌≡◌, ℕ, suc, ◌+◌, ◌*◌, ◌/◌, ◌<◌, ◌≤◌, Bool, true, false, ◌&&◌, List, [], ◌∷◌, ◌++◌, length, drop, sym, refl, ap, ◌∙◌, mul-zero, mul-one, mul-add, add-one, arith, drop_of_length-le, drop-cons}
use mathlib.Core.Bool.{false≢true}
use mathlib.Core.List.{foldl}
use Rattle.lists.specs.Lists.{when◌then◌else◌, all}
use Rattle.lists.proofs.Bools.{cases, and_left, and_right}
use Rattle.positions.specs.Days.{Day, size, day_at, days_of, in_range}
use Rattle.positions.specs.Keeping.{Kept, Taken, day_kept, taken}
use Rattle.positions.proofs.Days.{days-count, days-get}

-- ---- a loop over them

module _ (n : ℕ) (bytes : List ℕ) (x : Kept) (at d : ℕ) where
  abbrev left : Taken
  left = taken n x at (drop d (days_of n bytes))

  front : d < length bytes / size n → at ≡ size n * d → drop d (days_of n bytes) ≡ day_at n bytes at ∷ drop (d + 1) (days_of n bytes)
  front l e = rw (add-one d, e, drop-cons (days_of n bytes) d [] (omega (arith, days-count n bytes)), days-get n bytes d l)

  pub taken_next : d < length bytes / size n → at ≡ size n * d → in_range (day_at n bytes at) ≡ true
      → left ≡ taken n (day_kept n x (day_at n bytes at)) (at + size n) (drop (d + 1) (days_of n bytes))
  unfolding taken
  taken_next l e ok = rw (front l e, ok)

  pub taken-stop : d < length bytes / size n → at ≡ size n * d → in_range (day_at n bytes at) ≡ false → left ≡ record { kept = x; used = at; answer = 5 }
  unfolding taken
  taken-stop l e bad = rw (front l e, bad)

  pub taken-done : length bytes / size n ≤ d → left ≡ record { kept = x; used = at; answer = 0 }
  unfolding taken
  taken-done h = rw (drop_of_length-le (days_of n bytes) {i = d} (omega (arith, days-count n bytes)))

-- ---- all of them

module _ (n : ℕ) where
  pub taken-all : (x : Kept) (used : ℕ) (days : List Day) → all in_range days ≡ true
      → taken n x used days ≡ record { kept = foldl (day_kept n) x days; used = used + size n * length days; answer = 0 }
  unfolding taken all
  taken-all x used [] e =
      let same : used + size n * 0 ≡ used = omega (arith, mul-zero (size n)) in
      rw same
  taken-all x used (day ∷ days) e =
      let here = and_left (in_range day) (all in_range days) e in
      let next : used + size n * suc (length days) ≡ used + size n + size n * length days
      = omega (arith, mul-add (size n) (length days) 1, mul-one (size n), ap (λ (k : ℕ). size n * k) (sym (add-one (length days)))) in
      rw (here, next) (taken-all (day_kept n x day) (used + size n) days (and_right (in_range day) (all in_range days) e))

  pub taken-bad : (x : Kept) (used : ℕ) (days : List Day) → all in_range days ≡ false → (taken n x used days).answer ≡ 5
  unfolding taken all
  taken-bad x used [] e = absurd (false≢true (sym e))
  taken-bad x used (day ∷ days) e = go (in_range day) (taken-bad (day_kept n x day) (used + size n) days) e
    where
      go : (b : Bool) → (all in_range days ≡ false → (taken n (day_kept n x day) (used + size n) days).answer ≡ 5) → (b && all in_range days) ≡ false
          → (when b then taken n (day_kept n x day) (used + size n) days else record { kept = x; used = used; answer = 5 }).answer ≡ 5
      go true rest e = rest e
      go false rest e = refl

  -- how many bytes are taken where no record is out of range
  pub taken-used : (x : Kept) (used : ℕ) (days : List Day) → (taken n x used days).answer ≡ 0 → (taken n x used days).used ≡ used + size n * length days
  taken-used x used days e =
      cases (all in_range days) _
      (λ t. ap (λ (p : Taken). p.used) (taken-all x used days t))
      (λ f. absurd (omega (arith, e, taken-bad x used days f)))

  -- ---- days behind days

  pub taken_then : (x : Kept) (used : ℕ) (xs ys : List Day) → (taken n x used xs).answer ≡ 0
      → taken n x used (xs ++ ys) ≡ taken n (taken n x used xs).kept (taken n x used xs).used ys
  unfolding taken
  taken_then x used [] ys e = refl
  taken_then x used (day ∷ xs) ys e = go (in_range day) (taken_then (day_kept n x day) (used + size n) xs ys) e
    where
      one : Bool → Taken
      one t = when t then taken n (day_kept n x day) (used + size n) xs else record { kept = x; used = used; answer = 5 }

      go : (t : Bool) → ((taken n (day_kept n x day) (used + size n) xs).answer ≡ 0 → taken n (day_kept n x day) (used + size n) (xs ++ ys)
          ≡ taken n (taken n (day_kept n x day) (used + size n) xs).kept (taken n (day_kept n x day) (used + size n) xs).used ys)
          → (one t).answer ≡ 0
          → (when t then taken n (day_kept n x day) (used + size n) (xs ++ ys) else record { kept = x; used = used; answer = 5 }) ≡ taken n (one t).kept (one t).used ys
      go true h e = h e
      go false h e = absurd (omega arith)

  pub taken-stops : (x : Kept) (used : ℕ) (xs ys : List Day) → ((taken n x used xs).answer ≡ 0 → ⊥) → taken n x used (xs ++ ys) ≡ taken n x used xs
  unfolding taken
  taken-stops x used [] ys e = absurd (e refl)
  taken-stops x used (day ∷ xs) ys e = go (in_range day) (taken-stops (day_kept n x day) (used + size n) xs ys) e
    where
      one : Bool → List Day → Taken
      one t l = when t then taken n (day_kept n x day) (used + size n) l else record { kept = x; used = used; answer = 5 }

      go : (t : Bool) → (((taken n (day_kept n x day) (used + size n) xs).answer ≡ 0 → ⊥) → taken n (day_kept n x day) (used + size n) (xs ++ ys) ≡ taken n (day_kept n x day) (used + size n) xs)
          → ((one t xs).answer ≡ 0 → ⊥) → one t (xs ++ ys) ≡ one t xs
      go true h e = h e
      go false h e = refl

  -- where in the part they begin changes nothing but the bytes used
  pub taken-shift : (x : Kept) (a b : ℕ) (days : List Day)
      → taken n x (a + b) days ≡ record { kept = (taken n x b days).kept; used = a + (taken n x b days).used; answer = (taken n x b days).answer }
  unfolding taken
  taken-shift x a b [] = refl
  taken-shift x a b (day ∷ days) =
      go (in_range day) (ap (λ (k : ℕ). taken n (day_kept n x day) k days) (omega arith) ∙ taken-shift (day_kept n x day) a (b + size n) days)
    where
      behind : Taken → Taken
      behind t = record { kept = t.kept; used = a + t.used; answer = t.answer }

      go : (t : Bool) → taken n (day_kept n x day) (a + b + size n) days ≡ behind (taken n (day_kept n x day) (b + size n) days)
          → (when t then taken n (day_kept n x day) (a + b + size n) days else record { kept = x; used = a + b; answer = 5 })
          ≡ behind (when t then taken n (day_kept n x day) (b + size n) days else record { kept = x; used = b; answer = 5 })
      go true h = h
      go false h = refl
