-- An accepted call passed every test of its list, and a call that passed every test is accepted; a declined call has the number of the first
-- test that holds, which is the least such number where the numbers ascend. Assumes nothing.
use mathlib.Core.Path.{◌≡◌, refl, sym, ◌∙◌}
use mathlib.Core.Bool.{Bool, true, false, ◌&&◌, false≢true}
use mathlib.Core.List.{List, [], ◌∷◌}
use Prim.Native.Nat.{ℕ, ◌≤◌, ◌<◌}
use native.Mathlib.Omega.{arith}
use lib.Dec.{ltb}
use borrow.Author.Tests.{ltb-true, lt-ltb}
use Rattle.lists.specs.Lists.{when◌then◌else◌}
use Rattle.lists.specs.Tests.{Test, first_of, Passed, First}
use Rattle.lists.proofs.Bools.{and_left, and_right}
use Rattle.lists.proofs.Each.{Each, each_more}

-- every number is above 0, which computes
abbrev pub numbered : List Test → Bool
numbered [] = true
numbered (t ∷ ts) = ltb 0 t.0 && numbered ts

passed-one : (n : ℕ) (b : Bool) (ts : List Test) → ltb 0 n ≡ true → (first_of ts ≡ 0 → Passed ts) → (when b then n else first_of ts) ≡ 0 → (b ≡ false) × Passed ts
passed-one n true ts h rest e = absurd (omega (arith, ltb-true 0 n h))
passed-one n false ts h rest e = (refl, rest e)

pub passed : (ts : List Test) → numbered ts ≡ true → first_of ts ≡ 0 → Passed ts
unfolding first_of
passed [] h e = tt
passed (t ∷ ts) h e =
    passed-one t.0 t.1 ts (and_left _ (numbered ts) h) (passed ts (and_right (ltb 0 t.0) _ h)) e

-- and back
pub accepted : (ts : List Test) → Passed ts → first_of ts ≡ 0
unfolding first_of
accepted [] p = refl
accepted (t ∷ ts) p = rw p.0 (accepted ts p.1)

-- ---- a declined call

first_one : (t : Test) (ts : List Test) (b : Bool) → t.1 ≡ b → ((first_of ts ≡ 0 → ⊥) → First (first_of ts) ts)
    → ((when b then t.0 else first_of ts) ≡ 0 → ⊥) → First (when b then t.0 else first_of ts) (t ∷ ts)
first_one t ts true e rest h = record { before = []; test = t; after = ts; parts = refl; earlier = tt; holds = e; number = refl }
first_one t ts false e rest h =
    let r = rest h in
    record {
      before = t ∷ r.before;
      test = r.test;
      after = r.after;
      parts = rw (← r.parts);
      earlier = (e, r.earlier);
      holds = r.holds;
      number = r.number;
    }

pub first_holds : (ts : List Test) → (first_of ts ≡ 0 → ⊥) → First (first_of ts) ts
unfolding first_of
first_holds [] h = absurd (h refl)
first_holds (t ∷ ts) h = first_one t ts t.1 refl (first_holds ts) h

-- every number is above the one before it, the first above n, which computes
abbrev pub ascending : ℕ → List Test → Bool
ascending n [] = true
ascending n (t ∷ ts) = ltb n t.0 && ascending t.0 ts

pub ascending-above : (n : ℕ) (ts : List Test) → ascending n ts ≡ true → Each (λ t. n < t.0) ts
ascending-above n [] h = tt
ascending-above n (t ∷ ts) h =
    let here = ltb-true n t.0 (and_left _ (ascending t.0 ts) h) in
    (here, each_more _ _ (λ u l. omega arith) ts (ascending-above t.0 ts (and_right (ltb n t.0) _ h)))

pub ascending-numbered : (n : ℕ) (ts : List Test) → ascending n ts ≡ true → numbered ts ≡ true
ascending-numbered n [] h = refl
ascending-numbered n (t ∷ ts) h =
    let here = ltb-true n t.0 (and_left _ (ascending t.0 ts) h) in
    rw (lt-ltb 0 t.0 (omega arith)) (ascending-numbered t.0 ts (and_right (ltb n t.0) _ h))

-- the first number that applies is then the least
pub first-least : (n : ℕ) (ts : List Test) → ascending n ts ≡ true → Each (λ t. t.1 ≡ true → first_of ts ≤ t.0) ts
unfolding first_of
first-least n [] h = tt
first-least n (t ∷ ts) h =
    let rest = and_right (ltb n t.0) _ h in
    go t.1 refl (ascending-above t.0 ts rest) (first-least t.0 ts rest)
  where
    go : (b : Bool) → t.1 ≡ b → Each (λ u. t.0 < u.0) ts → Each (λ u. u.1 ≡ true → first_of ts ≤ u.0) ts
        → Each (λ u. u.1 ≡ true → (when b then t.0 else first_of ts) ≤ u.0) (t ∷ ts)
    go true e above least = (λ x. omega arith, each_more _ _ (λ u l x. omega arith) ts above)
    go false e above least = (λ x. absurd (false≢true (sym e ∙ x)), least)

-- ---- two lists of tests

-- where the first tests agree, and the rest give the same number wherever the first one fails, the same number is the first to apply
pub first-same : (n : ℕ) (ts us : List Test) {t u : Bool} → t ≡ u → (u ≡ false → first_of ts ≡ first_of us) → first_of ((n, t) ∷ ts) ≡ first_of ((n, u) ∷ us)
unfolding first_of
first-same n ts us {u = u} first rest = rw first (go u rest)
  where
    go : (v : Bool) → (v ≡ false → first_of ts ≡ first_of us) → (when v then n else first_of ts) ≡ (when v then n else first_of us)
    go true rest = refl
    go false rest = rest refl
