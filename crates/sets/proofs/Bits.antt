-- How the members of a set go with the machine's counts of its bits: ones, trailing zeros, or with a bit, and with the number before it.
-- Assumes nothing.
use mathlib.Core.Bool.{false}
use mathlib.Core.Path.{◌≡◌, refl, sym, ap, ◌∙◌}
use mathlib.Core.Logic.{◌⊎◌, inl, inr, ⊎_elim, ◌≢◌}
use mathlib.Core.List.{List, [], ◌∷◌}
use Prim.Native.Nat.{ℕ, zero, suc, ◌+◌, ◌-◌, ◌*◌, ◌/◌, ◌%◌, ◌^◌, ◌≤◌, ◌<◌}
use native.Mathlib.Nat.{div-div-eq-div-mul, pow-suc, div-one, add-zero, zero-add, one-mul, mod-lt, add_comm, eq-zero-or-pos, div-eq_of_lt, lt_of_lt_of_le}
use native.Mathlib.Numerals.{add-one}
use native.Mathlib.Omega.{arith}
use lib.Dec.{eqb, lit<}
use lib.Pow.{shl_exact, pow_mono, pow_pos}
use lib.Bits.{bit_and, bit_or, and_step, and_self, and_high, or_add_and}
use lib.ListN.{length, drop}
use lib.Count.{ones, ones_step, ones-ones, count_trailing_zeros, trailing_of_zero}
use Rattle.lists.specs.Lists.{when◌then◌else◌, keep, tab}
use Rattle.sets.specs.Set.{member, members, head_or, insert}

-- the lowest bit is 0 or 1
pub bit-cases : (t : ℕ) → (t % 2 ≡ 0) ⊎ (t % 2 ≡ 1)
bit-cases t = go (t % 2) (mod-lt t (omega arith))
  where
    go : (r : ℕ) → r < 2 → (r ≡ 0) ⊎ (r ≡ 1)
    go zero h = inl refl
    go (suc zero) h = inr refl
    go (suc (suc r)) h = absurd (let f : ⊥ = omega arith in f)

-- the places, counted from i, of the ones among the k lowest bits of t
unfoldable ones_from : ℕ → ℕ → ℕ → List ℕ
ones_from zero i t = []
ones_from (suc k) i t = when eqb (t % 2) 1 then i ∷ ones_from k (suc i) (t / 2) else ones_from k (suc i) (t / 2)

half : (s i : ℕ) → s / 2 ^ i / 2 ≡ s / 2 ^ suc i
half s i = div-div-eq-div-mul s (2 ^ i) 2 ∙ rw pow-suc

kept-ones : (s k i : ℕ) (f : ℕ → ℕ) → ((j : ℕ) → f j ≡ i + j) → keep (member s) (tab k f) ≡ ones_from k i (s / 2 ^ i)
unfolding keep tab member ones_from
kept-ones s zero i f h = refl
kept-ones s (suc k) i f h =
    let first : f 0 ≡ i = h 0 ∙ add-zero i in
    let rest = kept-ones s k (suc i) (λ j. f (suc j)) (λ j. h (suc j) ∙ next i j) in
    rw (half, first, rest)
  where
    next : (i j : ℕ) → i + suc j ≡ suc i + j
    next i j = omega arith

members-ones : (s : ℕ) → members s ≡ ones_from 32 0 s
unfolding members
members-ones s = kept-ones s 32 0 (λ j. j) (λ j. sym (zero-add j)) ∙ rw div-one

-- ---- the count of ones

ones-zero : ones 0 ≡ 0
ones-zero = ones-ones 0

ones-count : (k i t : ℕ) → t < 2 ^ k → length (ones_from k i t) ≡ ones t
unfolding ones_from
ones-count zero i t h = let e : t ≡ 0 = omega arith in rw e (sym ones-zero)
ones-count (suc k) i t h =
    let rest : length (ones_from k (suc i) (t / 2)) ≡ ones (t / 2) = ones-count k (suc i) (t / 2) (omega arith) in
    ⊎_elim
    (λ e. rw e (omega (arith, rest, ones_step t, e)))
    (λ e. rw e (omega (arith, rest, ones_step t, e)))
    (bit-cases t)

-- the number of members is the number of ones
pub count-is : (s : ℕ) → s < 2 ^ 32 → length (members s) ≡ ones s
count-is s h = rw members-ones (ones-count 32 0 s h)

-- ---- the trailing zeros

-- z is the place of the lowest one among the k bits of t, which can be taken away
record Lowest (k t z : ℕ) : Type 0 where
  below : z < k
  held : 2 ^ z ≤ t
  cleared : bit_and t (t - 1) ≡ t - 2 ^ z
  first : (i : ℕ) → ones_from k i t ≡ (i + z) ∷ ones_from k i (t - 2 ^ z)

lowest-odd : (k t : ℕ) → t % 2 ≡ 1 → Lowest (suc k) t 0
unfolding ones_from
lowest-odd k t e =
    let low : (t - 1) % 2 ≡ 0 = omega arith in
    let high : (t - 1) / 2 ≡ t / 2 = omega arith in record {
      below = omega arith;
      held = omega arith;
      cleared = and_step t (t - 1) ∙ rw (e, low, high, and_self) (omega arith);
      first = λ i. rw (e, low, high, add-zero);
    }

lowest-even : (k t z : ℕ) → t % 2 ≡ 0 → Lowest k (t / 2) z → Lowest (suc k) t (suc z)
unfolding ones_from
lowest-even k t z e r =
    let pos = pow_pos z in
    let low : (t - 1) % 2 ≡ 1 = omega (arith, r.held) in
    let high : (t - 1) / 2 ≡ t / 2 - 1 = omega arith in
    let low' : (t - 2 ^ suc z) % 2 ≡ 0 = omega arith in
    let high' : (t - 2 ^ suc z) / 2 ≡ t / 2 - 2 ^ z = omega arith in
    let at : (i : ℕ) → i + suc z ≡ suc i + z = omega arith in record {
      below = omega (arith, r.below);
      held = omega (arith, r.held);
      cleared = and_step t (t - 1) ∙ rw (e, low, high, r.cleared) (omega arith);
      first = λ i. rw (e, low', high', at i) (r.first (suc i));
    }

lowest : (k t : ℕ) → t ≢ 0 → t < 2 ^ k → Lowest k t (count_trailing_zeros k t)
unfolding count_trailing_zeros
lowest zero t n h = absurd (n (omega arith))
lowest (suc k) t n h =
    ⊎_elim
    (λ e. rw e (lowest-even k t (count_trailing_zeros k (t / 2)) e (lowest k (t / 2) (λ z. n (omega arith)) (omega arith))))
    (λ e. rw e (lowest-odd k t e))
    (bit-cases t)

-- z is the least member of s, which can be taken away
pub record Least (s z : ℕ) : Type 0 where
  pub below : z < 32
  pub cleared : bit_and s (s - 1) ≡ s - 2 ^ z
  pub first : members s ≡ z ∷ members (s - 2 ^ z)

pub least : (s : ℕ) → s ≢ 0 → s < 2 ^ 32 → Least s (count_trailing_zeros 32 s)
least s n h =
    let r = lowest 32 s n h in record {
      below = r.below;
      cleared = r.cleared;
      first = simp members-ones (simp zero-add at (r.first 0));
    }

pub members-none : members 0 ≡ []
unfolding members member keep tab
members-none = refl

-- the trailing zeros are the least member, and 32 of the empty set
pub next-is : (s : ℕ) → s < 2 ^ 32 → count_trailing_zeros 32 s ≡ head_or 32 (members s)
next-is s h =
    ⊎_elim
    (λ e. rw e (trailing_of_zero 32 ∙ sym (ap (head_or 32) members-none)))
    (λ p. rw (least s (λ e. omega arith) h).first)
    (eq-zero-or-pos s)

-- a set and the number before it have in common all members but the least
pub without-least-is : (s : ℕ) → s ≢ 0 → s < 2 ^ 32 → members (bit_and s (s - 1)) ≡ drop 1 (members s)
without-least-is s n h = let r = least s n h in rw (r.cleared, r.first)

-- ---- one bit more

-- no member is 32 or above
pub member-high : (s i : ℕ) → s < 2 ^ 32 → 32 ≤ i → member s i ≡ false
unfolding member
member-high s i h l = rw (div-eq_of_lt {n = s} {m = 2 ^ i} (lt_of_lt_of_le h (pow_mono l)))

-- a shifted 1 keeps its bit where the place is below 32
pub one_shl : (z : ℕ) → z < 32 → 1 * 2 ^ z % 2 ^ 32 ≡ 2 ^ z
one_shl z h = shl_exact 1 z 32 (lit< tt) (omega arith) ∙ one-mul (2 ^ z)

or-bit : (s i : ℕ) → bit_or s (2 ^ i) + s / 2 ^ i % 2 * 2 ^ i ≡ s + 2 ^ i
or-bit s i = ap (λ x. bit_or s (2 ^ i) + x) (sym one_bit) ∙ or_add_and s (2 ^ i)
  where
    width : 2 ^ (1 + i) - 2 ^ i ≡ 2 ^ i
    width = rw (add_comm 1 i, add-one) (omega arith)

    one_bit : bit_and s (2 ^ i) ≡ s / 2 ^ i % 2 * 2 ^ i
    one_bit = rw width at (and_high s 1 i)

-- or with a single bit inserts its place
pub or-inserts : (s i : ℕ) → bit_or s (2 ^ i) ≡ insert s i
unfolding insert member
or-inserts s i =
    ⊎_elim
    (λ e. rw e (omega (arith, rw e at (or-bit s i))))
    (λ e. rw e (omega (arith, rw e at (or-bit s i))))
    (bit-cases (s / 2 ^ i))
