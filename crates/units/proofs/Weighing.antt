-- Sums over the places where units pass from one to another, and what holds of every entry of a roll holds of every unit that is counted. Assumes nothing.
use mathlib.Core.Path.{◌≡◌, refl, sym, ap, ◌∙◌}
use mathlib.Core.Bool.{Bool, true, false, not}
use mathlib.Core.Logic.{⊎_elim}
use mathlib.Core.List.{List, [], ◌∷◌}
use Prim.Native.Nat.{ℕ, zero, suc, ◌+◌, ◌-◌, ◌*◌, ◌≤◌, ◌<◌}
use native.Mathlib.Nat.{mul-zero, zero-mul, mul-one, add-mul, eq-or-lt_of_le, le_of_suc-le-suc, not-suc-le-zero}
use native.Mathlib.Omega.{arith}
use lib.ListN.{length, get_or, set, length-set}
use lib.Seq.{get_or-set_same, get_or-set_other}
use Rattle.lists.specs.Lists.{sum, sum_to, one_if}
use Rattle.lists.specs.Adding.{most16, add_at}
use Rattle.lists.proofs.Adding.{added}
use Rattle.lists.proofs.Bools.{lt-or-le}
use Rattle.lists.proofs.Sums.{sum_to-ext, sum_to-zero, sum_to-term, sum-none}
use Rattle.lists.proofs.Each.{Each}
use Rattle.machine.specs.Roll.{Entry}
use Rattle.units.specs.Places.{over, weigh, Counted}
use Rattle.units.specs.Steps.{transferred}

-- ---- one place

-- another value at one place
pub point : (n k : ℕ) (g h : ℕ → ℕ) → k < n → ((i : ℕ) → i < n → (i ≡ k → ⊥) → h i ≡ g i) → sum_to n h + g k ≡ sum_to n g + h k
unfolding sum_to
point zero k g h l same = absurd (not-suc-le-zero l)
point (suc n) k g h l same =
    ⊎_elim
    (λ e. rw e (omega (arith, sum_to-ext n h g (λ i m. same i (omega arith) (omega arith)))))
    (λ m. omega (arith, point n k g h m (λ i o a. same i (omega arith) a), same n (omega arith) (omega arith)))
    (eq-or-lt_of_le (le_of_suc-le-suc l))

module _ (counts : List ℕ) (long : length counts ≡ 780) where
  -- another count at one place
  count-changed : (k n : ℕ) (v : ℕ → ℕ) → k < 780 → weigh (set counts k n) v + get_or counts k 0 * v k ≡ weigh counts v + n * v k
  unfolding weigh
  count-changed k n v l =
      point 780 k (λ i. get_or counts i 0 * v i) (λ i. get_or (set counts k n) i 0 * v i) l (λ i m a. rw (get_or-set_other counts k i n 0 a))
      ∙ rw (get_or-set_same counts k n 0 (omega arith))

  -- n units more
  pub weigh-added : (k n : ℕ) (v : ℕ → ℕ) → k < 780 → get_or counts k 0 + n ≤ most16 → weigh (add_at most16 counts k n) v ≡ weigh counts v + n * v k
  weigh-added k n v l fits = rw (added most16 counts k n fits) (omega (arith, count-changed k (get_or counts k 0 + n) v l, add-mul (get_or counts k 0) n (v k)))

  -- n units less
  weigh-taken : (k n : ℕ) (v : ℕ → ℕ) → k < 780 → n ≤ get_or counts k 0 → weigh (set counts k (get_or counts k 0 - n)) v + n * v k ≡ weigh counts v
  weigh-taken k n v l few =
      let has = get_or counts k 0 in
      let rest : has - n + n ≡ has = omega arith in
      let parts : has * v k ≡ (has - n) * v k + n * v k = ap (λ (x : ℕ). x * v k) (sym rest) ∙ add-mul (has - n) n (v k) in
      omega (arith, count-changed k (has - n) v l)

pub length-transferred : (counts : List ℕ) (from to n : ℕ) → length (transferred counts from to n) ≡ length counts
unfolding transferred add_at
length-transferred counts from to n = length-set (set counts from (get_or counts from 0 - n)) to _ ∙ length-set counts from _

-- n units that pass from one place to another
pub weigh-transferred : (counts : List ℕ) → length counts ≡ 780 → (from to n : ℕ) (v : ℕ → ℕ) → from < 780 → to < 780 → (to ≡ from → ⊥) → n ≤ get_or counts from 0
    → get_or counts to 0 + n ≤ most16 → weigh (transferred counts from to n) v + n * v from ≡ weigh counts v + n * v to
unfolding transferred
weigh-transferred counts long from to n v lf lt apart few fits =
    let less = set counts from (get_or counts from 0 - n) in
    let there : get_or less to 0 ≡ get_or counts to 0 = get_or-set_other counts from to (get_or counts from 0 - n) 0 apart in
    omega (arith, weigh-added less (length-set counts from _ ∙ long) to n v lt (omega arith), weigh-taken counts long from n v lf few)

-- ---- all places

module _ (counts : List ℕ) where
  -- only the places that have units count
  pub weigh-ext : (v w : ℕ → ℕ) → ((k : ℕ) → k < 780 → 0 < get_or counts k 0 → v k ≡ w k) → weigh counts v ≡ weigh counts w
  unfolding weigh
  weigh-ext v w same =
      sum_to-ext 780 _ _
      (λ k l. ⊎_elim
      (λ some. ap (λ (x : ℕ). get_or counts k 0 * x) (same k l some))
      (λ h. let none : get_or counts k 0 ≡ 0 = omega arith in rw none (zero-mul (v k) ∙ sym (zero-mul (w k))))
      (lt-or-le 0 (get_or counts k 0)))

  -- another value at one place
  pub weigh-point : (k : ℕ) (v w : ℕ → ℕ) → k < 780 → ((i : ℕ) → i < 780 → (i ≡ k → ⊥) → 0 < get_or counts i 0 → w i ≡ v i)
      → weigh counts w + get_or counts k 0 * v k ≡ weigh counts v + get_or counts k 0 * w k
  unfolding weigh
  weigh-point k v w l same =
      point 780 k (λ i. get_or counts i 0 * v i) (λ i. get_or counts i 0 * w i) l
      (λ i li a. ⊎_elim
      (λ some. ap (λ (x : ℕ). get_or counts i 0 * x) (same i li a some))
      (λ h. let none : get_or counts i 0 ≡ 0 = omega arith in rw none (zero-mul (w i) ∙ sym (zero-mul (v i))))
      (lt-or-le 0 (get_or counts i 0)))

  pub weigh-zero : weigh counts (λ k. 0) ≡ 0
  unfolding weigh
  weigh-zero = sum_to-ext 780 (λ k. get_or counts k 0 * 0) (λ k. 0) (λ k l. mul-zero (get_or counts k 0)) ∙ sum_to-zero 780

  pub weigh-none : (v : ℕ → ℕ) → ((k : ℕ) → k < 780 → 0 < get_or counts k 0 → v k ≡ 0) → weigh counts v ≡ 0
  weigh-none v none = weigh-ext v (λ k. 0) none ∙ weigh-zero

  -- one place is at most all
  pub weigh-term : (k : ℕ) (v : ℕ → ℕ) → k < 780 → get_or counts k 0 * v k ≤ weigh counts v
  unfolding weigh
  weigh-term k v l = sum_to-term 780 (λ i. get_or counts i 0 * v i) k l

-- ---- tests of entries

-- 1 where the test fails
abbrev failing : (Entry → Bool) → Entry → ℕ
failing p e = one_if (not (p e))

fails-not : (b : Bool) → b ≡ true → one_if (not b) ≡ 0
unfolding one_if
fails-not b e = rw e

passes : (b : Bool) → one_if (not b) ≡ 0 → b ≡ true
unfolding one_if
passes true e = refl
passes false e = absurd (omega arith)

over_none : (p : Entry → Bool) (roll : List Entry) → Each (λ e. p e ≡ true) roll → over roll (failing p) ≡ 0
over_none p roll h = sum-none (failing p) roll (go roll h)
  where
    go : (es : List Entry) → Each (λ e. p e ≡ true) es → Each (λ e. failing p e ≡ 0) es
    go [] h = tt
    go (e ∷ es) h = (fails-not (p e) h.0, go es h.1)

over-each : (p : Entry → Bool) (roll : List Entry) → over roll (failing p) ≡ 0 → Each (λ e. p e ≡ true) roll
unfolding sum
over-each p [] h = tt
over-each p (e ∷ es) h = (passes (p e) (omega arith), over-each p es (omega arith))

module _ (counts : List ℕ) (unit : ℕ → Entry) (roll : List Entry) (counted : Counted counts unit roll) (p : Entry → Bool) where
  -- from the units that are counted to the entries
  pub each-entry : ((k : ℕ) → k < 780 → 0 < get_or counts k 0 → p (unit k) ≡ true) → Each (λ e. p e ≡ true) roll
  each-entry h = over-each p roll (counted.all (failing p) ∙ weigh-none counts (λ k. failing p (unit k)) (λ k l some. fails-not (p (unit k)) (h k l some)))

  -- and back
  pub each-unit : Each (λ e. p e ≡ true) roll → (k : ℕ) → k < 780 → 0 < get_or counts k 0 → p (unit k) ≡ true
  unfolding one_if
  each-unit h k l some =
      let none : get_or counts k 0 * failing p (unit k) ≡ 0 =
      omega (arith, counted.all (failing p), over_none p roll h, weigh-term counts k (λ i. failing p (unit i)) l) in
      go (get_or counts k 0) (p (unit k)) some none
    where
      go : (c : ℕ) (b : Bool) → 0 < c → c * one_if (not b) ≡ 0 → b ≡ true
      go c true l e = refl
      go c false l e = absurd (omega (arith, mul-one c))
