-- Laws of the members of a set, for whoever uses sets: what is a member, sums and counts over members, one member more, equal sets, and a
-- loop over members. Assumes nothing.
use mathlib.Core.Bool.{Bool, true, false, ◌&&◌, ◌||◌, false≢true}
use mathlib.Core.Path.{◌≡◌, refl, sym, ap, ◌∙◌}
use mathlib.Core.Logic.{◌⊎◌, inl, inr, ⊎_elim, ◌≢◌}
use mathlib.Core.List.{[], ◌∷◌, map}
use Prim.Native.Nat.{ℕ, zero, suc, ◌+◌, ◌-◌, ◌*◌, ◌/◌, ◌%◌, ◌^◌, ◌≤◌, ◌<◌, max}
use native.Mathlib.Nat.{zero-div, div-div-eq-div-mul, pow-succ', div-one, div_self, div-eq_of_lt, mul-div_cancel_left, max-zero}
use native.Mathlib.Omega.{arith}
use lib.Dec.{eqb}
use lib.Pow.{pow_pos, pow-lt, pow-add}
use lib.Bits.{bit_or, or_step, or_shr, or_lt}
use lib.ListN.{length, drop}
use borrow.Author.Tests.{eq-eqb, ne_eqb, eqb-true, eqb-false, lt-ltb, le-ltb}
use Rattle.lists.specs.Lists.{when◌then◌else◌, sum, sum_to, one_if, count_to, count, any, places}
use Rattle.lists.proofs.Bools.{lt-or-le}
use Rattle.lists.proofs.Sums.{sum_to-ext, sum_to-add, count_small}
use Rattle.lists.proofs.Keep.{sum_kept, length-kept, count_kept, sum_to-one}
use Rattle.lists.proofs.Each.{Each, each_keep, each-kept, each_both, each-tab}
use Rattle.lists.proofs.Counts.{any-kept}
use Rattle.lists.proofs.Ascending.{Ascending, ascending-places}
use Rattle.sets.specs.Set.{member, members, insert, with_member, head_or}
use Rattle.sets.proofs.Bits.{bit-cases, least, or-inserts, members-none}

-- ---- what is a member

-- each member is below 32 and has its bit
pub members-each : (s : ℕ) → Each (λ m. (m < 32) × (member s m ≡ true)) (members s)
unfolding members
members-each s =
    each_both (λ m. m < 32) (λ m. member s m ≡ true) (members s)
    (each-kept (λ m. m < 32) (member s) (places 32) (each-tab (λ m. m < 32) 32 (λ m. m) (λ m l. l)))
    (each_keep (member s) (places 32))

-- a place is among the members exactly if it has its bit
pub member-listed : (s m : ℕ) → m < 32 → any (eqb m) (members s) ≡ member s m
unfolding members
member-listed s m l = any-kept 32 (member s) m l

-- the empty set has no member
pub member-none : (m : ℕ) → member 0 m ≡ false
unfolding member
member-none m = rw zero-div

pub members-ascend : (s : ℕ) → Ascending (members s)
unfolding members
members-ascend s = ascending-places (member s) 32

-- ---- sums and counts over members, by places

pub sum-members : (s : ℕ) (f : ℕ → ℕ) → sum (map f (members s)) ≡ sum_to 32 (λ m. when member s m then f m else 0)
unfolding members
sum-members s f = sum_kept 32 (member s) f (λ m. m)

pub count-members : (s : ℕ) (p : ℕ → Bool) → count p (members s) ≡ count_to 32 (λ m. member s m && p m)
unfolding members
count-members s p = count_kept 32 (member s) p (λ m. m)

pub length-members : (s : ℕ) → length (members s) ≡ count_to 32 (member s)
unfolding members
length-members s = length-kept 32 (member s) (λ m. m)

-- there are at most 32 members
pub members-few : (s : ℕ) → length (members s) ≤ 32
members-few s = omega (arith, length-members s, count_small 32 (member s))

-- functions that agree on the members
pub sum-members-ext : (s : ℕ) (f g : ℕ → ℕ) → ((m : ℕ) → m < 32 → member s m ≡ true → f m ≡ g m)
    → sum (map f (members s)) ≡ sum (map g (members s))
sum-members-ext s f g h =
    sum-members s f
    ∙ sum_to-ext 32 _ (λ m. when member s m then g m else 0) (λ m l. go m l (member s m) refl)
    ∙ sym (sum-members s g)
  where
    go : (m : ℕ) → m < 32 → (b : Bool) → member s m ≡ b → (when b then f m else 0) ≡ (when b then g m else 0)
    go m l true e = h m l e
    go m l false e = refl

-- tests that agree on the members
pub count-members-ext : (s : ℕ) (p q : ℕ → Bool) → ((m : ℕ) → m < 32 → member s m ≡ true → p m ≡ q m)
    → count p (members s) ≡ count q (members s)
count-members-ext s p q h =
    count-members s p
    ∙ sum_to-ext 32 _ (λ m. one_if (member s m && q m)) (λ m l. go m l (member s m) refl)
    ∙ sym (count-members s q)
  where
    go : (m : ℕ) → m < 32 → (b : Bool) → member s m ≡ b → one_if (b && p m) ≡ one_if (b && q m)
    go m l true e = ap one_if (h m l e)
    go m l false e = refl

-- ---- one member more

pub with-is : (s i : ℕ) → i < 32 → with_member s i ≡ insert s i
unfolding with_member
with-is s i l = rw (lt-ltb i 32 l)

pub with-high : (s i : ℕ) → 32 ≤ i → with_member s i ≡ s
unfolding with_member
with-high s i g = rw (le-ltb i 32 g)

-- a single bit has no other bit
pow-bit-above : (i j : ℕ) → i < j → 2 ^ i / 2 ^ j % 2 ≡ 0
pow-bit-above i j h = rw (div-eq_of_lt (pow-lt h))

pow-bit-below : (i j : ℕ) → j < i → 2 ^ i / 2 ^ j % 2 ≡ 0
pow-bit-below i j h =
    let e : i ≡ j + suc (i - suc j) = omega arith in
    let p : 2 ^ i ≡ 2 ^ j * 2 ^ suc (i - suc j) = ap (λ n. 2 ^ n) e ∙ pow-add 2 j (suc (i - suc j)) in
    rw (p, mul-div_cancel_left (2 ^ suc (i - suc j)) (pow_pos j)) (omega arith)

pow-bit-other : (i j : ℕ) → i ≢ j → 2 ^ i / 2 ^ j % 2 ≡ 0
pow-bit-other i j n = ⊎_elim (pow-bit-above i j) (λ h. pow-bit-below i j (omega arith)) (lt-or-le i j)

or-bit-at : (s p j : ℕ) → bit_or s p / 2 ^ j % 2 ≡ max (s / 2 ^ j % 2) (p / 2 ^ j % 2)
or-bit-at s p j = rw or_shr (omega (arith, or_step (s / 2 ^ j) (p / 2 ^ j)))

insert-at : (s i j : ℕ) (b : Bool) → eqb i j ≡ b → eqb (max (s / 2 ^ j % 2) (2 ^ i / 2 ^ j % 2)) 1 ≡ (b || eqb (s / 2 ^ j % 2) 1)
insert-at s i j true e =
    let one : 2 ^ i / 2 ^ j % 2 ≡ 1 = rw (eqb-true i j e, div_self (pow_pos j)) in
    eq-eqb (max (s / 2 ^ j % 2) (2 ^ i / 2 ^ j % 2)) 1 (omega arith)
insert-at s i j false e = rw (pow-bit-other i j (eqb-false i j e), max-zero)

-- the members of s with i are i and the members of s
pub member-insert : (s i j : ℕ) → member (insert s i) j ≡ (eqb i j || member s j)
unfolding member
member-insert s i j = rw (← or-inserts s i, or-bit-at) (insert-at s i j (eqb i j) refl)

pub insert-fits : (s i : ℕ) → s < 2 ^ 32 → i < 32 → insert s i < 2 ^ 32
insert-fits s i h l = rw (← or-inserts s i) (or_lt 32 s (2 ^ i) h (pow-lt l))

-- a new member is one more
pub insert-count : (s i : ℕ) → i < 32 → member s i ≡ false → length (members (insert s i)) ≡ suc (length (members s))
unfolding one_if
insert-count s i l new =
    omega (
      arith,
      length-members (insert s i),
      length-members s,
      sum_to-ext 32 (λ j. one_if (member (insert s i) j)) (λ j. (when eqb j i then 1 else 0) + one_if (member s j)) (λ j below. at j (eqb i j) refl),
      sum_to-add 32 (λ j. when eqb j i then 1 else 0) (λ j. one_if (member s j)),
      sum_to-one 32 i 1 l,
    )
  where
    at : (j : ℕ) (b : Bool) → eqb i j ≡ b → one_if (member (insert s i) j) ≡ (when eqb j i then 1 else 0) + one_if (member s j)
    at j true e = let same : i ≡ j = eqb-true i j e in rw (member-insert, ← same, eq-eqb i i refl, new)
    at j false e = rw (member-insert, e, ne_eqb j i (λ same. eqb-false i j e (sym same))) (omega arith)

-- ---- sets with the same members are equal

bit-same : (a b : ℕ) → (a % 2 ≡ 0) ⊎ (a % 2 ≡ 1) → (b % 2 ≡ 0) ⊎ (b % 2 ≡ 1) → eqb (a % 2) 1 ≡ eqb (b % 2) 1 → a % 2 ≡ b % 2
bit-same a b (inl p) (inl q) e = omega arith
bit-same a b (inl p) (inr q) e = absurd (false≢true (rw (p, q) at e))
bit-same a b (inr p) (inl q) e = absurd (false≢true (sym (rw (p, q) at e)))
bit-same a b (inr p) (inr q) e = omega arith

half-bit : (s i : ℕ) → s / 2 / 2 ^ i ≡ s / 2 ^ suc i
half-bit s i = div-div-eq-div-mul s 2 (2 ^ i) ∙ rw pow-succ'

same_bits : (k s t : ℕ) → s < 2 ^ k → t < 2 ^ k → ((i : ℕ) → i < k → member s i ≡ member t i) → s ≡ t
unfolding member
same_bits zero s t hs ht same = omega arith
same_bits (suc k) s t hs ht same =
    let high : s / 2 ≡ t / 2 =
    same_bits k (s / 2) (t / 2) (omega arith) (omega arith) (λ i l. rw (half-bit s i, half-bit t i) (same (suc i) (omega arith))) in
    let low : s % 2 ≡ t % 2 = bit-same s t (bit-cases s) (bit-cases t) (simp div-one at (same 0 (omega arith))) in
    omega arith

pub ext : (s t : ℕ) → s < 2 ^ 32 → t < 2 ^ 32 → ((i : ℕ) → i < 32 → member s i ≡ member t i) → s ≡ t
ext s t hs ht same = same_bits 32 s t hs ht same

pub members-ext : (s t : ℕ) → s < 2 ^ 32 → t < 2 ^ 32 → members s ≡ members t → s ≡ t
members-ext s t hs ht e = ext s t hs ht (λ i l. sym (member-listed s i l) ∙ ap (any (eqb i)) e ∙ member-listed t i l)

-- ---- a loop over members: j is what `next` gives of what is left, and left' what `without_least` does

pub record Taken (left j left' : ℕ) : Type 0 where
  pub below : j < 32
  pub held : member left j ≡ true
  pub cons : members left ≡ j ∷ members left'
  pub shorter : length (members left') < length (members left)
  pub upwards : Each (λ k. j < k) (members left')

-- the first of what is left is a member
pub next-below : (left j : ℕ) → left ≢ 0 → left < 2 ^ 32 → j ≡ head_or 32 (members left) → j < 32
next-below left j n h first = let r = least left n h in rw (first ∙ ap (head_or 32) r.first) r.below

pub taken : (left j left' : ℕ) → left ≢ 0 → left < 2 ^ 32 → j ≡ head_or 32 (members left) → members left' ≡ drop 1 (members left) → Taken left j left'
taken left j left' n h first rest =
    let r = least left n h in
    let at : j ≡ _ = first ∙ ap (head_or 32) r.first in
    let all : members left ≡ j ∷ members left' = r.first ∙ rw (at, rest, r.first) in
    let each : Each (λ m. (m < 32) × (member left m ≡ true)) (j ∷ members left') = rw all at (members-each left) in
    let up : Ascending (j ∷ members left') = rw all at (members-ascend left) in record {
      below = each.0.0;
      held = each.0.1;
      cons = all;
      shorter = rw all (omega arith);
      upwards = up.0;
    }

-- ---- the same for a loop over the iterator `members_of`: its `next` gave j, and left left'

pub given : (left j left' : ℕ) → left < 2 ^ 32 → members left ≡ j ∷ members left' → Taken left j left'
given left j left' h cons =
    taken left j left' (λ e. omega (arith, ap length (ap members e ∙ members-none), ap length cons)) h (sym (ap (head_or 32) cons)) (sym (ap (drop 1) cons))

-- nothing is left but of the empty set
pub given-none : (left : ℕ) → left < 2 ^ 32 → members left ≡ [] → left ≡ 0
given-none left h e = members-ext left 0 h (omega arith) (e ∙ sym members-none)
