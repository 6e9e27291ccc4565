-- The places that have more units after a call than before. Assumes nothing.
use mathlib.Core.Path.{◌≡◌, refl, ap, ◌∙◌}
use mathlib.Core.Bool.{◌||◌}
use mathlib.Core.Logic.{◌⊎◌, ⊎_elim}
use mathlib.Core.List.{List, [], ◌∷◌}
use Prim.Native.Nat.{ℕ, zero, suc, ◌+◌, ◌-◌, ◌*◌, ◌≤◌, ◌<◌, min}
use native.Mathlib.Omega.{arith}
use lib.Dec.{leb, ltb, eqb}
use lib.ListN.{length, get_or, set, length-set}
use Rattle.lists.specs.Adding.{add_at}
use Rattle.lists.proofs.Bools.{cases, either, lt-or-le}
use Rattle.lists.proofs.Each.{Each, set_cases}
use Rattle.auction.specs.Price.{zero_price}
use Rattle.units.specs.declared.Units.{Units}
use Rattle.units.specs.Places.{allocated_at, sold_at, moved_at, missed_at, missed_moved_at}
use Rattle.units.specs.Steps.{transferred, repriced, pool_of, win_of, sold_counts, shared_counts, noted_at, missed_to}
use Rattle.turns.specs.Keys.{no_key, least_key, key_place, key_price, needed}
use Rattle.units.specs.Groups.{pool_at, pass_groups}
use Rattle.units.proofs.Weighing.{length-transferred}
use Rattle.units.proofs.Kept.{passed-less}
use Rattle.units.proofs.Tears.{torn-from, torn-less}
use Rattle.units.proofs.Groups.{groups-end, groups-stop, groups-turn}

-- ---- CLOSE

module _ (round : ℕ) (rounds pools won : List ℕ) (k : ℕ) where
  pub sold-less : (n : ℕ) (counts : List ℕ) → n ≤ 256 → (k < 132) ⊎ (388 ≤ k) → get_or (sold_counts round rounds pools won n counts) k 0 ≤ get_or counts k 0
  unfolding sold_counts
  sold-less zero counts l far = omega arith
  sold-less (suc n) counts l far =
      let before = sold_counts round rounds pools won n counts in
      omega (
        arith,
        sold-less n counts (omega arith) far,
        passed-less before (pool_of round rounds pools won n) (sold_at n) (win_of round rounds pools won n) k (λ e. ⊎_elim (λ a. absurd (omega arith)) (λ a. absurd (omega arith)) far),
      )

-- ---- ALLOCATE

module _ (pool : ℕ) (shares : List ℕ) (k : ℕ) where
  pub shared-less : (ms counts : List ℕ) → Each (λ m. k ≡ allocated_at pool m → ⊥) ms → get_or (shared_counts pool shares ms counts) k 0 ≤ get_or counts k 0
  unfolding shared_counts
  shared-less [] counts other = omega arith
  shared-less (m ∷ ms) counts other =
      let next = transferred counts pool (allocated_at pool m) (get_or shares m 0) in
      omega (arith, shared-less ms next other.1, passed-less counts pool (allocated_at pool m) (get_or shares m 0) k other.0)

-- ---- MOVE

pool-below : (pools : List ℕ) (j : ℕ) → pool_at pools j < 4
unfolding pool_at
pool-below pools j = either (λ (x : ℕ). x < 4) (ltb j 128) (omega arith) (omega arith)

module _ (pools : List ℕ) (m k : ℕ) (other : (p : ℕ) → p < 4 → k ≡ moved_at p m → ⊥) where
  pub moved-less : (g owed : ℕ) (keys counts sums : List ℕ) → get_or (pass_groups pools m g owed keys counts sums).counts k 0 ≤ get_or counts k 0
  moved-less zero owed keys counts sums = rw (groups-end pools m owed keys counts sums) (omega arith)
  moved-less (suc g) owed keys counts sums =
      cases (eqb owed 0 || leb no_key (least_key keys)) _
      (λ stop. rw (groups-stop pools m owed keys counts sums (suc g) stop) (omega arith))
      (λ on.
      let j = key_place (least_key keys) in
      let pool = pool_at pools j in
      let saving = zero_price - key_price (least_key keys) in
      let n = min (get_or counts (4 + j) 0) (needed owed saving) in
      let next = transferred counts (4 + j) (moved_at pool m) n in
      rw (groups-turn pools m owed keys counts sums g on)
      (omega (
        arith,
        moved-less g (owed - n * saving) (set keys j no_key) next (repriced sums pool n (key_price (least_key keys)) zero_price),
        passed-less counts (4 + j) (moved_at pool m) n k (other pool (pool-below pools j)),
      )))

-- ---- MISS

-- where there is none to tear up, no place has more
torn-none : (u : Units) (k to old price : ℕ) → get_or u.counts k 0 ≡ 0 → (j : ℕ) → get_or (noted_at u k to old price).counts j 0 ≤ get_or u.counts j 0
unfolding noted_at transferred add_at
torn-none u k to old price e j = rw e
    (set_cases (λ (x : ℕ). x ≤ get_or u.counts j 0) (set u.counts k (0 - 0)) to _ 0 j
    (λ is. rw is (omega (arith, less to)))
    (less j))
  where
    less : (i : ℕ) → get_or (set u.counts k (0 - 0)) i 0 ≤ get_or u.counts i 0
    less i = set_cases (λ (x : ℕ). x ≤ get_or u.counts i 0) u.counts k (0 - 0) 0 i (λ is. omega arith) (omega arith)

module _ (u : Units) (long : length u.counts ≡ 780) (m price : ℕ) (small : m < 32) where
  -- the first n pools
  abbrev after : ℕ → Units
  after n = missed_to m price n u

  abbrev half : ℕ → Units
  half n = noted_at (after n) (allocated_at n m) (missed_at n m) (get_or (after n).allocation n 0) price

  none_yet : after 0 ≡ u
  unfolding missed_to
  none_yet = refl

  missed-long : (n : ℕ) → length (after n).counts ≡ 780
  unfolding missed_to noted_at transferred add_at
  missed-long zero = long
  missed-long (suc n) = simp length-set (missed-long n)

  half-long : (n : ℕ) → length (half n).counts ≡ 780
  unfolding noted_at
  half-long n = length-transferred (after n).counts (allocated_at n m) (missed_at n m) _ ∙ missed-long n

  -- one pool: a place that no unit is torn up to
  next-less : (n k : ℕ) → (k ≡ missed_at n m → ⊥) → (k ≡ missed_moved_at n m → ⊥) → get_or (after (suc n)).counts k 0 ≤ get_or (after n).counts k 0
  unfolding missed_to
  next-less n k a b =
      omega (
        arith,
        torn-less (after n) (allocated_at n m) (missed_at n m) (get_or (after n).allocation n 0) price k a,
        torn-less (half n) (moved_at n m) (missed_moved_at n m) zero_price price k b,
      )

  -- all pools so far
  pub missed-less : (n k : ℕ) → ((p : ℕ) → p < n → (k ≡ missed_at p m → ⊥) × (k ≡ missed_moved_at p m → ⊥)) → get_or (after n).counts k 0 ≤ get_or u.counts k 0
  missed-less zero k other = omega (arith, ap (λ (v : Units). get_or v.counts k 0) none_yet)
  missed-less (suc n) k other = let here = other n (omega arith) in omega (arith, missed-less n k (λ p l. other p (omega arith)), next-less n k here.0 here.1)

  -- what holds of the member's units in a pool once they are torn up: none is left, and a place has more only if there were such units
  pub record Cleared (n p : ℕ) : Type 0 where
    pub allocated : get_or (after n).counts (allocated_at p m) 0 ≡ 0
    pub moved : get_or (after n).counts (moved_at p m) 0 ≡ 0
    pub missed : get_or u.counts (allocated_at p m) 0 ≡ 0 → get_or (after n).counts (missed_at p m) 0 ≤ get_or u.counts (missed_at p m) 0
    pub missed-moved : get_or u.counts (moved_at p m) 0 ≡ 0 → get_or (after n).counts (missed_moved_at p m) 0 ≤ get_or u.counts (missed_moved_at p m) 0

  cleared-here : (n : ℕ) → n < 4 → Cleared (suc n) n
  unfolding missed_to
  cleared-here n l =
      let price' = get_or (after n).allocation n 0 in
      let before : (k : ℕ) → ((p : ℕ) → p < n → (k ≡ missed_at p m → ⊥) × (k ≡ missed_moved_at p m → ⊥)) → get_or (after n).counts k 0 ≤ get_or u.counts k 0 = missed-less n in
      record {
        allocated = omega (
          arith,
          torn-from (after n) (allocated_at n m) (missed_at n m) price' price (omega (arith, missed-long n)) (λ x. absurd (omega arith)),
          torn-less (half n) (moved_at n m) (missed_moved_at n m) zero_price price (allocated_at n m) (λ x. absurd (omega arith)),
        );
        moved = torn-from (half n) (moved_at n m) (missed_moved_at n m) zero_price price (omega (arith, half-long n)) (λ x. absurd (omega arith));
        missed = λ none-there. omega (
          arith,
          torn-less (half n) (moved_at n m) (missed_moved_at n m) zero_price price (missed_at n m) (λ x. absurd (omega arith)),
          torn-none (after n) (allocated_at n m) (missed_at n m) price' price (omega (arith, before (allocated_at n m) (λ p b. (λ x. absurd (omega arith), λ x. absurd (omega arith))))) (missed_at n m),
          before (missed_at n m) (λ p b. (λ x. absurd (omega arith), λ x. absurd (omega arith))),
        );
        missed-moved = λ none-there. omega (
          arith,
          torn-none (half n) (moved_at n m) (missed_moved_at n m) zero_price price (omega (
            arith,
            torn-less (after n) (allocated_at n m) (missed_at n m) price' price (moved_at n m) (λ x. absurd (omega arith)),
            before (moved_at n m) (λ p b. (λ x. absurd (omega arith), λ x. absurd (omega arith))),
          )) (missed_moved_at n m),
          torn-less (after n) (allocated_at n m) (missed_at n m) price' price (missed_moved_at n m) (λ x. absurd (omega arith)),
          before (missed_moved_at n m) (λ p b. (λ x. absurd (omega arith), λ x. absurd (omega arith))),
        );
      }

  cleared-next : (n p : ℕ) → n < 4 → p < n → Cleared n p → Cleared (suc n) p
  cleared-next n p l below was = record {
    allocated = omega (arith, was.allocated, next-less n (allocated_at p m) (λ e. absurd (omega arith)) (λ e. absurd (omega arith)));
    moved = omega (arith, was.moved, next-less n (moved_at p m) (λ e. absurd (omega arith)) (λ e. absurd (omega arith)));
    missed = λ none-there. omega (arith, was.missed none-there, next-less n (missed_at p m) (λ e. absurd (omega arith)) (λ e. absurd (omega arith)));
    missed-moved = λ none-there. omega (arith, was.missed-moved none-there, next-less n (missed_moved_at p m) (λ e. absurd (omega arith)) (λ e. absurd (omega arith)));
  }

  pub cleared : (n p : ℕ) → n ≤ 4 → p < n → Cleared n p
  cleared zero p l below = absurd (omega arith)
  cleared (suc n) p l below =
      ⊎_elim
      (λ earlier. cleared-next n p (omega arith) earlier (cleared n p (omega arith) earlier))
      (λ late. let e : p ≡ n = omega arith in rw e (cleared-here n (omega arith)))
      (lt-or-le p n)
