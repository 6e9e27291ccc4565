-- What `splitting::split` and `ranking` answer: 0 exactly within their limits, and then the lent run holds what was asked for; otherwise it is untouched. Assumes
-- nothing.
use mathlib.Core.Path.{◌≡◌, refl, ap}
use mathlib.Core.Bool.{◌&&◌, not}
use mathlib.Core.List.{List}
use Prim.Native.Nat.{ℕ, ◌≤◌}
use native.Mathlib.Omega.{arith}
use lib.Dec.{leb, eqb}
use lib.ListN.{length}
use borrow.Author.Tests.{leb-true, eqb-true, le-leb, eq-eqb, ne_eqb, not-false}
use Rattle.lists.specs.Lists.{all}
use Rattle.lists.proofs.Bools.{and_left, and_right, and_both}
use Rattle.lists.proofs.Counts.{all-get, all_of}
use Rattle.lists.proofs.Passed.{passed, accepted as none-applies}
use Rattle.splitting.specs.Split.{split}
use Rattle.splitting.specs.Ranking.{ranking}
use Rattle.splitting.specs.Limits.{place_limit, amount_limit, weight_limit, weight_ok, Answer, RankedAnswer, answered, at_front, refusal, split_into, ranking_into}
use Rattle.splitting.specs.Parts.{Within}

-- ---- an answer with a lent run

-- where the answer is 0 the run holds what was asked for
pub answered-0 : (a : ℕ) (done before : List ℕ) → a ≡ 0 → answered a done before ≡ (0, done)
answered-0 a done before e = rw e

-- where it is not the run is untouched
pub answered-not-0 : (a : ℕ) (done before : List ℕ) → (a ≡ 0 → ⊥) → answered a done before ≡ (a, before)
answered-not-0 a done before h = rw (ne_eqb a 0 h)

-- the same, as a function that answers r and leaves `out` in the run has them
pub answers-done : (a : ℕ) (done before : List ℕ) (r : ℕ) (out : List ℕ) → r ≡ a → r ≡ 0 → out ≡ done → ◌≡◌ {A = Answer} (r, out) (answered a done before)
answers-done a done before r out e z o = rw (← e, z, o)

pub answers-untouched : (a : ℕ) (done before : List ℕ) (r : ℕ) → r ≡ a → (r ≡ 0 → ⊥) → ◌≡◌ {A = Answer} (r, before) (answered a done before)
answers-untouched a done before r e n = rw (← e, ne_eqb r 0 n)

-- ---- the limits

module _ (q : ℕ) (ws : List ℕ) (n : ℕ) where
  -- a split that is not refused is within the limits
  pub refusal-within : refusal q ws n ≡ 0 → (n ≡ length ws) × Within q ws
  unfolding refusal
  refusal-within e =
      let t = passed _ refl e in
      let lengths = not-false (eqb n (length ws) && leb n place_limit) t.0 in
      let ranges = not-false (leb q amount_limit && all weight_ok ws) t.1.0 in
      let same : n ≡ length ws = eqb-true n (length ws) (and_left (eqb n (length ws)) (leb n place_limit) lengths) in
      let few : n ≤ place_limit = leb-true n place_limit (and_right (eqb n (length ws)) (leb n place_limit) lengths) in (
        same,
        record {
          weights = record {
            few = omega arith;
            light = λ k. leb-true _ weight_limit (all-get weight_ok ws 0 refl (and_right (leb q amount_limit) (all weight_ok ws) ranges) k);
          };
          small = leb-true q amount_limit (and_left (leb q amount_limit) (all weight_ok ws) ranges);
        },
      )

  -- and a split within the limits is not refused
  pub within-refusal : n ≡ length ws → Within q ws → refusal q ws n ≡ 0
  unfolding refusal
  within-refusal e w =
      none-applies _ (
        ap not (and_both (eqb n (length ws)) (leb n place_limit) (eq-eqb n (length ws) e) (le-leb n place_limit (omega (arith, w.weights.few)))),
        (
          ap not
              (and_both (leb q amount_limit) (all weight_ok ws) (le-leb q amount_limit w.small)
              (all_of weight_ok ws 0 (λ k l. le-leb _ weight_limit (w.weights.light k)))),
          tt,
        ),
      )

-- ---- the function

module _ (q : ℕ) (ws shares : List ℕ) where
  -- within the limits the answer is 0 and the shares hold the split
  pub accepted : length shares ≡ length ws → Within q ws → split_into q ws shares ≡ (0, split q ws)
  unfolding split_into
  accepted e w = answered-0 (refusal q ws (length shares)) (split q ws) shares (within-refusal q ws (length shares) e w)

  -- and back: where the answer is 0 the limits hold
  pub accepted-within : (split_into q ws shares).0 ≡ 0 → (length shares ≡ length ws) × Within q ws
  unfolding split_into
  accepted-within e = refusal-within q ws (length shares) e

  -- where the answer is not 0 the shares are untouched
  pub refused-untouched : ((split_into q ws shares).0 ≡ 0 → ⊥) → (split_into q ws shares).1 ≡ shares
  unfolding split_into
  refused-untouched h = ap (λ (a : Answer). a.1) (answered-not-0 (refusal q ws (length shares)) (split q ws) shares h)

-- ---- the ranking

module _ (q : ℕ) (ws run : List ℕ) where
  -- where the answer is not 0 nothing is named, and the run is untouched
  pub ranked-untouched : (r : ℕ) → r ≡ refusal q ws (length run) → (r ≡ 0 → ⊥) → ◌≡◌ {A = RankedAnswer} (r, 0, run) (ranking_into q ws run)
  unfolding ranking_into
  ranked-untouched r e n = rw (← e, ne_eqb r 0 n)

  -- where it is 0 the ranking stands at the front of the run
  pub ranked-done : (r n : ℕ) (out : List ℕ) → r ≡ refusal q ws (length run) → r ≡ 0
      → ◌≡◌ {A = Answer} (n, out) (length (ranking q ws), at_front (ranking q ws) run) → ◌≡◌ {A = RankedAnswer} (r, n, out) (ranking_into q ws run)
  unfolding ranking_into
  ranked-done r n out e z o = rw (← e, z) (ap (λ (a : Answer). (0, a.0, a.1)) o)
