-- What the tests of the stage say, and the stage after each call that makes another. Assumes nothing.
use mathlib.Core.Path.{◌≡◌, refl}
use mathlib.Core.Bool.{false, ◌&&◌, ◌||◌, not}
use mathlib.Core.Logic.{◌⊎◌, inl, inr, ⊎_elim}
use Prim.Native.Nat.{ℕ, ◌≤◌, ◌<◌}
use native.Mathlib.Omega.{arith}
use lib.Dec.{eqb}
use borrow.Author.Tests.{eqb-true, not-false}
use Rattle.lists.proofs.Bools.{and_left, and_right, or_cases}
use Rattle.machine.specs.State.{Stage, Setup, Bidding, After, CallsOut, Finished, letter, round_of}
use Rattle.machine.proofs.Invariant.{StageOk}

module _ (s : Stage) where
  -- a call that asks for one letter, and one that asks for A or C
  pub letter-is : (k : ℕ) → not (eqb (letter s) k) ≡ false → letter s ≡ k
  letter-is k t = eqb-true (letter s) k (not-false _ t)

  pub letter-AC : not (eqb (letter s) 3 || eqb (letter s) 4) ≡ false → (3 ≤ letter s) × (letter s ≤ 4)
  letter-AC t =
      ⊎_elim
      (λ e. let n = eqb-true (letter s) 3 e in (omega arith, omega arith))
      (λ e. let n = eqb-true (letter s) 4 e in (omega arith, omega arith))
      (or_cases _ _ (not-false _ t))

  -- ROUND: S, or A of round 1
  pub letter-round : not (eqb (letter s) 1 || (eqb (letter s) 3 && eqb (round_of s) 1)) ≡ false → (letter s ≡ 1) ⊎ ((letter s ≡ 3) × (round_of s ≡ 1))
  letter-round t =
      ⊎_elim
      (λ e. inl (eqb-true (letter s) 1 e))
      (λ e. inr (eqb-true (letter s) 3 (and_left _ _ e), eqb-true (round_of s) 1 (and_right (eqb (letter s) 3) _ e)))
      (or_cases _ _ (not-false _ t))

-- ---- the stage that follows

-- ROUND: not where A has no round
pub round-stage : (s : Stage) (n : ℕ) → StageOk s n → (letter s ≡ 3 → n ≡ 0 → ⊥) → (letter s ≡ 1) ⊎ ((letter s ≡ 3) × (round_of s ≡ 1))
    → (n ≡ round_of s) × (round_of s ≤ 1) × (letter s < 4)
unfolding letter round_of
round-stage Setup n o some t = (omega arith, omega arith, omega arith)
round-stage (Bidding r) n o some t = absurd (⊎_elim (λ e. omega arith) (λ e. omega arith) t)
round-stage (After r) n o some t =
    ⊎_elim
    (λ e. absurd (omega arith))
    (λ e. ⊎_elim (λ same. (omega arith, omega arith, omega arith)) (λ none. absurd (some refl none.0)) o.0)
    t
round-stage CallsOut n o some t = absurd (⊎_elim (λ e. omega arith) (λ e. omega arith) t)
round-stage Finished n o some t = absurd (⊎_elim (λ e. omega arith) (λ e. omega arith) t)

-- no round in S
pub setup-stage : (s : Stage) (n : ℕ) → StageOk s n → letter s ≡ 1 → n ≡ 0
unfolding letter
setup-stage Setup n o t = o
setup-stage (Bidding r) n o t = absurd (omega arith)
setup-stage (After r) n o t = absurd (omega arith)
setup-stage CallsOut n o t = absurd (omega arith)
setup-stage Finished n o t = absurd (omega arith)

pub bidding-stage : (s : Stage) (n : ℕ) → StageOk s n → letter s ≡ 2 → (n ≡ round_of s) × (1 ≤ round_of s) × (round_of s ≤ 2)
unfolding letter round_of
bidding-stage Setup n o t = absurd (omega arith)
bidding-stage (Bidding r) n o t = o
bidding-stage (After r) n o t = absurd (omega arith)
bidding-stage CallsOut n o t = absurd (omega arith)
bidding-stage Finished n o t = absurd (omega arith)

-- at most two rounds in any case
pub few-rounds : (s : Stage) (n : ℕ) → StageOk s n → n ≤ 2
few-rounds Setup n o = omega arith
few-rounds (Bidding r) n o = omega arith
few-rounds (After r) n o = ⊎_elim (λ same. omega arith) (λ none. omega arith) o.0
few-rounds CallsOut n o = o
few-rounds Finished n o = o

-- no letter is 0, which stands for no case
pub letter-some : (s : Stage) → eqb (letter s) 0 ≡ false
unfolding letter
letter-some Setup = refl
letter-some (Bidding r) = refl
letter-some (After r) = refl
letter-some CallsOut = refl
letter-some Finished = refl
