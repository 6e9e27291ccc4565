-- The digits of a number, from the last on: what is spelled of it, and what is left. Assumes nothing.
use mathlib.Core.Path.{◌≡◌, refl, sym, ap, ◌∙◌}
use mathlib.Core.List.{List, [], ◌∷◌, ◌++◌, append_assoc, append-nil}
use Prim.Native.Nat.{ℕ, zero, suc, ◌+◌, ◌/◌, ◌%◌, ◌^◌, ◌≤◌, ◌<◌}
use native.Mathlib.Nat.{pow-suc, div-lt_iff_lt-mul}
use native.Mathlib.Omega.{arith}
use lib.Dec.{ltb}
use lib.ListN.{length, length-append}
use borrow.Author.Tests.{lt-ltb, le-ltb}
use Rattle.lists.specs.Lists.{when◌then◌else◌}
use Rattle.lists.proofs.Bools.{either}
use Rattle.machine.specs.Printed.{decimal}

-- the last digits `w` of n are spelled, and `rest` is left
pub record Spelling (n rest : ℕ) (w : List ℕ) : Type 0 where
  pub fuel : ℕ
  pub some : 1 ≤ fuel
  pub digits : fuel + length w ≡ 20
  pub small : rest < 10 ^ fuel
  pub is : decimal 20 n ≡ decimal fuel rest ++ w

-- nothing is spelled yet
pub spelling-none : (n : ℕ) → n < 2 ^ 64 → Spelling n n []
spelling-none n h = record { fuel = 20; some = omega arith; digits = refl; small = omega arith; is = sym (append-nil (decimal 20 n)) }

decimal-more : (f n : ℕ) → 10 ≤ n → decimal (suc f) n ≡ decimal f (n / 10) ++ ((48 + n % 10) ∷ [])
unfolding decimal
decimal-more f n h = rw (le-ltb n 10 h) refl

decimal-last : (f n : ℕ) → n < 10 → decimal (suc f) n ≡ (48 + n) ∷ []
unfolding decimal
decimal-last f n h = rw (lt-ltb n 10 h) (ap (λ (d : ℕ). (48 + d) ∷ []) (omega arith))

decimal-some : (f n : ℕ) → 1 ≤ f → 1 ≤ length (decimal f n)
unfolding decimal
decimal-some zero n h = absurd (omega arith)
decimal-some (suc f) n h = rw (length-append (when ltb n 10 then [] else decimal f (n / 10)) ((48 + n % 10) ∷ [])) (omega arith)

fewer : (f n : ℕ) → n < 10 ^ suc f → n / 10 < 10 ^ f
fewer f n h = (div-lt_iff_lt-mul {k = 10} {x = n} {y = 10 ^ f} (omega arith)).1 (rw (pow-suc 10 f) at h)

turn : (n rest : ℕ) (w : List ℕ) (f : ℕ) → f + length w ≡ 20 → rest < 10 ^ f → decimal 20 n ≡ decimal f rest ++ w → 10 ≤ rest
    → Spelling n (rest / 10) ((48 + rest % 10) ∷ w)
turn n rest w zero digits small is h = absurd (omega arith)
turn n rest w (suc zero) digits small is h = absurd (omega (arith, fewer 0 rest small))
turn n rest w (suc (suc f)) digits small is h =
    record {
      fuel = suc f;
      some = omega arith;
      digits = omega arith;
      small = fewer (suc f) rest small;
      is = is ∙ ap (λ (d : List ℕ). d ++ w) (decimal-more (suc f) rest h) ∙ append_assoc (decimal (suc f) (rest / 10)) ((48 + rest % 10) ∷ []) w;
    }

-- one digit more
pub spelling-turn : (n rest : ℕ) (w : List ℕ) → Spelling n rest w → 10 ≤ rest → Spelling n (rest / 10) ((48 + rest % 10) ∷ w)
spelling-turn n rest w s h = turn n rest w s.fuel s.digits s.small s.is h

done : (n rest : ℕ) (w : List ℕ) (f : ℕ) → 1 ≤ f → decimal 20 n ≡ decimal f rest ++ w → rest < 10 → decimal 20 n ≡ (48 + rest) ∷ w
done n rest w zero some is h = absurd (omega arith)
done n rest w (suc f) some is h = is ∙ ap (λ (d : List ℕ). d ++ w) (decimal-last f rest h)

-- all digits
pub spelling-done : (n rest : ℕ) (w : List ℕ) → Spelling n rest w → rest < 10 → decimal 20 n ≡ (48 + rest) ∷ w
spelling-done n rest w s h = done n rest w s.fuel s.some s.is h

-- another digit is before those that are spelled
pub spelling-some : (n rest : ℕ) (w : List ℕ) → Spelling n rest w → 1 + length w ≤ length (decimal 20 n)
spelling-some n rest w s =
    omega (arith, ap length s.is, length-append (decimal s.fuel rest) w, decimal-some s.fuel rest s.some)

-- as many digits spelled as k counts, but for the first
pub record Counted (n rest k : ℕ) : Type 0 where
  pub spelled : List ℕ
  pub spelling : Spelling n rest spelled
  pub count : k ≡ 1 + length spelled

-- a number has at most as many digits as are asked for
pub decimal-le : (k n : ℕ) → length (decimal k n) ≤ k
unfolding decimal
decimal-le zero n = omega arith
decimal-le (suc k) n =
    rw (length-append (when ltb n 10 then [] else decimal k (n / 10)) ((48 + n % 10) ∷ []))
    (either (λ (l : List ℕ). length l + 1 ≤ suc k) (ltb n 10) (omega arith) (omega (arith, decimal-le k (n / 10))))
