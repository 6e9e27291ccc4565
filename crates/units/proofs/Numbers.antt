-- Numbers that are counted only where a test passes, and a number that is no kind of unit. Assumes nothing.
use mathlib.Core.Path.{◌≡◌, refl}
use mathlib.Core.Bool.{Bool, true, false, cond}
use mathlib.Core.List.{List}
use Prim.Native.Nat.{ℕ, zero, suc, ◌≤◌}
use native.Mathlib.Omega.{arith}
use Rattle.units.specs.Shown.{kind_of}
use Rattle.units.specs.declared.Units.{Units}

pub if-le : (b : Bool) (r x most : ℕ) → r ≡ cond b x 0 → x ≤ most → r ≤ most
if-le true r x most e h = omega arith
if-le false r x most e h = omega arith

pub kind-past : (u : Units) (pools : List ℕ) (pool k : ℕ) → 5 ≤ k → kind_of u pools pool k ≡ 0
kind-past u pools pool zero h = absurd (omega arith)
kind-past u pools pool (suc zero) h = absurd (omega arith)
kind-past u pools pool (suc (suc zero)) h = absurd (omega arith)
kind-past u pools pool (suc (suc (suc zero))) h = absurd (omega arith)
kind-past u pools pool (suc (suc (suc (suc zero)))) h = absurd (omega arith)
kind-past u pools pool (suc (suc (suc (suc (suc k))))) h = refl
