-- `turns::units_needed` meets its contract. Assumes nothing.
use Rattle.std.proofs.Common.{◌≡◌, ℕ, ◌<◌, ◌/◌, Option, None, Some, ap, arith, unwrap_or}
use Rattle.std.specs.Option.{SomeIff}
use native.Mathlib.Nat.{div-zero}
use Rattle.turns.specs.Keys.{needed}
use Rattle.turns.proofs.units_needed.Goals as goal

-- a quotient that is 0 where the divisor is 0
quotient : (r : Option ℕ) (a b : ℕ) → SomeIff r (0 < b) (a / b) → unwrap_or r 0 ≡ a / b
quotient (Some x) a b h = h.1
quotient None a b h =
    let none : b ≡ 0 = omega arith in
    rw (none, div-zero a)

pub returns : goal.returns
unfolding needed
returns c = omega (
  arith,
  quotient _ _ _ c.checked_div.ensures,
  ap (λ (x : ℕ). x / c.args.saving) c.saturating_sub.ensures,
)
