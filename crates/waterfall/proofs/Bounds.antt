-- The products of seniority fit 64 bits: at most 8 × 10^9 × 4,000 × 4,000 = 1.28 × 10^17. Assumes nothing.
use mathlib.Core.Path.{◌≡◌}
use Prim.Native.Nat.{ℕ, ◌-◌, ◌*◌, ◌≤◌, max}
use native.Mathlib.Nat.{mul-le-mul}
use native.Mathlib.Omega.{arith}
use mir.Syntax.{w64}
use mir.Val.{Fits}
use Rattle.waterfall.specs.Seniority.{Standing}
use Rattle.waterfall.specs.Limits.{d_limit, case_unit_limit, Within}

pub excess-le : {s : Standing} → Within s → s.W - s.expected ≤ case_unit_limit
excess-le v = omega (arith, v.W-le)

pub deficit-le : {s : Standing} → Within s → s.expected - s.W ≤ case_unit_limit
deficit-le v = omega (arith, v.expected-le)

pub divisor-le : {s : Standing} {r : ℕ} → Within s → r ≡ max s.W 1 → r ≤ case_unit_limit
divisor-le v e = omega (arith, v.W-le)

pub d-times : {x y : ℕ} → x ≤ d_limit → y ≤ case_unit_limit → Fits w64 (x * y)
d-times hx hy = omega (arith, mul-le-mul hx hy)

pub d-times-times : {x y z : ℕ} → x ≤ d_limit → y ≤ case_unit_limit → z ≤ case_unit_limit → Fits w64 (x * y * z)
d-times-times hx hy hz = omega (arith, mul-le-mul (mul-le-mul hx hy) hz)

pub units-times : {y z : ℕ} → y ≤ case_unit_limit → z ≤ case_unit_limit → Fits w64 (y * z)
units-times hy hz = omega (arith, mul-le-mul hy hz)

pub d-times-units : {x y z : ℕ} → x ≤ d_limit → y ≤ case_unit_limit → z ≤ case_unit_limit → Fits w64 (x * (y * z))
d-times-units hx hy hz = omega (arith, mul-le-mul hx (mul-le-mul hy hz))
