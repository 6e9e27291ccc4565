-- `waterfall::senior_in_b` meets its contract. The products fit (`proofs/Bounds.antt`), and are those of the keys. Assumes nothing.
use Prim.Native.Nat.{◌≤◌}
use native.Mathlib.Nat.{one-mul}
use Rattle.waterfall.specs.Limits.{case_unit_limit, standing_of, Within}
use Rattle.waterfall.specs.Seniority.{first_higher}
use Rattle.waterfall.proofs.Bounds.{deficit-le, divisor-le, d-times, units-times, d-times-units}
use Rattle.waterfall.proofs.senior_in_b.Goals as goal
use Rattle.waterfall.proofs.senior_in_b.Goals.{After-divisor_of-q}

a-within : (c : After-divisor_of-q) → Within (standing_of c.args.a)
a-within c = c.requires.0

b-within : (c : After-divisor_of-q) → Within (standing_of c.args.b)
b-within c = c.requires.1

p-le : (c : After-divisor_of-q) → c.divisor_of-p.result ≤ case_unit_limit
p-le c = divisor-le (a-within c) c.divisor_of-p.ensures

q-le : (c : After-divisor_of-q) → c.divisor_of-q.result ≤ case_unit_limit
q-le c = divisor-le (b-within c) c.divisor_of-q.ensures

pub overflow_mul-q : goal.overflow_mul-q
overflow_mul-q c = units-times (q-le (goal.at.overflow_mul-q c).After-divisor_of-q) (deficit-le (b-within (goal.at.overflow_mul-q c).After-divisor_of-q))

pub overflow_mul-a : goal.overflow_mul-a
overflow_mul-a c = d-times-units (a-within (goal.at.overflow_mul-a c).After-divisor_of-q).D-le (q-le (goal.at.overflow_mul-a c).After-divisor_of-q) (deficit-le (b-within (goal.at.overflow_mul-a c).After-divisor_of-q))

pub overflow_mul-p : goal.overflow_mul-p
overflow_mul-p c = units-times (p-le (goal.at.overflow_mul-p c).After-divisor_of-q) (deficit-le (a-within (goal.at.overflow_mul-p c).After-divisor_of-q))

pub overflow_mul-b : goal.overflow_mul-b
overflow_mul-b c = d-times-units (b-within (goal.at.overflow_mul-b c).After-divisor_of-q).D-le (p-le (goal.at.overflow_mul-b c).After-divisor_of-q) (deficit-le (a-within (goal.at.overflow_mul-b c).After-divisor_of-q))

pub overflow_mul-a-2 : goal.overflow_mul-a-2
overflow_mul-a-2 c = d-times (a-within (goal.at.overflow_mul-a-2 c).After-divisor_of-q).D-le (q-le (goal.at.overflow_mul-a-2 c).After-divisor_of-q)

pub overflow_mul-b-2 : goal.overflow_mul-b-2
overflow_mul-b-2 c = d-times (b-within (goal.at.overflow_mul-b-2 c).After-divisor_of-q).D-le (p-le (goal.at.overflow_mul-b-2 c).After-divisor_of-q)

pub returns : goal.returns
unfolding first_higher
returns c =
    rw (c.higher-3.ensures, c.higher-2.ensures, c.higher.ensures, c.divisor_of-q.ensures, c.divisor_of-p.ensures) (simp one-mul)
