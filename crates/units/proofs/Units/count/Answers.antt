-- `units::Units::count` meets its contract. Assumes nothing.
use mathlib.Core.Path.{refl, sym, ◌∙◌}
use native.Mathlib.Omega.{arith}
use Rattle.units.proofs.Numbers.{kind-past}
use Rattle.units.proofs.Results.{count_past, count-there, sold-there, column-from}
use Rattle.units.proofs.Units.count.Goals as goal

pub returns-then-pool-ge4 : goal.returns-then-pool-ge4
returns-then-pool-ge4 c = count_past _ _ _ _ c.if-pool-ge4.true

pub returns-in-0 : goal.returns-in-0
returns-in-0 c = count-there _ _ _ _ 0 _ c.if-pool-ge4.false c.in-0.is (rw (← c.from-at.ensures) c.column_of.ensures)

pub returns-in-1 : goal.returns-in-1
returns-in-1 c = sold-there _ _ _ _ _ _ c.if-pool-ge4.false c.in-1.is c.sold_in.ensures.0 (c.from.ensures ∙ c.agreed_units.ensures)

pub returns-in-2 : goal.returns-in-2
returns-in-2 c = count-there _ _ _ _ 2 _ c.if-pool-ge4.false c.in-2.is (column-from _ 4 _ _ _ _ c.from-at.ensures c.column_of-in-2.ensures)

pub returns-in-3 : goal.returns-in-3
returns-in-3 c = count-there _ _ _ _ 3 _ c.if-pool-ge4.false c.in-3.is (column-from _ 388 _ _ _ _ c.from-at.ensures c.column_of-in-3.ensures)

pub returns-in-4 : goal.returns-in-4
returns-in-4 c = count-there _ _ _ _ 4 _ c.if-pool-ge4.false c.in-4.is (column-from _ 516 _ _ _ _ c.from-at.ensures c.column_of-in-4.ensures)

pub returns-in_default : goal.returns-in_default
returns-in_default c = let a = c.args in count-there _ _ _ _ a.kind _ c.if-pool-ge4.false refl (sym (kind-past a.self a.pools.now a.pool a.kind (omega arith)))
