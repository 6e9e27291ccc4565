-- `exports::ledger_requirement` meets its contract. Assumes nothing.
use mathlib.Core.Path.{sym, ◌∙◌}
use Prim.Native.Nat.{ℕ, ◌<◌}
use native.Mathlib.Omega.{arith}
use Rattle.lists.proofs.Each.{each_of}
use Rattle.exports.proofs.Machine.{requirement-after}
use Rattle.exports.proofs.ledger_requirement.Goals as goal

pub returns-in-Ok : goal.returns-in-Ok
returns-in-Ok c =
    let a = c.args in
    requirement-after a.bytes.now a.ends.now (each_of (λ (b : ℕ). b < 256) a.bytes.now 0 (λ i h. omega (arith, c.type_inv.bytes i)))
    _ c.held_after.ensures _ (sym c.in-Ok.is ∙ c.requirement.ensures)

pub returns-in-Err : goal.returns-in-Err
returns-in-Err c =
    let a = c.args in
    requirement-after a.bytes.now a.ends.now (each_of (λ (b : ℕ). b < 256) a.bytes.now 0 (λ i h. omega (arith, c.type_inv.bytes i)))
    _ c.held_after.ensures _ (sym c.in-Err.is ∙ c.requirement.ensures)
