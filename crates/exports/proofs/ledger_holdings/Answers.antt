-- `exports::ledger_holdings` meets its contract. Assumes nothing.
use Prim.Native.Nat.{ℕ, ◌<◌}
use native.Mathlib.Omega.{arith}
use Rattle.lists.proofs.Each.{each_of}
use Rattle.exports.proofs.Machine.{held_after}
use Rattle.exports.proofs.ledger_holdings.Goals as goal

pub returns : goal.returns
returns c =
    let a = c.args in
    held_after a.bytes.now a.ends.now
    (each_of (λ (b : ℕ). b < 256) a.bytes.now 0 (λ i h. omega (arith, c.type_inv.bytes i)))
    _ c.held_after.ensures a.members.now a.pools.now a.prices.now a.units.now _ c.ask.ensures
