-- `exports::ledger_pool_prices` meets its contract. Assumes nothing.
use mathlib.Core.Path.{◌∙◌}
use Prim.Native.Nat.{ℕ, ◌<◌}
use native.Mathlib.Omega.{arith}
use mir.Syntax.{w64}
use mir.Facts.{to_z-of_z}
use Rattle.lists.proofs.Each.{each_of}
use Rattle.exports.proofs.Machine.{prices-after}
use Rattle.exports.proofs.ledger_pool_prices.Goals as goal

pub returns : goal.returns
returns c =
    let a = c.args in
    to_z-of_z {w = w64} {z = c.prices_in.result} (record { sfits = c.prices_in.type_inv })
    ∙ c.prices_in.ensures
    ∙ prices-after a.bytes.now a.ends.now
    (each_of (λ (b : ℕ). b < 256) a.bytes.now 0 (λ i h. omega (arith, c.type_inv.bytes i)))
    _ c.held_after.ensures a.pool
