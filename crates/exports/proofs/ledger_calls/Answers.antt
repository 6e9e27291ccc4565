-- `exports::ledger_calls` meets its contract. Assumes nothing.
use Prim.Native.Nat.{ℕ, ◌<◌}
use native.Mathlib.Omega.{arith}
use Rattle.lists.proofs.Each.{each_of}
use Rattle.exports.proofs.Machine.{called}
use Rattle.exports.proofs.ledger_calls.Goals as goal

pub returns : goal.returns
returns c =
    let a = c.args in
    called a.bytes.now a.ends.now
    (each_of (λ (b : ℕ). b < 256) a.bytes.now 0 (λ i h. omega (arith, c.type_inv.bytes i)))
    _ _ _ c.replay.ensures _ c.show.ensures
