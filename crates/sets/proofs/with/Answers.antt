-- `sets::with` meets its contract. A shifted 1 is a single bit, and `or` with it inserts. Assumes nothing.
use mathlib.Core.Path.{sym, ◌∙◌}
use Prim.Native.Nat.{◌<◌}
use native.Mathlib.Omega.{arith}
use Rattle.sets.proofs.Bits.{one_shl, or-inserts}
use Rattle.sets.proofs.Members.{with-is, with-high}
use Rattle.sets.proofs.with.Goals as goal

pub returns-then-i-lt32 : goal.returns-then-i-lt32
returns-then-i-lt32 c =
    let s = c.args.set in
    let i = c.args.i in
    let below : i < 32 = omega arith in
    rw (one_shl i below) (or-inserts s i ∙ sym (with-is s i below))

pub returns-else-i-lt32 : goal.returns-else-i-lt32
returns-else-i-lt32 c = sym (with-high c.args.set c.args.i (omega arith))
