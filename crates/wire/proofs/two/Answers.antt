-- `wire::two` meets its contract. Assumes nothing.
use Rattle.std.proofs.Common.{arith}
use Rattle.wire.proofs.Numbers.{number-two}
use Rattle.wire.proofs.two.Goals as goal

pub returns : goal.returns
returns c =
    let a = c.args in
    omega (arith, number-two a.s.now a.at (omega arith))
