-- `wire::four` meets its contract. Assumes nothing.
use Rattle.std.proofs.Common.{arith}
use Rattle.wire.proofs.Numbers.{number-four}
use Rattle.wire.proofs.four.Goals as goal

pub returns : goal.returns
returns c =
    let a = c.args in
    omega (arith, number-four a.s.now a.at (omega arith))
