-- `positions::position` meets its contract. Assumes nothing.
use Rattle.std.proofs.Common.{arith}
use Rattle.wire.proofs.Numbers.{number-four}
use Rattle.positions.proofs.position.Goals as goal

pub returns : goal.returns
returns c =
    let a = c.args in
    omega (arith, number-four a.s.now a.at (omega arith))
