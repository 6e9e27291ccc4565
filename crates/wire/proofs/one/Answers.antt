-- `wire::one` meets its contract. Assumes nothing.
use Rattle.std.proofs.Common.{sym, arith}
use Rattle.wire.proofs.Numbers.{number-one}
use Rattle.wire.proofs.one.Goals as goal

pub returns : goal.returns
returns c = sym (number-one _ _ (omega arith))
