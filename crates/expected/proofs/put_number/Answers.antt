-- `expected::put_number` meets its contract. Assumes nothing.
use Rattle.std.proofs.Common.{arith}
use Rattle.machine.specs.Printed.{decimal}
use Rattle.lines.proofs.Decimals.{decimal-le}
use Rattle.forms.proofs.Puts.{put-placed}
use Rattle.expected.proofs.put_number.Goals as goal

pub returns : goal.returns
returns c =
    put-placed 20 (decimal 20 c.args.n) (decimal-le 20 c.args.n) (omega (arith, decimal-le 20 c.args.n)) c.number.ensures
