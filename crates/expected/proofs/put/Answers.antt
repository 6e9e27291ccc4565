-- `expected::put` meets its contract. Assumes nothing.
use Rattle.std.proofs.Common.{arith}
use Rattle.forms.proofs.Puts.{put-placed}
use Rattle.expected.proofs.put.Goals as goal

pub returns : goal.returns
returns c =
    put-placed 16 c.args.text.now c.requires.0 (omega arith) c.put.ensures
