-- `positions::count_of` meets its contract. Assumes nothing.
use Rattle.std.proofs.Common.{arith}
use Rattle.sets.proofs.Members.{members-few}
use Rattle.positions.proofs.count_of.Goals as goal

pub returns : goal.returns
returns c = (c.count.ensures, omega (arith, c.count.ensures, members-few c.args.set))
