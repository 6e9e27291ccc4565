-- `asking::put_requirement` meets its contract. Assumes nothing.
use Rattle.asking.proofs.Telling.{requirement-put}
use Rattle.asking.proofs.put_requirement.Goals as goal

pub returns : goal.returns
returns c =
    requirement-put c.args.cents c.requires c.put-a.ensures c.write_money-b.ensures c.put.ensures
