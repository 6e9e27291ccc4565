-- `asking::run` meets its contract. Assumes nothing.
use Rattle.asking.proofs.Telling.{runs-unknown}
use Rattle.asking.proofs.run.Goals as goal

pub returns-in-Unknown : goal.returns-in-Unknown
returns-in-Unknown c = runs-unknown c.args.question _ c.in-Unknown.is c.tell_usage.ensures
