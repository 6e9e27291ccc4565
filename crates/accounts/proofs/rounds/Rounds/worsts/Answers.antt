-- `accounts::rounds::Rounds::worsts` meets its contract. Assumes nothing.
use Rattle.lists.specs.Lists.{tab}
use Rattle.accounts.specs.Rounds.{worsts_of}
use Rattle.accounts.proofs.rounds.Rounds.worsts.Goals as goal

pub returns : goal.returns
unfolding worsts_of tab
returns c = simp (c.worst-4.ensures, c.worst-3.ensures, c.worst-2.ensures, c.worst.ensures)
