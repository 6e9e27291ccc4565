-- `timing::ledger_each` meets its contract. Assumes nothing.
use Rattle.timing.proofs.ledger_each.Goals as goal

pub returns : goal.returns
returns c =
    rw (← c.replay-held.ensures.held) c.each.ensures
