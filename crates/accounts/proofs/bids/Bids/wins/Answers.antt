-- `accounts::bids::Bids::wins` meets its contract. Assumes nothing.
use Rattle.lists.specs.Refusals.{answer_of}
use Rattle.accounts.proofs.Winning.{wins-left}
use Rattle.accounts.proofs.bids.Bids.wins.Goals as goal

pub returns : goal.returns
returns c = let a = c.args in
    wins-left a.self a.round a.pool a.open_units a.reserve _ (answer_of c.allot.result) _
    c.units_in-units.ensures (rw c.from.ensures at c.allot.ensures)
