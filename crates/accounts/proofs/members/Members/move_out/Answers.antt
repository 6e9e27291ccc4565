-- `accounts::members::Members::move_out` meets its contract. Assumes nothing.
use Rattle.accounts.proofs.members.Members.move_out.Goals as goal

pub returns : goal.returns
returns c = rw c.with.ensures
