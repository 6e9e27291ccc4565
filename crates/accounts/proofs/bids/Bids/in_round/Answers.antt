-- `accounts::bids::Bids::in_round` meets its contract. Assumes nothing.
use borrow.Author.Tests.{lt-ltb, le-ltb}
use Rattle.accounts.specs.Bids.{in_round_at}
use Rattle.accounts.proofs.bids.Bids.in_round.Goals as goal

pub returns-then-i-self : goal.returns-then-i-self
unfolding in_round_at
returns-then-i-self c = simp (lt-ltb _ _ c.if-i-self.true, c.both.ensures)

pub returns-else-i-self : goal.returns-else-i-self
unfolding in_round_at
returns-else-i-self c = simp (le-ltb _ _ c.if-i-self.false)
