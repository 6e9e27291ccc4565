-- `accounts::bids::Bids::units_at` meets its contract. Assumes nothing.
use Rattle.std.proofs.Common.{◌∙◌, sym}
use borrow.Author.Tests.{eq-eqb, ne_eqb}
use Rattle.accounts.specs.Bids.{in_auction_at}
use Rattle.accounts.proofs.bids.Bids.units_at.Goals as goal
use Rattle.accounts.proofs.bids.Bids.units_at.Goals.{else-in_round-via-then-in_round+else-self-i, else-in_round-via-else-in_round}

pub returns-then-self-i : goal.returns-then-self-i
unfolding in_auction_at
returns-then-self-i c = simp (sym c.in_round.ensures ∙ c.if-in_round.true, eq-eqb _ _ c.if-self-i.true, c.from.ensures)

pub returns-else-in_round : goal.returns-else-in_round
unfolding in_auction_at
returns-else-in_round c =
    elim c.else-in_round.branch [
      | else-in_round-via-then-in_round+else-self-i w ↦ simp (sym c.in_round.ensures ∙ w.if-in_round.true, ne_eqb _ _ w.if-self-i.false)
      | else-in_round-via-else-in_round w ↦ simp (sym c.in_round.ensures ∙ w.if-in_round.false)
    ]
