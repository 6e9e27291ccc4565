-- `accounts::bids::Bids::stands_for` meets its contract. Past the places no bid is of any round. Assumes nothing.
use Rattle.std.proofs.Common.{◌∙◌, sym, arith, rules}
use mathlib.Core.Bool.{false≢true}
use borrow.Author.Tests.{le-ltb}
use Rattle.accounts.specs.Bids.{stands_for}
use Rattle.accounts.proofs.Past.{stands-past}
use Rattle.accounts.proofs.bids.Bids.stands_for.Goals as goal
use Rattle.accounts.proofs.bids.Bids.stands_for.Goals.{then-i-lt-MOST, else-i-lt-MOST}

pub returns-then-in_round : goal.returns-then-in_round
unfolding stands_for
returns-then-in_round c =
    elim c.if-i-lt-MOST.branch [
      | then-i-lt-MOST w ↦ simp (c.from-i.ensures, (rw c.from-i.ensures at (sym w.in_round.ensures ∙ sym w.value-is ∙ c.if-in_round.true)))
      | else-i-lt-MOST w ↦ absurd (false≢true (sym (le-ltb _ _ w.if-i-lt-MOST.false) ∙ sym w.value-is ∙ c.if-in_round.true))
    ]

pub returns-else-in_round : goal.returns-else-in_round
unfolding stands_for
returns-else-in_round c =
    elim c.if-i-lt-MOST.branch [
      | then-i-lt-MOST w ↦ simp (c.if-in_round.false, (rw c.from-i.ensures at (sym w.in_round.ensures ∙ sym w.value-is ∙ c.if-in_round.false)))
      | else-i-lt-MOST w ↦ c.if-in_round.false ∙ sym (stands-past c.args.self c.args.round c.args.member c.args.n (search rules) (omega arith))
    ]
