-- `accounts::rounds::Rounds::worst` meets its contract. Assumes nothing.
use Rattle.std.proofs.Common.{◌≡◌, ◌+◌, ◌∙◌, sym, ap, false, leb, ◌&&◌, get_or}
use borrow.Author.Tests.{le-leb, lt-leb, lt-ltb, le-ltb}
use Rattle.accounts.specs.Rounds.{worst_of}
use Rattle.accounts.proofs.rounds.Rounds.worst.Goals as goal
use Rattle.accounts.proofs.rounds.Rounds.worst.Goals.{After-worst_in, then-self-ge1, else-self-ge1, then-self-ge2, else-self-ge2}

-- in which rounds the pool had open units
first-is : (c : After-worst_in) → c.if-self-ge1.first ≡ (leb 1 c.args.self.held && get_or c.args.self.opened c.from-at.result false)
first-is c =
    elim c.if-self-ge1.branch [
      | then-self-ge1 w ↦ w.first-is ∙ sym (ap (λ b. b && get_or c.args.self.opened c.from-at.result false) (le-leb _ _ w.if-self-ge1.true))
      | else-self-ge1 w ↦ w.first-is ∙ simp (lt-leb _ _ w.if-self-ge1.false)
    ]

second-is : (c : After-worst_in) → c.if-self-ge2.second ≡ (leb 2 c.args.self.held && get_or c.args.self.opened (c.from-at.result + 4) false)
second-is c =
    elim c.if-self-ge2.branch [
      | then-self-ge2 w ↦ w.second-is ∙ sym (ap (λ b. b && get_or c.args.self.opened (c.from-at.result + 4) false) (le-leb _ _ w.if-self-ge2.true))
      | else-self-ge2 w ↦ w.second-is ∙ simp (lt-leb _ _ w.if-self-ge2.false)
    ]

pub returns-then-pool-ge4 : goal.returns-then-pool-ge4
unfolding worst_of
returns-then-pool-ge4 c = simp (le-ltb _ _ c.if-pool-ge4.true)

pub returns : goal.returns
unfolding worst_of
returns c = rw (lt-ltb _ _ c.if-pool-ge4.false) (simp (c.worst_in.ensures, first-is c, second-is c, c.from-at.ensures))
