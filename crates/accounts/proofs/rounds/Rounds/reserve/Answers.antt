-- `accounts::rounds::Rounds::reserve` meets its contract. The tests say whether there is such a round and such a pool. Assumes nothing.
use borrow.Author.Tests.{lt-leb, le-leb, lt-ltb, le-ltb}
use mathlib.Core.Bool.{and-false}
use Rattle.accounts.specs.Rounds.{reserve_of}
use Rattle.accounts.proofs.rounds.Rounds.reserve.Goals as goal
use Rattle.accounts.proofs.rounds.Rounds.reserve.Goals.{else-round-ge1-via-then-round-ge1+then-round-le2+else-pool-lt4, else-round-ge1-via-then-round-ge1+else-round-le2, else-round-ge1-via-else-round-ge1}

pub returns-then-pool-lt4 : goal.returns-then-pool-lt4
unfolding reserve_of
returns-then-pool-lt4 c =
    simp (
      le-leb _ _ c.if-round-ge1.true,
      le-leb _ _ c.if-round-le2.true,
      lt-ltb _ _ c.if-pool-lt4.true,
      c.from.ensures,
      c.from-then-pool-lt4.ensures,
    )

pub returns-else-round-ge1 : goal.returns-else-round-ge1
unfolding reserve_of
returns-else-round-ge1 c =
    elim c.else-round-ge1.branch [
      | else-round-ge1-via-then-round-ge1+then-round-le2+else-pool-lt4 w ↦ simp (le-ltb _ _ w.if-pool-lt4.false, and-false)
      | else-round-ge1-via-then-round-ge1+else-round-le2 w ↦ simp (lt-leb _ _ w.if-round-le2.false, and-false)
      | else-round-ge1-via-else-round-ge1 w ↦ simp (lt-leb _ _ w.if-round-ge1.false)
    ]
