-- `accounts::rounds::Rounds::put` meets its contract. The branch's test says whether there is room. Assumes nothing.
use Rattle.std.proofs.Common.{◌∙◌, false, arith, rules}
use borrow.Author.Tests.{lt-ltb, le-ltb}
use Rattle.accounts.specs.Rounds.{put_round}
use Rattle.accounts.proofs.FourPlaces.{four-of, four-put}
use Rattle.accounts.proofs.rounds.Rounds.put.Goals as goal

pub returns-then-n-ge-MOST : goal.returns-then-n-ge-MOST
unfolding put_round
returns-then-n-ge-MOST c = simp (le-ltb _ _ c.if-n-ge-MOST.true)

pub returns : goal.returns
unfolding put_round
returns c = let a = c.args in
    rw (
      four-put _ _ _ _ a.self.reserves _ c.from-at.result (c.copy_from_slice.ensures.after ∙ four-of 0 a.reserves (search rules)) (omega arith),
      four-put _ _ _ _ a.self.opened _ c.from-at.result (c.copy_from_slice-2.ensures.after ∙ four-of false a.opened (search rules)) (omega arith),
    )
    (simp (lt-ltb _ _ c.if-n-ge-MOST.false, c.from-at.ensures))
