-- `accounts::members::Members::put` meets its contract. The branch's test says whether the number is a member's. Assumes nothing.
use Rattle.std.proofs.Common.{arith}
use borrow.Author.Tests.{lt-ltb, le-ltb}
use Rattle.accounts.specs.Members.{put_member}
use Rattle.accounts.proofs.FourPlaces.{four-put}
use Rattle.accounts.proofs.members.Members.put.Goals as goal

pub returns-then-m-ge32 : goal.returns-then-m-ge32
unfolding put_member
returns-then-m-ge32 c = simp (le-ltb _ _ c.if-m-ge32.true)

pub returns : goal.returns
unfolding put_member
returns c =
    rw (four-put _ _ _ _ c.args.self.expected _ c.from-at.result c.copy_from_slice.ensures.after (omega arith))
    (simp (lt-ltb _ _ c.if-m-ge32.false, c.with.ensures, c.from-at.ensures))
