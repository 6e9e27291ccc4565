use Rattle.std.proofs.Common.{◌≡◌, ◌+◌, ◌*◌, refl, arith}
use Rattle.lists.specs.Lists.{tab, joined}
use Rattle.forms.proofs.Puts.{put-none, put_as}
use Rattle.expected.specs.Shares.{members_text}
use Rattle.expected.proofs.Texts.{lines-turn}
use Rattle.expected.proofs.put_members.Goals as goal

pub loop-m-init : goal.loop-m-init
unfolding tab joined
loop-m-init c = put_as 0 (omega arith) refl (put-none _ 0)

pub loop-m-preserved : goal.loop-m-preserved
loop-m-preserved c =
    let a = c.args in
    let at = c.loop-m in
    put_as ((at.m + 1) * 88) (omega arith) refl (lines-turn a.set a.shares _ at.out _ at.m at.to _ (at.m * 88) at.invariant (rw c.from.ensures at c.put_place-to.ensures))

pub returns : goal.returns
unfolding members_text
returns c =
    let at = c.loop-m in
    let all : at.m ≡ 32 = omega arith in
    put_as 2816 (omega arith) (rw all) at.invariant
