use Prim.Native.Nat.{◌*◌, ◌-◌}
use native.Mathlib.Omega.{arith}
use lib.ListN.{length}
use Rattle.forms.proofs.Puts.{putting-turn, putting-end, putting-most}
use Rattle.sets.specs.Set.{members}
use Rattle.sets.proofs.Members.{Taken, given, members-few}
use Rattle.spelling.proofs.Texts.{more-next, more-none}
use Rattle.spelling.proofs.put_more.Goals as goal
use Rattle.spelling.proofs.put_more.Goals.{After-from}

-- the next member, taken off
next-taken : (c : After-from) → Taken c.loop-m.m-iterator.left c.from.result c.next.new.self.left
next-taken c = rw c.from.ensures (given _ _ _ c.loop-m.m-iterator.fits c.in-Some.ensures.steps)

pub put_member-to-requires : goal.put_member-to-requires
put_member-to-requires c =
    let t = next-taken (goal.at.put_member-to-requires c).After-from in
    let p = c.loop-m.invariant.put in
    omega (arith, p.behind, p.short, p.same, t.shorter)

pub loop-m-preserved : goal.loop-m-preserved
loop-m-preserved c =
    let l = c.loop-m in
    let t = next-taken (goal.at.loop-m-preserved c).After-from in
    let left = c.next.new.self.left in
    let e = more-next l.m-iterator.left c.from.result left t.cons in
    putting-most ((32 - length (members left)) * 21) (omega (arith, t.shorter, members-few l.m-iterator.left)) (putting-turn _ _ l.invariant e c.put_member-to.ensures)

pub shape_of-out : goal.shape_of-out
shape_of-out c = c.loop-m.invariant.put.same

pub returns : goal.returns
returns c = putting-end 672 (omega arith) (more-none c.loop-m.m-iterator.left c.in-None.ensures.steps.0) c.loop-m.invariant
