use mathlib.Core.Path.{refl, sym, ◌∙◌}
use Prim.Native.Nat.{◌≤◌}
use native.Mathlib.Omega.{arith}
use lib.ListN.{length, get_or}
use Rattle.input.proofs.Strings.{cut-from, cut-to}
use Rattle.case.proofs.Running.{asked-declined, asked-accepted}
use Rattle.case.proofs.Replaying.{starts, goes, replays}
use borrow.Author.Rules.{rules}
use Rattle.case.proofs.replay.Goals as goal
use Rattle.case.proofs.replay.Goals.{in-Err, in-Ok}

pub loop-k-init : goal.loop-k-init
loop-k-init c = starts _ _ _ _

pub slice_bounds-read_call-count : goal.slice_bounds-read_call-count
slice_bounds-read_call-count c = let s = c.args in let l = c.loop-k in omega (arith, cut-from l.at (length s.bytes.now) (get_or s.ends.now l.k 0) l.invariant.place, c.cut_at-end.ensures)

pub slice_bounds-read_call-start : goal.slice_bounds-read_call-start
slice_bounds-read_call-start c = let s = c.args in let l = c.loop-k in let w : l.at ≤ c.cut_at-end.result = omega (arith, cut-from l.at (length s.bytes.now) (get_or s.ends.now l.k 0) l.invariant.place, c.cut_at-end.ensures) in search (rules, w)

pub slice_bounds-read_call-end : goal.slice_bounds-read_call-end
slice_bounds-read_call-end c = let s = c.args in let l = c.loop-k in let w : c.cut_at-end.result ≤ length s.bytes.now = omega (arith, cut-to l.at (length s.bytes.now) (get_or s.ends.now l.k 0) l.invariant.place, c.cut_at-end.ensures) in search (rules, w)

pub loop-k-preserved : goal.loop-k-preserved
loop-k-preserved c =
    let l = c.loop-k in
    elim c.match-answer_to.branch [
      | in-Err w ↦ rw w.next-is
          (goes _ _ _ _ _ _ _ _ l.invariant c.loop-k-test.true _ c.cut_at-end.ensures _
          (asked-declined l.next _ _ c.read_call-call.ensures _ w.in-Err.ensures) _ (w.answers-is ∙ w.put.ensures ∙ rw w.number.ensures))
      | in-Ok w ↦ rw (w.next-is ∙ w.advance.ensures (sym w.in-Ok.ensures))
          (goes _ _ _ _ _ _ _ _ l.invariant c.loop-k-test.true _ c.cut_at-end.ensures _
          (asked-accepted l.next _ _ c.read_call-call.ensures w.in-Ok.ensures _ refl) _
          (w.answers-is ∙ w.put-in-Ok.ensures))
    ]

pub shape_of-answers : goal.shape_of-answers
shape_of-answers c = c.loop-k.invariant.size

pub returns : goal.returns
returns c = replays _ _ _ _ _ _ _ _ c.loop-k.invariant c.loop-k-test.false
