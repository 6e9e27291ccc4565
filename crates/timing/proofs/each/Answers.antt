use mathlib.Core.Path.{refl, sym, ◌∙◌}
use Prim.Native.Nat.{◌≤◌}
use native.Mathlib.Omega.{arith}
use lib.ListN.{length, get_or}
use Rattle.input.proofs.Strings.{cut-from, cut-to}
use Rattle.timing.proofs.Turns.{case-read, declined, accepted, starts, goes, all_told}
use borrow.Author.Rules.{rules}
use Rattle.timing.proofs.each.Goals as goal
use Rattle.timing.proofs.each.Goals.{in-Err, in-Ok}

pub loop-k-init : goal.loop-k-init
loop-k-init c = starts _ _ _ _ _

pub slice_bounds-read_call-count : goal.slice_bounds-read_call-count
slice_bounds-read_call-count c =
    let a = c.args in
    let l = c.loop-k in
    omega (arith, cut-from l.at (length a.bytes.now) (get_or a.ends.now l.k 0) l.invariant.place, c.cut_at-end.ensures)

pub slice_bounds-read_call-start : goal.slice_bounds-read_call-start
slice_bounds-read_call-start c =
    let a = c.args in
    let l = c.loop-k in
    let w : l.at ≤ c.cut_at-end.result = omega (arith, cut-from l.at (length a.bytes.now) (get_or a.ends.now l.k 0) l.invariant.place, c.cut_at-end.ensures) in
    search (rules, w)

pub slice_bounds-read_call-end : goal.slice_bounds-read_call-end
slice_bounds-read_call-end c =
    let a = c.args in
    let l = c.loop-k in
    let w : c.cut_at-end.result ≤ length a.bytes.now = omega (arith, cut-to l.at (length a.bytes.now) (get_or a.ends.now l.k 0) l.invariant.place, c.cut_at-end.ensures) in
    search (rules, w)

pub loop-k-preserved : goal.loop-k-preserved
loop-k-preserved c =
    let l = c.loop-k in
    elim c.match-answer_to.branch [
      | in-Err w ↦ rw w.next-is
          (goes _ _ _ _ _ _ _ _ _ l.invariant c.loop-k-test.true _ c.cut_at-end.ensures _
          (declined _ _ _ l.invariant.same _ _ c.read_call-call.ensures _ _ w.in-Err.ensures (w.from.ensures ∙ w.number.ensures)) _ (w.numbers-is ∙ w.put.ensures) _ l.invariant.same)
      | in-Ok w ↦ rw w.next-is
          (goes _ _ _ _ _ _ _ _ _ l.invariant c.loop-k-test.true _ c.cut_at-end.ensures _
          (accepted _ _ _ l.invariant.same _ _ c.read_call-call.ensures _ w.in-Ok.ensures _ refl (case-read _ _ _ _ (w.advance.ensures (sym w.in-Ok.ensures)) w.reading_in.ensures)) _
          (w.numbers-is ∙ w.put-in-Ok.ensures) _ refl)
    ]

pub shape_of-numbers : goal.shape_of-numbers
shape_of-numbers c = c.loop-k.invariant.size

pub returns : goal.returns
returns c = all_told _ _ _ _ _ _ _ _ _ c.loop-k.invariant c.loop-k-test.false
