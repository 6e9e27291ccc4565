use Rattle.std.proofs.Common.{arith, rules}
use Rattle.input.proofs.Fronts.{rest_all}
use Rattle.to_text.proofs.Turning.{passed_none, passed-within, passed-some, passed-goes, passed-all}
use Rattle.to_text.proofs.write_all.Goals as goal

pub loop-streams-init : goal.loop-streams-init
loop-streams-init c = passed_none _

pub returns-then-part-eq0 : goal.returns-then-part-eq0
returns-then-part-eq0 c =
    let l = c.loop-streams in
    let t = c.take_some-part in
    passed-all _ _ _ _ _ t.result l.invariant (rest_all _ l.used) t.ensures
    (λ k. search rules) (omega (arith, c.requires, l.auto.out)) c.if-part-eq0.true

pub overflow_add-used : goal.overflow_add-used
overflow_add-used c =
    let l = c.loop-streams in
    let t = c.take_some-part in
    let w = passed-within _ _ _ _ _ t.result l.invariant (rest_all _ l.used) t.ensures in search (rules, w)

pub loop-streams-smaller : goal.loop-streams-smaller
loop-streams-smaller c =
    let l = c.loop-streams in
    let t = c.take_some-part in
    omega (arith, passed-within _ _ _ _ _ t.result l.invariant (rest_all _ l.used) t.ensures, passed-some _ _ _ _ _ t.result l.invariant (rest_all _ l.used) t.ensures, c.if-part-eq0.false)

pub loop-streams-preserved : goal.loop-streams-preserved
loop-streams-preserved c =
    let l = c.loop-streams in
    let t = c.take_some-part in
    passed-goes _ _ _ _ _ t.result l.invariant (rest_all _ l.used) t.ensures
