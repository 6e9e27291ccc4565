use mathlib.Core.Path.{refl}
use Rattle.std.proofs.Common.{rules}
use Rattle.case_feed.proofs.Turning.{fed-none, fed-turn}
use Rattle.explain.proofs.take_input.Goals as goal

pub loop-init : goal.loop-init
loop-init c = fed-none _ _ refl

pub loop-preserved : goal.loop-preserved
loop-preserved c =
    let l = c.loop in
    let t = c.take_turn-turn in
    fed-turn l.buf _ _ l.held l.len c.in_ok-more.more t.result.held t.result.len l.invariant c.read.ensures.front (λ k. search rules) t.ensures
