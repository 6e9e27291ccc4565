use Rattle.std.proofs.Common.{rules}
use Rattle.to_text.proofs.Turning.{fed-none, fed-turn}
use Rattle.to_text.proofs.take_input.Goals as goal

pub loop-init : goal.loop-init
loop-init c = fed-none _

pub loop-preserved : goal.loop-preserved
loop-preserved c =
    let l = c.loop in
    fed-turn l.buf _ _ l.len c.in_ok-more.more _ l.invariant c.read.ensures.front (λ k. search rules) c.in_ok-len.ensures
