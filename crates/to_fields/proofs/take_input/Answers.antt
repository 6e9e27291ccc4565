use Rattle.std.proofs.Common.{rules}
use mathlib.Core.Bool.{false≢true}
use Rattle.to_fields.proofs.Turning.{fed-none, fed-turn, turn-room}
use Rattle.to_fields.proofs.take_input.Goals as goal

pub loop-init : goal.loop-init
loop-init c = (fed-none _, search rules)

pub returns-then-turn : goal.returns-then-turn
returns-then-turn c =
    let l = c.loop in
    record {
      fed = fed-turn l.buf _ _ l.lines l.len c.in-Ok.more c.in_ok-turn.turn l.invariant.0 c.read.ensures.front (λ k. search rules) c.in_ok-turn.ensures;
      room = λ ends. absurd (false≢true ends);
    }

pub loop-preserved : goal.loop-preserved
loop-preserved c =
    let l = c.loop in
    let turn = c.in_ok-turn.turn in
    let t = c.in_ok-turn.ensures in (
      fed-turn l.buf _ _ l.lines l.len c.in-Ok.more turn l.invariant.0 c.read.ensures.front (λ k. search rules) t,
      turn-room l.buf _ _ l.lines l.len c.in-Ok.more turn l.invariant.0 c.read.ensures.front (λ k. search rules) t c.if-turn.false,
    )
