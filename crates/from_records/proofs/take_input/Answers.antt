use Rattle.std.proofs.Common.{refl, rules}
use Rattle.positions.specs.Keeping.{no_days}
use Rattle.from_records.proofs.Turning.{fed-none, fed-turn, turn-declines}
use Rattle.from_records.proofs.take_input.Goals as goal

pub loop-init : goal.loop-init
unfolding no_days
loop-init c = fed-none _ c.requires _ _ refl

pub returns-then-turn-ne0 : goal.returns-then-turn-ne0
returns-then-turn-ne0 c =
    let l = c.loop in
    let t = c.take_turn-turn in
    (c.if-turn-ne0.true, turn-declines _ c.requires l.buf _ _ _ _ l.len c.in_ok-more.more t.result l.invariant c.read.ensures.front t.ensures)

pub loop-preserved : goal.loop-preserved
loop-preserved c =
    let l = c.loop in
    let t = c.take_turn-turn in
    fed-turn _ c.requires l.buf _ _ _ _ l.len c.in_ok-more.more t.result l.invariant c.read.ensures.front (λ k. search rules) t.ensures c.if-turn-ne0.false
