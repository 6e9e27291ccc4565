use Rattle.std.proofs.Common.{◌∙◌, false, sym, refl, rules}
use mathlib.Core.Bool.{false≢true}
use Rattle.feed.proofs.Turning.{fed-read}
use Rattle.from_lines.specs.Turns.{rest}
use Rattle.from_lines.proofs.Turning.{fed-none, fed-turn, fed-room}
use Rattle.from_lines.proofs.take_input.Goals as goal

pub loop-init : goal.loop-init
loop-init c = fed-none _ _ _ c.requires.0 c.requires.2

pub returns-then-more-eq0 : goal.returns-then-more-eq0
returns-then-more-eq0 c =
    let l = c.loop in
    record {
      fed = fed-read (rest _) _ l.buf _ l.len l.invariant c.read.ensures.front c.read.auto.buf;
      room = λ on. fed-room _ _ _ _ _ false l.invariant refl;
    }

pub returns-then-turn : goal.returns-then-turn
returns-then-turn c =
    let l = c.loop in
    let t = c.take_turn-turn in
    record {
      fed = fed-turn _ l.buf _ _ l.lines l.len c.in_ok-more.more _ _ _ t.result l.invariant c.read.ensures.front (λ k. search rules) t.ensures refl;
      room = λ on. absurd (false≢true (sym on ∙ c.if-turn.true));
    }

pub loop-preserved : goal.loop-preserved
loop-preserved c =
    let l = c.loop in
    let t = c.take_turn-turn in
    fed-turn _ l.buf _ _ l.lines l.len c.in_ok-more.more _ _ false t.result l.invariant c.read.ensures.front (λ k. search rules) t.ensures c.if-turn.false
