use native.Mathlib.Omega.{arith}
use Rattle.lists.proofs.Places.{filled_next, tab-of}
use Rattle.turns.specs.Keys.{live_keys}
use Rattle.turns.proofs.live_keys.Goals as goal

pub loop-j-preserved : goal.loop-j-preserved
loop-j-preserved c = let at = c.loop-j in
    filled_next _ 0 at.key-items at.j _ (omega arith) at.invariant (rw (← c.key_at.ensures) c.live_key.ensures)

pub returns : goal.returns
unfolding live_keys
returns c = tab-of 384 _ 0 c.loop-j.key-items c.loop-j-test.array_long (λ k l. c.loop-j.invariant k (omega arith))
