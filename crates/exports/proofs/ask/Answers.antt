use mathlib.Core.Path.{refl}
use native.Mathlib.Omega.{arith}
use Rattle.exports.proofs.Asking.{begins, asks-next, asked-all}
use Rattle.exports.proofs.ask.Goals as goal

pub loop-k-init : goal.loop-k-init
loop-k-init c = begins _ _ _ _ _ _ (omega arith)

pub loop-k-preserved : goal.loop-k-preserved
loop-k-preserved c =
    let l = c.loop-k in
    asks-next _ _ _ _ _ _ _ _ l.invariant c.loop-k-test.true _ c.holding.ensures _ refl

pub returns : goal.returns
returns c = let l = c.loop-k in asked-all _ _ _ _ _ _ _ _ l.invariant (omega arith)
