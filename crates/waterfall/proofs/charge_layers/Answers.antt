-- The laws of the invariant are in `proofs/InTurn.antt`.
use mathlib.Core.Path.{◌≡◌, sym}
use native.Mathlib.Omega.{arith}
use borrow.Author.Rules.{rules}
use lib.ListN.{length, replicate}
use Rattle.waterfall.proofs.InTurn.{start, turn, finish}
use Rattle.waterfall.proofs.charge_layers.Goals as goal
use Rattle.waterfall.proofs.charge_layers.Goals.{Start}

-- there are six limits
size : (c : Start) → length c.args.limits ≡ 6
size c = search rules

pub loop-i-init : goal.loop-i-init
loop-i-init c = start c.args.loss c.args.limits (replicate 6 0) (sym (size (goal.at.loop-i-init c).Start))

pub loop-i-preserved : goal.loop-i-preserved
loop-i-preserved c = rw (c.saturating_sub-rest.ensures, c.min.ensures) (turn c.args.loss c.args.limits c.loop-i.charges c.loop-i.rest c.loop-i.i
    (omega (arith, size (goal.at.loop-i-preserved c).Start)) c.loop-i.invariant)

pub returns : goal.returns
returns c = let r = finish c.args.loss c.args.limits c.loop-i.charges c.loop-i.rest c.loop-i.i
    (omega (arith, size (goal.at.returns c).Start)) c.loop-i.invariant in
    rw (r.0, r.1)
