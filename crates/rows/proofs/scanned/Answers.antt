use mathlib.Core.Path.{sym, ◌∙◌}
use native.Mathlib.Omega.{arith}
use Rattle.rows.proofs.Scanning.{scan-next, scan-end}
use Rattle.rows.proofs.scanned.Goals as goal

pub loop-i-preserved : goal.loop-i-preserved
loop-i-preserved c =
    let l = c.loop-i in
    rw c.take_byte.ensures (scan-next _ _ _ l.s l.i _ (omega arith) ∙ l.invariant)

pub returns : goal.returns
returns c =
    let l = c.loop-i in
    sym (scan-end _ _ _ l.s l.i _ (omega arith) (omega arith)) ∙ l.invariant
