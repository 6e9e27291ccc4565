-- `lines::number` meets its contract. Assumes nothing.
use mathlib.Core.Path.{sym, ap, ◌∙◌}
use mathlib.Core.List.{List}
use Prim.Native.Nat.{ℕ, ◌+◌}
use native.Mathlib.Omega.{arith}
use lib.Seq.{sets}
use Rattle.machine.specs.Printed.{decimal}
use Rattle.lines.proofs.Numbers.{placed-fits, placed-not}
use Rattle.lines.proofs.number.Goals as goal

pub returns-then-out-at : goal.returns-then-out-at
returns-then-out-at c =
    let a = c.args in
    sym (placed-not (decimal 20 a.n) a.out.now a.at (omega arith))

pub returns-then-out-at-2 : goal.returns-then-out-at-2
returns-then-out-at-2 c =
    let a = c.args in
    sym (placed-not (decimal 20 a.n) a.out.now a.at (omega (arith, c.digits-k.ensures.0)))

pub returns : goal.returns
returns c =
    let a = c.args in
    let k = c.digits-k.ensures.0 in
    ap (λ (o : List ℕ). (a.at + c.digits-k.result, o)) c.spell.ensures
    ∙ ap (λ (i : ℕ). (a.at + i, sets a.out.now a.at (decimal 20 a.n))) k
    ∙ sym (placed-fits (decimal 20 a.n) a.out.now a.at (omega (arith, k)))
