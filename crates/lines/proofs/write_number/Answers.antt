-- `lines::write_number` meets its contract. Assumes nothing.
use mathlib.Core.Path.{ap, ◌∙◌}
use mathlib.Core.List.{List}
use Prim.Native.Nat.{ℕ, ◌+◌}
use native.Mathlib.Numerals.{add-one}
use native.Mathlib.Omega.{arith}
use lib.ListN.{length, set, length-set}
use lib.Seq.{sets, length-sets}
use Rattle.machine.specs.Printed.{decimal}
use Rattle.lines.proofs.write_number.Goals as goal

pub spell-requires : goal.spell-requires
spell-requires c =
    let d = c.digits-k.ensures in
    let a = c.args in
    let l = ap length c.put.ensures ∙ length-set a.out.now a.at 32 in
    (d.0, omega (arith, d.0, l, c.requires))

pub overflow_add-result-2 : goal.overflow_add-result-2
overflow_add-result-2 c = omega (arith, c.digits-k.ensures.0)

pub shape_of-out : goal.shape_of-out
shape_of-out c =
    ap length c.spell.ensures ∙ length-sets _ _ (decimal 20 c.args.n)
    ∙ ap length c.put.ensures ∙ length-set c.args.out.now c.args.at 32

pub returns : goal.returns
returns c =
    let a = c.args in
    let o = c.put.ensures in (
      omega (arith, c.digits-k.ensures.0),
      c.spell.ensures
          ∙ ap (λ (l : List ℕ). sets l (a.at + 1) (decimal 20 a.n)) o
          ∙ ap (λ (k : ℕ). sets (set a.out.now a.at 32) k (decimal 20 a.n)) (add-one a.at),
    )
