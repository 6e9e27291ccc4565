-- `report::print` meets its contract. Assumes nothing.
use native.Mathlib.Omega.{arith}
use Prim.Native.Nat.{ℕ, ◌<◌}
use Rattle.lists.proofs.Each.{each_of}
use Rattle.input.proofs.Fronts.{rest_all}
use Rattle.report.proofs.Printing.{prints-none, prints}
use Rattle.report.proofs.print.Goals as goal

pub returns-then-room-input : goal.returns-then-room-input
returns-then-room-input c = prints-none _ _ (omega (arith, c.in_ok-room.ensures))

pub returns : goal.returns
returns c =
    let a = c.args in
    let input = a.input.now in
    let t = c.take_part-taken in
    prints input a.out.now _ _ _ t.result c.write_cut-to.result _
    (each_of (λ (b : ℕ). b < 256) input 0 (λ i h. omega (arith, c.type_inv.input i)))
    (omega (arith, c.in_ok-room.ensures, c.if-room-input.false))
    t.ensures
    (rw (rest_all input t.result.used) at c.write_cut-to.ensures)
    c.write_end.ensures
