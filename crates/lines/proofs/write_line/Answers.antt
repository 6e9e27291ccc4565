-- `lines::write_line` meets its contract. Assumes nothing.
use mathlib.Core.Path.{sym, ap, ◌∙◌}
use Prim.Native.Nat.{ℕ, min}
use native.Mathlib.Omega.{arith}
use lib.ListN.{length, take}
use Rattle.machine.specs.Printed.{numbers_text}
use Rattle.lines.specs.Placed.{line_of, line_text, placed}
use Rattle.lines.proofs.Numbers.{length-line, placed-not, placed-line}
use Rattle.lines.proofs.write_line.Goals as goal

pub returns-then-out-at : goal.returns-then-out-at
returns-then-out-at c =
    let a = c.args in
    sym (placed-not (line_text (line_of a.letter (min a.count 8) a.numbers)) a.out.now a.at (omega arith))

pub returns-then-out-at-2 : goal.returns-then-out-at-2
returns-then-out-at-2 c =
    let a = c.args in
    let l = line_of a.letter (min a.count 8) a.numbers in
    let w = ap (λ (k : ℕ). length (numbers_text (take k a.numbers))) c.min.ensures in
    sym (placed-not (line_text l) a.out.now a.at (omega (arith, length-line l, w, c.width-w.ensures.0)))

pub returns : goal.returns
returns c =
    let a = c.args in
    let n = c.min.result in
    let w = c.write_numbers.ensures in
    placed-line (line_of a.letter n a.numbers) a.out.now _ a.at _ _
    (omega (arith, c.width-w.ensures.0))
    c.put.ensures
    w.0
    w.1
    ∙ ap (λ (k : ℕ). placed (line_text (line_of a.letter k a.numbers)) a.out.now a.at) c.min.ensures
