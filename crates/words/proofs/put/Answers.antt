-- `words::put` meets its contract. Assumes nothing.
use Rattle.std.proofs.Common.{ℕ, ◌+◌, List, length, sym, ap, ◌∙◌, arith}
use Rattle.lines.proofs.Numbers.{placed-fits, placed-not}
use Rattle.lines.proofs.Copies.{copied}
use Rattle.words.proofs.put.Goals as goal

pub returns-then-out-at : goal.returns-then-out-at
returns-then-out-at c =
    let a = c.args in
    sym (placed-not a.text.now a.out.now a.at (omega arith))

pub returns-then-out-at-2 : goal.returns-then-out-at-2
returns-then-out-at-2 c =
    let a = c.args in
    sym (placed-not a.text.now a.out.now a.at (omega arith))

pub returns : goal.returns
returns c =
    let a = c.args in
    ap (λ (o : List ℕ). (a.at + length a.text.now, o)) (copied a.text.now a.out.now _ a.at (omega arith) c.copy_from_slice.ensures.after)
    ∙ sym (placed-fits a.text.now a.out.now a.at (omega arith))
