-- `asking::put_refusal` meets its contract. Assumes nothing.
use Rattle.std.proofs.Common.{ℕ, ap, ◌∙◌, arith}
use Rattle.machine.specs.Printed.{decimal}
use Rattle.lines.specs.Placed.{placed}
use Rattle.asking.proofs.Telling.{refused-put, refusal-put}
use Rattle.asking.proofs.put_refusal.Goals as goal

pub put_sentence-d-requires : goal.put_sentence-d-requires
put_sentence-d-requires c =
    let number = c.number-b.ensures ∙ ap (λ (k : ℕ). placed (decimal 20 k) c.put-a.new.out c.put-a.result) c.from.ensures in
    let p = refused-put c.args.number c.requires c.put-a.ensures number c.put-c.ensures in
    omega (arith, p.behind, p.short, p.same, c.requires)

pub returns : goal.returns
returns c =
    let number = c.number-b.ensures ∙ ap (λ (k : ℕ). placed (decimal 20 k) c.put-a.new.out c.put-a.result) c.from.ensures in
    refusal-put c.args.number c.requires (refused-put c.args.number c.requires c.put-a.ensures number c.put-c.ensures)
    c.put_sentence-d.ensures c.put.ensures
