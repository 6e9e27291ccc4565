-- `report::write_loss` meets its contract. Assumes nothing.
use mathlib.Core.Path.{ap, ◌∙◌}
use Rattle.machine.specs.Printed.{Line}
use Rattle.lines.specs.Placed.{placed, line_text}
use Rattle.report.proofs.Lines.{l-line}
use borrow.Author.Rules.{rules}
use Rattle.report.proofs.write_loss.Goals as goal

pub returns : goal.returns
returns c =
    let a = c.args in
    c.write_line.ensures
    ∙ ap (λ (l : Line). placed (line_text l) a.out.now a.at) (l-line a.res (search rules))
