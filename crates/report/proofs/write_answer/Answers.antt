-- `report::write_answer` meets its contract. Assumes nothing.
use mathlib.Core.Path.{ap, ◌∙◌}
use Rattle.machine.specs.Printed.{Line}
use Rattle.lines.specs.Placed.{placed, line_text}
use Rattle.report.proofs.Lines.{s-line}
use Rattle.report.proofs.write_answer.Goals as goal

pub returns : goal.returns
returns c =
    let a = c.args in
    rw (c.from.ensures, c.from-2.ensures) at c.write_line.ensures
    ∙ ap (λ (l : Line). placed (line_text l) a.out.now a.at) (s-line a.tag a.answer)
