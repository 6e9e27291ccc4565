-- `report::write_member` meets its contract. Assumes nothing.
use mathlib.Core.Path.{ap, ◌∙◌}
use Rattle.machine.specs.Printed.{Line}
use Rattle.lines.specs.Placed.{placed, line_text}
use Rattle.report.proofs.Lines.{m-line}
use borrow.Author.Rules.{rules}
use Rattle.report.proofs.write_member.Goals as goal

pub returns : goal.returns
returns c =
    let a = c.args in
    rw (c.from.ensures, c.from-2.ensures) at c.write_line.ensures
    ∙ ap (λ (l : Line). placed (line_text l) a.out.now a.at) (m-line a.res a.m _ _ _ (search rules) (search rules) (search rules))
