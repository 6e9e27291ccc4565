-- `report::write_pool` meets its contract. Assumes nothing.
use mathlib.Core.Path.{ap, ◌∙◌}
use Rattle.machine.specs.Printed.{Line}
use Rattle.lines.specs.Placed.{placed, line_text}
use Rattle.report.proofs.Lines.{p-line}
use Rattle.report.proofs.write_pool.Goals as goal

pub returns : goal.returns
returns c = let a = c.args in rw c.from.ensures at c.write_line.ensures ∙ ap (λ (l : Line). placed (line_text l) a.out.now a.at) (p-line a.case a.pool _ _ _ _ _ c.count.ensures c.count-2.ensures c.count-3.ensures c.count-4.ensures c.count-5.ensures)
