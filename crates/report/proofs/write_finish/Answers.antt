-- `report::write_finish` meets its contract. Assumes nothing.
use mathlib.Core.List.{List}
use mathlib.Core.Path.{ap, ◌∙◌}
use Rattle.machine.specs.Printed.{Line}
use Rattle.report.specs.Texts.{placed_lines}
use Rattle.report.proofs.Placing.{lines_none}
use Rattle.report.proofs.Lines.{not-finished, finished}
use Rattle.report.proofs.write_finish.Goals as goal

pub returns-then-letter-ne5 : goal.returns-then-letter-ne5
returns-then-letter-ne5 c = let a = c.args in lines_none a.out.now a.at ∙ ap (λ (ls : List Line). placed_lines ls a.out.now a.at) (not-finished a.case _ c.letter.ensures c.if-letter-ne5.true)

pub returns : goal.returns
returns c = let a = c.args in c.write_result.ensures ∙ ap (λ (ls : List Line). placed_lines ls a.out.now a.at) (finished a.case _ c.letter.ensures c.if-letter-ne5.false _ c.result.ensures)
