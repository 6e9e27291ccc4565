-- `report::write_result` meets its contract. Assumes nothing.
use mathlib.Core.Path.{ap, ◌∙◌}
use mathlib.Core.List.{List, map}
use Rattle.machine.specs.Printed.{Line}
use Rattle.report.proofs.Placing.{line-next}
use Rattle.report.proofs.Lines.{result-lines}
use Rattle.report.specs.Texts.{placed_lines, l_line_of, m_line_of}
use Rattle.sets.specs.Set.{members}
use Rattle.report.proofs.write_result.Goals as goal

pub returns : goal.returns
returns c =
    let a = c.args in
    c.write_members.ensures
    ∙ line-next (l_line_of a.res) (map (m_line_of a.res) (members a.set)) a.out.now a.at _ _ c.write_loss-to.ensures
    ∙ ap (λ (ls : List Line). placed_lines ls a.out.now a.at) (result-lines a.res a.set)
