-- `report::write_cut` meets its contract. Assumes nothing.
use mathlib.Core.Path.{ap, ◌∙◌}
use Rattle.report.proofs.Placing.{lines_none, lines-one}
use Rattle.report.proofs.Lines.{cut-none, cut-some}
use mathlib.Core.List.{List, [], ◌∷◌}
use Rattle.machine.specs.Printed.{Line, s_line}
use Rattle.report.specs.Texts.{placed_lines}
use Rattle.report.proofs.write_cut.Goals as goal

pub returns-in-None : goal.returns-in-None
returns-in-None c = let a = c.args in lines_none a.out.now a.at ∙ ap (λ (ls : List Line). placed_lines ls a.out.now a.at) (cut-none a.rest.now c.in-None.ensures.value)

pub returns-in-Some : goal.returns-in-Some
returns-in-Some c =
    let a = c.args in
    c.write_answer.ensures
    ∙ lines-one (s_line (c.in-Some.tag.now ∷ []) 1) a.out.now a.at
    ∙ ap (λ (ls : List Line). placed_lines ls a.out.now a.at) (cut-some a.rest.now c.in-Some.tag.now c.in-Some.ensures.value)
