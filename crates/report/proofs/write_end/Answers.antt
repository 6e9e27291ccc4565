-- `report::write_end` meets its contract. Assumes nothing.
use mathlib.Core.List.{List}
use mathlib.Core.Path.{refl, ap, ◌∙◌}
use Rattle.std.specs.Prelude.{Some, None}
use Rattle.lists.specs.Lists.{tab}
use Rattle.machine.specs.Printed.{Line}
use Rattle.report.specs.Texts.{p_line_of, finish_lines, placed_lines}
use Rattle.report.proofs.Placing.{lines_none, lines_then}
use Rattle.report.proofs.Lines.{held-some, held_none}
use Rattle.report.proofs.write_end.Goals as goal

pub returns-in-Some : goal.returns-in-Some
returns-in-Some c =
    let a = c.args in
    let case = c.in-Some.case in
    rw c.in-Some.is
    (lines_then (tab case.book.pools.given (p_line_of case)) (finish_lines case) a.out.now _ _ a.at _ _ c.write_pools-to.ensures c.write_finish.ensures
    ∙ ap (λ (ls : List Line). placed_lines ls a.out.now a.at) (held-some (Some case) refl))

pub returns-in-None : goal.returns-in-None
returns-in-None c =
    let a = c.args in
    rw c.in-None.is (lines_none a.out.now a.at ∙ ap (λ (ls : List Line). placed_lines ls a.out.now a.at) (held_none None refl))
