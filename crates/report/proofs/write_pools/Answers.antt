use mathlib.Core.Path.{refl, sym, ap, ◌∙◌}
use mathlib.Core.List.{List}
use Prim.Native.Nat.{◌+◌}
use borrow.Author.Rules.{rules}
use Rattle.machine.specs.Printed.{Line}
use Rattle.report.proofs.Placing.{tab_from, from_start, from_next, from_end, line-next, lines_none}
use Rattle.report.specs.Texts.{placed_lines, p_line_of}
use Rattle.report.proofs.write_pools.Goals as goal

pub loop-pool-init : goal.loop-pool-init
loop-pool-init c =
    let a = c.args in
    (refl, ap (λ (ls : List Line). placed_lines ls a.out.now a.at) (from_start a.case.book.pools.given (p_line_of a.case)))

pub loop-pool-preserved : goal.loop-pool-preserved
loop-pool-preserved c =
    let a = c.args in
    let l = c.loop-pool in
    let f = p_line_of a.case in
    let n = a.case.book.pools.given in (
      search rules,
      line-next (f l.pool) (tab_from (l.pool + 1) n f) l.out l.to _ _ c.write_pool-to.ensures
          ∙ ap (λ (ls : List Line). placed_lines ls l.out l.to) (sym (from_next l.pool n f (search rules)))
          ∙ l.invariant.1,
    )

pub returns : goal.returns
returns c =
    let a = c.args in
    let l = c.loop-pool in
    lines_none l.out l.to
    ∙ ap (λ (ls : List Line). placed_lines ls l.out l.to) (sym (from_end l.pool a.case.book.pools.given (p_line_of a.case) (search rules)))
    ∙ l.invariant.1
