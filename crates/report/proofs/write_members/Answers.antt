use mathlib.Core.Path.{sym, ap, ◌∙◌}
use mathlib.Core.List.{List, map}
use Prim.Native.Nat.{ℕ}
use Rattle.sets.specs.Set.{members}
use Rattle.report.proofs.Placing.{line-next, lines_none}
use Rattle.report.specs.Texts.{placed_lines, m_line_of}
use Rattle.report.proofs.write_members.Goals as goal

pub loop-m-preserved : goal.loop-m-preserved
loop-m-preserved c =
    let l = c.loop-m in
    let f = m_line_of c.args.res in (
      c.write_member-to.auto.out ∙ l.invariant.0,
      line-next (f c.in-Some.m) (map f (members c.next.new.self.left)) l.out l.to _ _ c.write_member-to.ensures
          ∙ ap (λ (ms : List ℕ). placed_lines (map f ms) l.out l.to) (sym c.in-Some.ensures.steps)
          ∙ l.invariant.1,
    )

pub returns : goal.returns
returns c =
    let l = c.loop-m in
    lines_none l.out l.to
    ∙ ap (λ (ms : List ℕ). placed_lines (map (m_line_of c.args.res) ms) l.out l.to) (sym c.in-None.ensures.steps.0)
    ∙ l.invariant.1
