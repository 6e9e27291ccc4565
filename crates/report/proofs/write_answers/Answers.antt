use mathlib.Core.Path.{◌≡◌, refl, sym, ap, ◌∙◌}
use mathlib.Core.List.{List, [], ◌∷◌}
use Prim.Native.Nat.{◌+◌}
use lib.ListN.{length, get_or}
use native.Mathlib.Numerals.{add-one}
use Rattle.machine.specs.Printed.{Line, s_line}
use Rattle.lines.specs.Placed.{placed, line_text}
use Rattle.report.specs.Texts.{answer_line, placed_lines}
use Rattle.report.proofs.Placing.{tab_from, from_start, from_next, from_end, lines_none, line-next}
use borrow.Author.Rules.{rules}
use Rattle.report.proofs.write_answers.Goals as goal

pub loop-k-init : goal.loop-k-init
loop-k-init c = let a = c.args in (refl, refl, ap (λ (ls : List Line). placed_lines ls a.out.now a.at) (from_start (length a.ends.now) (answer_line a.input.now a.ends.now a.answers.now)))

pub loop-k-preserved : goal.loop-k-preserved
unfolding answer_line
loop-k-preserved c =
    let a = c.args in
    let l = c.loop-k in
    let n = length a.ends.now in
    let f = answer_line a.input.now a.ends.now a.answers.now in
    let tag : c.unwrap_or.result ≡ get_or a.input.now l.start 0 = search rules in
    let line : s_line (c.unwrap_or.result ∷ []) (get_or a.answers.now l.k 0) ≡ f l.k = rw (tag, l.invariant.0) in (
      rw (add-one l.k) refl,
      c.write_answer-to.auto.out ∙ l.invariant.1,
      line-next (f l.k) (tab_from (l.k + 1) n f) l.out l.to _ _ (c.write_answer-to.ensures ∙ ap (λ (x : Line). placed (line_text x) l.out l.to) line)
          ∙ ap (λ (ls : List Line). placed_lines ls l.out l.to) (sym (from_next l.k n f (search rules)))
          ∙ l.invariant.2,
    )

pub returns : goal.returns
returns c = let a = c.args in let l = c.loop-k in lines_none l.out l.to ∙ ap (λ (ls : List Line). placed_lines ls l.out l.to) (sym (from_end l.k (length a.ends.now) (answer_line a.input.now a.ends.now a.answers.now) (search rules))) ∙ l.invariant.2
