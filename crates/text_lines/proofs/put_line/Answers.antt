-- `text_lines::put_line` meets its contract. Assumes nothing.
use mathlib.Core.Path.{ap, ◌∙◌}
use mathlib.Core.List.{List}
use Prim.Native.Nat.{ℕ}
use native.Mathlib.Omega.{arith}
use Rattle.lines.specs.Placed.{placed}
use Rattle.text_lines.proofs.Lines.{end-within}
use Rattle.text_lines.proofs.Starts.{start-most, line-lent}
use borrow.Author.Rules.{rules}
use Rattle.text_lines.proofs.put_line.Goals as goal

pub slice_bounds-length_to-count : goal.slice_bounds-length_to-count
slice_bounds-length_to-count c = omega (arith, c.start_of-start.ensures, start-most c.args.k c.args.text.now)

pub slice_bounds-length_to-start : goal.slice_bounds-length_to-start
slice_bounds-length_to-start c = let w = start-most c.args.k c.args.text.now in search (rules, w)

pub overflow_add-end : goal.overflow_add-end
overflow_add-end c =
    let w = end-within c.args.text.now _ _ (omega (arith, c.start_of-start.ensures, start-most c.args.k c.args.text.now)) c.length_to.ensures in search (rules, w)

pub slice_bounds-put-end : goal.slice_bounds-put-end
slice_bounds-put-end c = end-within c.args.text.now _ _ (omega (arith, c.start_of-start.ensures, start-most c.args.k c.args.text.now)) c.length_to.ensures

pub returns : goal.returns
returns c =
    let a = c.args in
    c.put.ensures
    ∙ ap (λ (l : List ℕ). placed l a.out.now a.at) (line-lent a.text.now a.k _ _ c.start_of-start.ensures c.length_to.ensures)
