use mathlib.Core.Path.{ap, ◌∙◌}
use Prim.Native.Nat.{ℕ}
use native.Mathlib.Omega.{arith}
use Rattle.text_lines.specs.Lines.{start_of}
use Rattle.text_lines.proofs.Lines.{line-within}
use Rattle.text_lines.proofs.Starts.{start_first, start-next}
use borrow.Author.Rules.{rules}
use Rattle.text_lines.proofs.start_of.Goals as goal

pub loop-init : goal.loop-init
loop-init c = (omega arith, start_first _)

pub overflow_add-at : goal.overflow_add-at
overflow_add-at c = let w = line-within c.args.text.now _ _ c.loop.invariant.0 c.line_size-at.ensures in search (rules, w)

pub loop-preserved : goal.loop-preserved
loop-preserved c =
    let l = c.loop in
    let text = c.args.text.now in
    (line-within text _ _ l.invariant.0 c.line_size-at.ensures, start-next text l.counter l.at _ l.invariant.1 c.line_size-at.ensures)

pub returns : goal.returns
returns c =
    let l = c.loop in
    l.invariant.1 ∙ ap (λ (j : ℕ). start_of j c.args.text.now) {x = l.counter} {y = c.args.k} (omega arith)
