-- `words::right` meets its contract. Assumes nothing.
use mathlib.Core.Path.{ap, ◌∙◌}
use Prim.Native.Nat.{ℕ}
use Rattle.lines.specs.Placed.{Placed, placed}
use Rattle.words.specs.Columns.{blanks, placed_right}
use Rattle.words.proofs.right.Goals as goal

pub returns : goal.returns
unfolding placed_right
returns c =
    let a = c.args in
    c.put.ensures
    ∙ ap (λ (p : Placed). placed a.word.now p.1 p.0) c.spaces-to.ensures
    ∙ ap (λ (k : ℕ). let p = placed (blanks k) a.out.now a.at in placed a.word.now p.1 p.0) c.saturating_sub.ensures
