-- `words::spaces` meets its contract. Assumes nothing.
use Rattle.std.proofs.Common.{ℕ, take, replicate, ap, ◌∙◌}
use Rattle.lines.specs.Placed.{placed}
use Rattle.words.specs.Columns.{blanks}
use Rattle.words.proofs.spaces.Goals as goal

pub returns : goal.returns
unfolding blanks
returns c =
    let a = c.args in
    c.put.ensures ∙ ap (λ (k : ℕ). placed (take k (replicate 64 32)) a.out.now a.at) c.min.ensures
