-- `spelling::separator` meets its contract. Assumes nothing.
use Rattle.std.proofs.Common.{ℕ, ◌+◌, ◌*◌, [], get_or, ap, ◌∙◌, arith}
use Rattle.spelling.specs.Words.{separator}
use Rattle.spelling.proofs.Tables.{entry-now, any-default, separators, separator-at}
use Rattle.spelling.proofs.separator.Goals as goal

pub returns : goal.returns
unfolding separator
returns c =
    let a = c.args in
    rw entry-now
    (any-default separators (c.from.result * 8 + a.i) _ [] (omega (arith, c.from.ensures))
    ∙ ap (λ (t : ℕ). get_or separators (t * 8 + a.i) []) c.from.ensures
    ∙ separator-at a.tag a.i c.requires.0 c.requires.1)
