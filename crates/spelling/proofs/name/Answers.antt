-- `spelling::name` meets its contract. Assumes nothing.
use Rattle.std.proofs.Common.{ℕ, [], get_or, ap, ◌∙◌, arith}
use Rattle.spelling.specs.Words.{names, name_of}
use Rattle.spelling.proofs.Tables.{entry-now, any-default}
use Rattle.spelling.proofs.name.Goals as goal

pub returns : goal.returns
unfolding name_of
returns c =
    rw entry-now (any-default names c.from.result _ [] (omega (arith, c.from.ensures)) ∙ ap (λ (t : ℕ). get_or names t []) c.from.ensures)
