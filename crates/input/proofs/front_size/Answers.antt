-- `input::front_size` meets its contract. Assumes nothing.
use mathlib.Core.Path.{◌∙◌}
use native.Mathlib.Omega.{arith}
use Rattle.input.proofs.Fields.{front-short, front_cut, front-whole}
use Rattle.input.proofs.front_size.Goals as goal

pub returns-then-n-lt3 : goal.returns-then-n-lt3
returns-then-n-lt3 c = c.all_if.ensures ∙ front-short _ _ c.if-n-lt3.true

pub returns-then-n-size : goal.returns-then-n-size
returns-then-n-size c = c.all_if-then-n-size.ensures ∙ front_cut _ _ c.if-n-lt3.false _ (omega arith) c.if-n-size.true

pub returns-else-n-size : goal.returns-else-n-size
returns-else-n-size c = front-whole _ _ c.if-n-lt3.false _ (omega arith) c.if-n-size.false
