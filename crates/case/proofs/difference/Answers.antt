-- `case::difference` meets its contract. Assumes nothing.
use mathlib.Core.Path.{◌∙◌}
use mir.Facts.{to_z-of_z}
use Rattle.case.proofs.Signed.{minus_is, minus-fits}
use Rattle.case.proofs.difference.Goals as goal

pub overflow_sub-result : goal.overflow_sub-result
overflow_sub-result c = minus-fits _ _ c.requires.0 c.requires.1

pub returns : goal.returns
returns c = to_z-of_z (minus-fits c.args.a c.args.b c.requires.0 c.requires.1) ∙ minus_is c.args.a c.args.b c.requires.0 c.requires.1
