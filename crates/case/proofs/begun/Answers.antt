-- `case::begun` meets its contract. Assumes nothing.
use mathlib.Core.Bool.{false}
use mathlib.Core.Path.{ap, ◌∙◌}
use Rattle.wire.specs.Asked.{asked}
use Rattle.case.specs.declared.Case.{Case}
use Rattle.case.specs.Cases.{after_asked}
use Rattle.case.proofs.begun.Goals as goal

pub returns : goal.returns
returns c = λ e. c.after.ensures false e ∙ ap (λ (x : Case). after_asked x (asked c.args.call)) c.empty.ensures
