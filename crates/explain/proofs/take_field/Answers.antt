-- `explain::take_field` meets its contract: what is held is what the ledger holds after the field. Assumes nothing.
use Rattle.std.proofs.Common.{ap, ◌∙◌}
use Rattle.case.specs.declared.Applied.{Applied}
use Rattle.case.specs.Cases.{take_asked, applied}
use Rattle.explain.proofs.take_field.Goals as goal

pub returns : goal.returns
unfolding applied
returns c =
    ap (λ (x : Applied). x.held) (c.take-applied.ensures ∙ ap (take_asked c.args.held) c.read_call-call.ensures)
