-- `to_fields::no_call` meets its contract. Assumes nothing.
use Rattle.to_fields.proofs.Lines.{is-unknown}
use Rattle.to_fields.proofs.no_call.Goals as goal

pub returns : goal.returns
returns c = is-unknown _
