-- `to_fields::run_to_end` meets its contract. Assumes nothing.
use Rattle.std.proofs.Common.{refl}
use Rattle.to_fields.proofs.Ends.{ends-not, ends}
use Rattle.to_fields.proofs.run_to_end.Goals as goal

pub returns-in_err-rest : goal.returns-in_err-rest
returns-in_err-rest c = ends-not _ _ _ c.from_residual.ensures.1

pub returns : goal.returns
returns c = ends _ _ _ _ _ c.finish.result c.in_ok-rest.ensures.fed refl c.finish.ensures
