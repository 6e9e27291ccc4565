-- `to_fields::put_end` meets its contract. Assumes nothing.
use Rattle.to_fields.proofs.Ends.{cut_off}
use Rattle.to_fields.proofs.put_end.Goals as goal

pub returns : goal.returns
returns c =
    cut_off _ _ _ _ _ _ c.requires.0 c.requires.1 c.put-to.ensures c.put.ensures
