-- `to_text::last_text` meets its contract. Assumes nothing.
use Rattle.to_text.proofs.Turning.{cut-none, cut-there}
use Rattle.to_text.proofs.last_text.Goals as goal

pub returns-then-rest-eq0 : goal.returns-then-rest-eq0
returns-then-rest-eq0 c = cut-none _ _ c.if-rest-eq0.true

pub returns : goal.returns
returns c =
    cut-there _ _ _ _ c.if-rest-eq0.false c.requires c.put_field.ensures
