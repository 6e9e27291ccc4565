-- `to_fields::finish` meets its contract. Assumes nothing.
use Rattle.to_fields.proofs.Ends.{finish-cut, finish-good}
use Rattle.to_fields.proofs.finish.Goals as goal

pub returns-then-not-ended : goal.returns-then-not-ended
returns-then-not-ended c = finish-cut _ _ _ c.refuse.ensures

pub returns-then-part-rest : goal.returns-then-part-rest
returns-then-part-rest c =
    finish-good _ _ _ c.take_some-part.result c.take_some-part.ensures c.if-part-rest.true

pub returns : goal.returns
returns c = finish-cut _ _ _ c.refuse-2.ensures
