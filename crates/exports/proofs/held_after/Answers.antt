-- `exports::held_after` meets its contract. Assumes nothing.
use Rattle.exports.proofs.held_after.Goals as goal

pub returns : goal.returns
returns c = c.replay.ensures.held
