-- `exports::show_none` meets its contract. Assumes nothing.
use mathlib.Core.Path.{refl}
use Rattle.exports.specs.Showing.{none_shown}
use Rattle.exports.proofs.show_none.Goals as goal

pub returns : goal.returns
unfolding none_shown
returns c = refl
