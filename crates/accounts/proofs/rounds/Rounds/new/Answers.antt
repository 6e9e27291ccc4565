-- `accounts::rounds::Rounds::new` meets its contract. Assumes nothing.
use mathlib.Core.Path.{refl}
use Rattle.accounts.specs.Rounds.{no_rounds}
use Rattle.accounts.proofs.rounds.Rounds.new.Goals as goal

pub returns : goal.returns
unfolding no_rounds
returns c = refl
