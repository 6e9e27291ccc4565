-- `accounts::bids::Bids::new` meets its contract. Assumes nothing.
use mathlib.Core.Path.{refl}
use Rattle.accounts.specs.Bids.{no_bids}
use Rattle.accounts.proofs.bids.Bids.new.Goals as goal

pub returns : goal.returns
unfolding no_bids
returns c = refl
