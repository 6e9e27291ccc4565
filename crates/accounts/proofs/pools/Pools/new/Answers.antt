-- `accounts::pools::Pools::new` meets its contract. Assumes nothing.
use mathlib.Core.Path.{refl}
use Rattle.accounts.specs.Pools.{no_pools}
use Rattle.accounts.proofs.pools.Pools.new.Goals as goal

pub returns : goal.returns
unfolding no_pools
returns c = refl
