-- `accounts::members::over_pools` meets its contract. Assumes nothing.
use Rattle.std.proofs.Common.{rules}
use Rattle.lists.proofs.Made.{made}
use Rattle.accounts.specs.Members.{over_pools_at, over_pools}
use Rattle.accounts.proofs.members.over_pools.Goals as goal

pub returns : goal.returns
unfolding over_pools
returns c = made _ (over_pools_at c.args.xs) (λ k y f h. search rules) c.from_fn.result 32 0 c.from_fn.ensures.items
