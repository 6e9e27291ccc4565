-- `accounts::members::without_pools` meets its contract. Assumes nothing.
use Rattle.std.proofs.Common.{◌%◌, false, get_or, rules}
use borrow.Author.Tests.{tests}
use Rattle.lists.specs.Lists.{when◌then◌else◌}
use Rattle.lists.proofs.Made.{made}
use Rattle.accounts.specs.Members.{without_pools}
use Rattle.accounts.proofs.members.without_pools.Goals as goal

pub returns : goal.returns
unfolding without_pools
returns c =
    made _ (λ k. when get_or c.args.out (k % 4) false then 0 else get_or c.args.xs k 0) (λ k y f h. search (rules, tests)) c.from_fn.result 128 0 c.from_fn.ensures.items
