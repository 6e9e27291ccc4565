-- The pools given, over the program's struct, and as the machine has them.
use Rattle.std.specs.Prelude.{List, ℕ, ◌+◌, ltb, get_or, set, replicate}
use Rattle.lists.specs.Lists.{when◌then◌else◌, tab}
use Rattle.machine.specs.State as M
use Rattle.accounts.specs.declared.pools.Pools.{Pools}

unfoldable pub no_pools : Pools
no_pools = record { given = 0; units = replicate 4 0; marks = replicate 4 0 }

-- the next pool, where there is room
unfoldable pub put_pool : Pools → ℕ → ℕ → Pools
put_pool x units mark =
    when ltb x.given 4 then
    record { given = x.given + 1; units = set x.units x.given units; marks = set x.marks x.given mark }
    else x

abbrev pub view_pools : Pools → List M.Pool
view_pools x = tab x.given (λ p. record { units = get_or x.units p 0; mark = get_or x.marks p 0 })
