-- The rounds held, over the program's struct, and as the machine has them. What belongs to pool p in round k + 1 stands at place 4 × k + p.
use Rattle.std.specs.Prelude.{Bool, true, false, ◌&&◌, List, ℕ, ◌+◌, ◌-◌, ◌*◌, min, leb, ltb, get_or, replicate}
use Rattle.lists.specs.Lists.{when◌then◌else◌, between, tab}
use Rattle.machine.specs.State as M
use Rattle.accounts.specs.Fours.{put_four}
use Rattle.accounts.specs.declared.rounds.Rounds.{Rounds}

unfoldable pub no_rounds : Rounds
no_rounds = record { held = 0; reserves = replicate 8 0; opened = replicate 8 false }

-- the next round with its reserves, and whether each pool has open units, where there is room
unfoldable pub put_round : Rounds → List ℕ → List Bool → Rounds
put_round x reserves opened =
    when ltb x.held 2 then
    record {
      held = x.held + 1;
      reserves = put_four x.reserves x.held (get_or reserves 0 0) (get_or reserves 1 0) (get_or reserves 2 0) (get_or reserves 3 0);
      opened = put_four x.opened x.held (get_or opened 0 false) (get_or opened 1 false) (get_or opened 2 false) (get_or opened 3 false);
    }
    else x

-- the reserve of a pool in a round, and 0 where there is none
unfoldable pub reserve_of : Rounds → ℕ → ℕ → ℕ
reserve_of x round pool = when between 1 2 round && ltb pool 4 then get_or x.reserves (4 * (round - 1) + pool) 0 else 0

-- the lower of two reserves, each counted only where its pool had open units; 0 where neither counts
unfoldable pub worst_in : Bool → ℕ → Bool → ℕ → ℕ
worst_in true first true second = min first second
worst_in true first false second = first
worst_in false first true second = second
worst_in false first false second = 0

-- "the lower of those of the rounds in which it had open units"
unfoldable pub worst_of : Rounds → ℕ → ℕ
worst_of x pool =
    when ltb pool 4 then
    worst_in (leb 1 x.held && get_or x.opened pool false) (get_or x.reserves pool 0)
    (leb 2 x.held && get_or x.opened (pool + 4) false) (get_or x.reserves (pool + 4) 0)
    else 0

-- the worst reserve of each pool
unfoldable pub worsts_of : Rounds → List ℕ
worsts_of x = tab 4 (worst_of x)

-- as the machine has them, in a case of so many pools
abbrev pub view_rounds : ℕ → Rounds → List M.Round
view_rounds pools x =
    tab x.held
    (λ k.
    record {
      reserves = tab pools (λ p. get_or x.reserves (4 * k + p) 0);
      opened = tab pools (λ p. get_or x.opened (4 * k + p) false);
    })
