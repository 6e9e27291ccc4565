-- The members, over the program's struct, and as the machine has them. What belongs to member m in pool p stands at place 4 × m + p.
use Rattle.std.specs.Prelude.{Bool, false, List, [], ◌∷◌, ℕ, ◌+◌, ◌-◌, ◌*◌, ◌%◌, ltb, get_or, set, replicate}
use Rattle.lists.specs.Lists.{when◌then◌else◌, sum_to, tab, any}
use Rattle.lists.specs.Adding.{most16, most32, add_at}
use Rattle.sets.specs.Set.{member, members, with_member, of_members}
use Rattle.machine.specs.State as M
use Rattle.accounts.specs.Fours.{put_four}
use Rattle.accounts.specs.declared.members.Members.{Members}

unfoldable pub no_members : Members
no_members =
    record {
      given = 0;
      moved = 0;
      contribution = replicate 32 0;
      called = replicate 32 0;
      paid = replicate 32 0;
      expected = replicate 128 0;
      allocated = replicate 128 0;
      won = replicate 128 0;
    }

-- ---- readings

-- "It owes its call less payments, and 0 after MOVE."
unfoldable pub owes_of : Members → ℕ → ℕ
owes_of x m = when member x.moved m then 0 else get_or x.called m 0 - get_or x.paid m 0

unfoldable pub someone_owes_in : Members → ℕ → Bool
someone_owes_in x set = any (λ m. ltb 0 (owes_of x m)) (members set)

-- "expected units less units won less units ever allocated to it by this call, all in that pool, at least 0"
unfoldable pub shortfall_at : List ℕ → List ℕ → List ℕ → ℕ → ℕ → ℕ
shortfall_at expected won allocated pool m =
    get_or expected (4 * m + pool) 0 - get_or won (4 * m + pool) 0 - get_or allocated (4 * m + pool) 0

-- the shortfalls of a set's members in a pool, 0 at the other places and in a pool that no case has
unfoldable pub shortfalls_of : ℕ → List ℕ → List ℕ → List ℕ → ℕ → List ℕ
shortfalls_of set expected won allocated pool =
    of_members set (λ m. when ltb pool 4 then shortfall_at expected won allocated pool m else 0)

-- over the four pools
unfoldable pub over_pools_at : List ℕ → ℕ → ℕ
over_pools_at xs m = sum_to 4 (λ p. get_or xs (4 * m + p) 0)

unfoldable pub over_pools : List ℕ → List ℕ
over_pools xs = tab 32 (over_pools_at xs)

-- by pool, with 0 in the pools that are left out
unfoldable pub without_pools : List ℕ → List Bool → List ℕ
without_pools xs out = tab 128 (λ k. when get_or out (k % 4) false then 0 else get_or xs k 0)

-- ---- changes

-- MEMBER
unfoldable pub put_member : Members → ℕ → ℕ → ℕ → ℕ → ℕ → ℕ → Members
put_member x m contribution a b c d =
    when ltb m 32 then
    record {
      given = with_member x.given m;
      moved = x.moved;
      contribution = set x.contribution m contribution;
      called = x.called;
      paid = x.paid;
      expected = put_four x.expected m a b c d;
      allocated = x.allocated;
      won = x.won;
    }
    else x

-- the shares of members added in a pool, each sum held to 16 bits
unfoldable pub add_shares : ℕ → List ℕ → List ℕ → List ℕ → List ℕ
add_shares pool shares [] xs = xs
add_shares pool shares (m ∷ ms) xs = add_shares pool shares ms (add_at most16 xs (4 * m + pool) (get_or shares m 0))

-- ALLOCATE
unfoldable pub with_shares : Members → ℕ → ℕ → List ℕ → Members
with_shares x set pool shares =
    record {
      given = x.given;
      moved = x.moved;
      contribution = x.contribution;
      called = x.called;
      paid = x.paid;
      expected = x.expected;
      allocated = when ltb pool 4 then add_shares pool shares (members set) x.allocated else x.allocated;
      won = x.won;
    }

-- CALL
abbrev pub with_calls : Members → List ℕ → Members
with_calls x calls =
    record {
      given = x.given;
      moved = x.moved;
      contribution = x.contribution;
      called = calls;
      paid = x.paid;
      expected = x.expected;
      allocated = x.allocated;
      won = x.won;
    }

-- PAY
abbrev pub with_payment : Members → ℕ → ℕ → Members
with_payment x m amount =
    record {
      given = x.given;
      moved = x.moved;
      contribution = x.contribution;
      called = x.called;
      paid = add_at most32 x.paid m amount;
      expected = x.expected;
      allocated = x.allocated;
      won = x.won;
    }

-- MOVE
abbrev pub with_move : Members → ℕ → Members
with_move x m =
    record {
      given = x.given;
      moved = with_member x.moved m;
      contribution = x.contribution;
      called = x.called;
      paid = x.paid;
      expected = x.expected;
      allocated = x.allocated;
      won = x.won;
    }

-- CLOSE: the units won by member and pool
abbrev pub with_won : Members → List ℕ → Members
with_won x won =
    record {
      given = x.given;
      moved = x.moved;
      contribution = x.contribution;
      called = x.called;
      paid = x.paid;
      expected = x.expected;
      allocated = x.allocated;
      won = won;
    }

-- ---- as the machine has them

abbrev pub member_of : Members → ℕ → M.Member
member_of x m =
    record {
      given = member x.given m;
      contribution = get_or x.contribution m 0;
      expected = tab 4 (λ p. get_or x.expected (4 * m + p) 0);
      allocated = tab 4 (λ p. get_or x.allocated (4 * m + p) 0);
      called = get_or x.called m 0;
      paid = get_or x.paid m 0;
      moved = member x.moved m;
    }

abbrev pub view_members : Members → List M.Member
view_members x = tab 32 (member_of x)
