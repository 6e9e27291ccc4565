-- What ALLOCATE and CALL split among the members is given out whole, to members of the set only, and to none more than its weight. Assumes nothing.
use mathlib.Core.Path.{◌≡◌}
use mathlib.Core.Bool.{false}
use mathlib.Core.List.{map}
use Prim.Native.Nat.{ℕ, ◌+◌, ◌-◌, ◌≤◌, min}
use native.Mathlib.Omega.{arith}
use lib.ListN.{get_or}
use Rattle.lists.specs.Lists.{sum}
use Rattle.sets.specs.Set.{members}
use Rattle.splitting.proofs.Among.{shares-kept-sum, share-off, share-le}
use Rattle.machine.specs.Roll.{open_units}
use Rattle.machine.specs.State.{Case, in_set, member_list, member_at}
use Rattle.machine.specs.Requirement.{requirement, prefunded, contribution_of, contributions}
use Rattle.machine.specs.Calls.{shortfall, total_shortfall, allocation, after_allocate, calls}
use Rattle.machine.proofs.Giving.{shares-open}

module _ (c : Case) where
  pub allocation-sum : (pool : ℕ) → sum (map (λ m. get_or (allocation c pool) m 0) (member_list c.head)) ≡ min (open_units c.roll pool) (total_shortfall c pool)
  unfolding allocation total_shortfall members
  allocation-sum pool = shares-kept-sum 32 (in_set c.head) (min (open_units c.roll pool) (total_shortfall c pool)) (shortfall c pool) (omega arith)

  -- the pool's open units fall by as many
  pub allocate-gives : (pool price : ℕ)
      → open_units (after_allocate c pool price).roll pool + min (open_units c.roll pool) (total_shortfall c pool) ≡ open_units c.roll pool
  unfolding after_allocate
  allocate-gives pool price =
      let whole = allocation-sum pool in
      omega (arith, whole, shares-open pool price (allocation c pool) (member_list c.head) c.roll (omega (arith, whole)))

  -- no member is allocated more than it is short of
  pub allocation-le : (pool m : ℕ) → get_or (allocation c pool) m 0 ≤ shortfall c pool m
  unfolding allocation total_shortfall members
  allocation-le pool m =
      share-le 32 (in_set c.head) (min (open_units c.roll pool) (total_shortfall c pool)) (shortfall c pool) (omega arith) m

  pub allocation-outside : (pool m : ℕ) → in_set c.head m ≡ false → get_or (allocation c pool) m 0 ≡ 0
  unfolding allocation
  allocation-outside pool m off = share-off 32 (in_set c.head) (min (open_units c.roll pool) (total_shortfall c pool)) (shortfall c pool) m off

  pub calls-sum : sum (map (λ m. get_or (calls c) m 0) (member_list c.head)) ≡ min (requirement c - prefunded c) (contributions c)
  unfolding calls contributions members
  calls-sum = shares-kept-sum 32 (in_set c.head) (min (requirement c - prefunded c) (contributions c)) (contribution_of c) (omega arith)

  -- no member is called for more than its contribution
  pub call-le : (m : ℕ) → get_or (calls c) m 0 ≤ (member_at c.members m).contribution
  unfolding calls contributions members
  call-le m =
      share-le 32 (in_set c.head) (min (requirement c - prefunded c) (contributions c)) (contribution_of c) (omega arith) m

  pub calls-outside : (m : ℕ) → in_set c.head m ≡ false → get_or (calls c) m 0 ≡ 0
  unfolding calls
  calls-outside m off = share-off 32 (in_set c.head) (min (requirement c - prefunded c) (contributions c)) (contribution_of c) m off
