-- `accounts::members::amounts` meets its contract. The invariant and its laws are those of a sum over members (`Rattle.sets.proofs.Adding`), and
-- a bound on the sum that keeps it within a u64. Assumes nothing.
use Prim.Native.Nat.{◌+◌, ◌*◌, ◌≤◌}
use lib.ListN.{length, get_or}
use Rattle.lists.specs.Adding.{most32}
use Rattle.sets.specs.Set.{members}
use Rattle.sets.proofs.Adding.{Adding}
use Rattle.accounts.proofs.members.amounts.Given as goal

abbrev pub invariant-loop-m : goal.invariant-loop-m
invariant-loop-m l = Adding (λ m. get_or l.xs m 0) l.set l.total l.m-iterator.left × (l.total + most32 * length (members l.m-iterator.left) ≤ most32 * 32)
