-- `accounts::members::shortfalls` meets its contract. The loop is that of `Writes` (sets): what is written so far, with the members still left
-- written too, is the whole. Assumes nothing.
use mathlib.Core.Path.{◌≡◌}
use Prim.Native.Nat.{ℕ, ◌≤◌}
use lib.ListN.{get_or}
use Rattle.lists.specs.Adding.{most16}
use Rattle.sets.specs.Set.{members, of_members}
use Rattle.sets.proofs.Writes.{write_all}
use Rattle.accounts.specs.Members.{shortfall_at}
use Rattle.accounts.proofs.members.shortfalls.Given as goal

abbrev pub invariant-loop-m : goal.invariant-loop-m
invariant-loop-m l = (write_all (shortfall_at l.expected l.won l.allocated l.pool) (members l.m-iterator.left) l.out ≡ of_members l.set (shortfall_at l.expected l.won l.allocated l.pool)) × ((k : ℕ) → get_or l.out k 0 ≤ most16)
