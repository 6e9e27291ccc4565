-- `accounts::members::add_shares` meets its contract. The invariant: what is added so far, with the shares of the members still left added too,
-- is the whole. Assumes nothing.
use mathlib.Core.Path.{◌≡◌}
use Rattle.sets.specs.Set.{members}
use Rattle.accounts.specs.Members.{add_shares}
use Rattle.accounts.proofs.members.add_shares.Given as goal

abbrev pub invariant-loop-m : goal.invariant-loop-m
invariant-loop-m l = add_shares l.pool l.shares (members l.m-iterator.left) l.xs ≡ add_shares l.pool l.shares (members l.set) l.initial.xs
