-- `positions::spread` meets its contract. The invariant: the places passed hold the numbers of their members. Assumes nothing.
use Rattle.std.proofs.Common.{◌≡◌, ◌≤◌}
use lib.Seq.{sets}
use Rattle.lists.specs.Lists.{count_to, tab}
use Rattle.sets.specs.Set.{member}
use Rattle.positions.proofs.Ends.{placed}
use Rattle.positions.proofs.spread.Given as goal

abbrev pub invariant-loop-m : goal.invariant-loop-m
invariant-loop-m l =
    (l.j ≡ count_to l.m (member l.set)) × (l.j ≤ l.m) × (l.shares ≡ sets l.initial.shares 0 (tab l.m (placed l.set l.xs)))
