-- `waterfall::Holdings::of_rank` meets its contract. The loop is that of `Writes` (sets): what is written so far, with the members still left
-- written too, is the whole. Assumes nothing.
use mathlib.Core.Path.{◌≡◌}
use mathlib.Core.List.{List}
use Prim.Native.Nat.{ℕ}
use lib.Dec.{eqb}
use Rattle.lists.specs.Lists.{when◌then◌else◌}
use Rattle.sets.specs.Set.{members, of_members}
use Rattle.sets.proofs.Writes.{write_all}
use Rattle.waterfall.specs.Limits.{rank_at, held_at}
use Rattle.waterfall.proofs.Holdings.of_rank.Given as goal

-- what stands at each member
abbrev pub weight : List ℕ → List ℕ → ℕ → ℕ → ℕ
weight ranks holds r m = when eqb r (rank_at ranks m) then held_at holds m else 0

abbrev pub invariant-loop-m : goal.invariant-loop-m
invariant-loop-m l = write_all (weight l.self.ranks l.self.holds l.r) (members l.m-iterator.left) l.out ≡ of_members l.self.set (weight l.self.ranks l.self.holds l.r)
