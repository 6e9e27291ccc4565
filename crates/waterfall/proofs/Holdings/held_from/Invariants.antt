-- `waterfall::Holdings::held_from` meets its contract. The invariant and its laws are those of a sum over members (`Rattle.sets.proofs.Adding`), and no
-- sum passes 32 times the limit of a holding. Assumes nothing.
use mathlib.Core.List.{List}
use Prim.Native.Nat.{ℕ}
use lib.Dec.{leb}
use Rattle.lists.specs.Lists.{when◌then◌else◌}
use Rattle.sets.proofs.Adding.{Adding}
use Rattle.waterfall.specs.Limits.{rank_at, held_at}
use Rattle.waterfall.proofs.Holdings.held_from.Given as goal

-- what each member adds
abbrev pub adds : List ℕ → List ℕ → ℕ → ℕ → ℕ
adds ranks holds r m = when leb r (rank_at ranks m) then held_at holds m else 0

abbrev pub invariant-loop-m : goal.invariant-loop-m
invariant-loop-m l = Adding (adds l.self.ranks l.self.holds l.r) l.self.set l.total l.m-iterator.left
