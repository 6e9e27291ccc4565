-- `waterfall::charge_by_rank` meets its contract. The loop is that of `Writes` (sets): what is written so far, with the members still left
-- written too, is the whole. Assumes nothing.
use mathlib.Core.Path.{◌≡◌}
use mathlib.Core.List.{List}
use Prim.Native.Nat.{ℕ}
use Rattle.sets.specs.Set.{members, of_members}
use Rattle.sets.proofs.Writes.{write_all}
use Rattle.waterfall.specs.Charging.{charged_by_rank}
use Rattle.waterfall.specs.Limits.{rank_at, held_at}
use Rattle.waterfall.proofs.charge_by_rank.Given as goal

-- what each member is charged
abbrev pub charge : ℕ → List ℕ → List ℕ → ℕ → ℕ → ℕ
charge set ranks holds whole = charged_by_rank set (rank_at ranks) (held_at holds) whole

abbrev pub invariant-loop-m : goal.invariant-loop-m
invariant-loop-m l = write_all (charge l.members.set l.members.ranks l.members.holds l.whole) (members l.m-iterator.left) l.out ≡ of_members l.members.set (charge l.members.set l.members.ranks l.members.holds l.whole)
