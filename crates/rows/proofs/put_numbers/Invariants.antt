-- `rows::put_numbers` meets its contract. The invariant: what is put and what is left make up the record. Assumes nothing.
use Prim.Native.Nat.{◌*◌}
use lib.ListN.{drop}
use Rattle.forms.proofs.Puts.{Putting}
use Rattle.rows.specs.Days.{four_each}
use Rattle.rows.proofs.put_numbers.Given as goal

abbrev pub invariant-loop-n : goal.invariant-loop-n
invariant-loop-n l = Putting l.initial.out l.at (four_each l.numbers) (four_each (drop l.n-index l.numbers)) (l.n-index * 4) l.to l.out
