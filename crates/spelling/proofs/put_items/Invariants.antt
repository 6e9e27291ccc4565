-- `spelling::put_items` meets its contract. The invariant: what is put and what is left make up the text. Assumes nothing.
use Prim.Native.Nat.{◌*◌}
use lib.ListN.{drop}
use Rattle.forms.proofs.Puts.{Putting}
use Rattle.spelling.specs.Text.{items_text}
use Rattle.spelling.proofs.put_items.Given as goal

abbrev pub invariant-loop-i : goal.invariant-loop-i
invariant-loop-i l = Putting l.initial.out l.at (items_text l.tag 0 l.numbers) (items_text l.tag l.i (drop l.i l.numbers)) (l.i * 708) l.to l.out
