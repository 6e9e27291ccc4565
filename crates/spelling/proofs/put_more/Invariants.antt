-- `spelling::put_more` meets its contract. The invariant: what is put and what is left make up the text. Assumes nothing.
use Prim.Native.Nat.{◌*◌, ◌-◌}
use lib.ListN.{length}
use Rattle.forms.proofs.Puts.{Putting}
use Rattle.sets.specs.Set.{members}
use Rattle.spelling.specs.Text.{more_text}
use Rattle.spelling.proofs.put_more.Given as goal

abbrev pub invariant-loop-m : goal.invariant-loop-m
invariant-loop-m l =
    Putting l.initial.out l.at (more_text (members l.set)) (more_text (members l.m-iterator.left)) ((32 - length (members l.m-iterator.left)) * 21) l.to l.out
