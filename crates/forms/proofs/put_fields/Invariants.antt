-- `forms::put_fields` meets its contract. The invariant: what is put and what is left make up the value. Assumes nothing.
use Rattle.std.proofs.Common.{◌*◌, drop}
use Rattle.forms.proofs.Puts.{Putting}
use Rattle.forms.specs.Encode.{value_from}
use Rattle.forms.proofs.put_fields.Given as goal

abbrev pub invariant-loop-i : goal.invariant-loop-i
invariant-loop-i l = Putting l.initial.out l.at (value_from l.tag 0 l.numbers) (value_from l.tag l.i (drop l.i l.numbers)) (l.i * 4) l.to l.out
