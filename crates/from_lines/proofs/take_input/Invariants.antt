-- `from_lines::take_input` meets its contract. Assumes nothing.
use Rattle.std.proofs.Common.{false}
use Rattle.from_lines.specs.Turns.{count, kept_in, FedTo}
use Rattle.from_lines.proofs.take_input.Given as goal

abbrev pub invariant-loop : goal.invariant-loop
invariant-loop l = FedTo (count l.set) l.buf l.lines (kept_in l.days) false l.len
