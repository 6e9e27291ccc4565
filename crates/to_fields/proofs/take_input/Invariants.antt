-- `to_fields::take_input` meets its contract. Assumes nothing.
use Rattle.std.proofs.Common.{◌≤◌}
use Rattle.to_fields.specs.Turns.{FedTo}
use Rattle.to_fields.proofs.take_input.Given as goal

abbrev pub invariant-loop : goal.invariant-loop
invariant-loop l = FedTo l.buf l.lines l.len × (l.len ≤ 65536)
