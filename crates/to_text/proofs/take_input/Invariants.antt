-- `to_text::take_input` meets its contract. Assumes nothing.
use Rattle.to_text.specs.Turns.{FedTo}
use Rattle.to_text.proofs.take_input.Given as goal

abbrev pub invariant-loop : goal.invariant-loop
invariant-loop l = FedTo l.buf l.len
