-- `stream::take_input` meets its contract. Assumes nothing.
use Rattle.std.proofs.Common.{◌*◌, ◌≤◌, length}
use Rattle.stream.specs.Turns.{FedTo}
use Rattle.stream.proofs.take_input.Given as goal

abbrev pub invariant-loop : goal.invariant-loop
invariant-loop l = FedTo l.buf l.held l.len × (4 * length l.buf ≤ length l.out)
