-- `from_records::take_input` meets its contract. Assumes nothing.
use Rattle.std.proofs.Common.{length}
use Rattle.sets.specs.Set.{members}
use Rattle.feed.specs.Feeds.{Fed}
use Rattle.from_records.specs.Turns.{left_of, Reached}
use Rattle.from_records.proofs.take_input.Given as goal

abbrev pub invariant-loop : goal.invariant-loop
invariant-loop l =
    Fed (left_of (length (members l.set))) (Reached (length (members l.set)) (record { row = l.row; ring = l.ring; sums = l.sums })) l.buf l.len
