-- `feed::read_again` meets its contract. Assumes nothing.
use Rattle.std.proofs.Common.{◌≡◌, take}
use Rattle.feed.proofs.read_again.Given as goal

abbrev pub invariant-loop : goal.invariant-loop
invariant-loop l = take l.at l.buf ≡ take l.at l.initial.buf
