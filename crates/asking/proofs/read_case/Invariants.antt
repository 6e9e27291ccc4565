-- `asking::read_case` meets its contract. Assumes nothing.
use Rattle.input.specs.Fields.{rest}
use Rattle.case.specs.Input.{HeldAfter}
use Rattle.feed.specs.Feeds.{Fed}
use Rattle.asking.proofs.read_case.Given as goal

abbrev pub invariant-loop : goal.invariant-loop
invariant-loop l = Fed rest (HeldAfter l.held) l.buf l.len
