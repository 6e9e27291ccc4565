-- `explain::take_input` meets its contract. Assumes nothing.
use Rattle.case.specs.Input.{HeldAfter}
use Rattle.input.specs.Fields.{rest}
use Rattle.feed.specs.Feeds.{Fed}
use Rattle.explain.proofs.take_input.Given as goal

abbrev pub invariant-loop : goal.invariant-loop
invariant-loop l = Fed rest (HeldAfter l.held) l.buf l.len
