-- `from_lines::finish` meets its contract. Assumes nothing.
use Rattle.std.proofs.Common.{refl, ◌∙◌}
use Rattle.from_lines.proofs.Ends.{accepted-is, finish-not, finish-done}
use Rattle.from_lines.proofs.finish.Goals as goal

pub returns-then-part-rest : goal.returns-then-part-rest
returns-then-part-rest c =
    let t = c.take_some-part in
    finish-not _ _ _ _ _ t.result t.ensures _ _ c.requires.2 c.requires.1 c.if-part-rest.true

pub returns : goal.returns
returns c =
    let t = c.take_some-part in
    rw (c.is_ok.ensures.value ∙ accepted-is c.end.result) (finish-done _ _ _ _ _ t.result t.ensures _ _ _ _ _ _ c.requires.0 c.if-part-rest.false refl c.take_days.ensures c.end.ensures)
