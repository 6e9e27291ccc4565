-- `from_lines::run_to_end` meets its contract. Assumes nothing.
use Rattle.std.proofs.Common.{refl, rules}
use Rattle.positions.specs.Keeping.{no_days}
use Rattle.from_lines.proofs.Turning.{fed-unended}
use Rattle.from_lines.proofs.Ends.{gives-unknown, gives-refused, gives-end}
use Rattle.from_lines.proofs.run_to_end.Goals as goal

pub take_input-requires : goal.take_input-requires
unfolding no_days
take_input-requires c = (c.requires.1, search rules, refl)

pub returns-in_default : goal.returns-in_default
returns-in_default c = gives-unknown _ _ _

pub returns-then-rest : goal.returns-then-rest
returns-then-rest c =
    let rest = c.in-Ok.rest in
    gives-refused _ _ c.requires.0 _ _ _ rest.lines rest.len rest.refused c.in-Ok.ensures.fed c.if-rest.true

pub finish-requires : goal.finish-requires
finish-requires c =
    let rest = c.in-Ok.rest in
    (c.requires.0, search rules, fed-unended _ _ rest.lines rest.len _ rest.refused c.in-Ok.ensures.fed c.if-rest.false)

pub returns : goal.returns
returns c =
    let rest = c.in-Ok.rest in
    gives-end _ _ c.requires.0 _ _ _ _ _ rest.lines rest.len rest.refused c.finish.result c.in-Ok.ensures.fed refl c.finish.ensures
