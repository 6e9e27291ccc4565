-- `to_fields::line_of` meets its contract. Assumes nothing.
use Rattle.to_fields.proofs.Lines.{is-nothing, is_call, is-refused}
use Rattle.to_fields.proofs.line_of.Goals as goal

pub returns-in-Nothing : goal.returns-in-Nothing
returns-in-Nothing c = is-nothing _ _ _ c.in-Nothing.is c.no_call.ensures

pub returns-in-Called : goal.returns-in-Called
returns-in-Called c = is_call _ _ _ c.in-Called.is

pub returns-in-Refused : goal.returns-in-Refused
returns-in-Refused c = is-refused _ _ _ c.in-Refused.is c.no_call-in-Refused.ensures
