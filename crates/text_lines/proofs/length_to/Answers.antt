-- `text_lines::length_to` meets its contract. Assumes nothing.
use Rattle.std.proofs.Common.{ap, ◌∙◌, length}
use Rattle.std.specs.Option.{unwrap_or}
use Rattle.text_lines.proofs.Lines.{to-found}
use Rattle.text_lines.proofs.length_to.Goals as goal

pub returns : goal.returns
returns c =
    c.unwrap_or.ensures ∙ ap (λ r. unwrap_or r (length c.args.input.now)) c.line_end.ensures ∙ to-found c.args.input.now
