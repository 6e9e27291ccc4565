-- `text_lines::line_size` meets its contract. Assumes nothing.
use Rattle.text_lines.proofs.Lines.{size-last}
use Rattle.text_lines.proofs.line_size.Goals as goal

pub returns-then-last : goal.returns-then-last
returns-then-last c =
    size-last _ _ _ c.length_to-n.ensures c.if-n-gt-LONGEST.false c.if-n-input.false c.if-last.true
