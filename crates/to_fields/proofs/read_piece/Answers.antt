-- `to_fields::read_piece` meets its contract. Assumes nothing.
use Rattle.std.proofs.Common.{sym, refl, arith, length-take-le}
use Rattle.text_lines.proofs.Lines.{to-most}
use Rattle.to_fields.proofs.Lines.{read-long, read-there}
use Rattle.to_fields.proofs.read_piece.Goals as goal

pub returns-then-n-gt-LONGEST : goal.returns-then-n-gt-LONGEST
returns-then-n-gt-LONGEST c = read-long _ _ c.length_to-n.ensures c.if-n-gt-LONGEST.true

pub slice_bounds-read_line-end : goal.slice_bounds-read_line-end
slice_bounds-read_line-end c = sym (length-take-le _ _ (omega (arith, to-most c.args.line.now, c.length_to-n.ensures)))

pub returns : goal.returns
returns c =
    read-there _ _ c.length_to-n.ensures _ _ c.if-n-gt-LONGEST.false refl c.read_line.ensures
