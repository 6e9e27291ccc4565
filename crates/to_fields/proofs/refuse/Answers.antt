-- `to_fields::refuse` meets its contract. Assumes nothing.
use Rattle.std.proofs.Common.{sym, arith, length-take-le}
use Rattle.text_lines.proofs.Lines.{size-most}
use Rattle.to_fields.proofs.refuse.Goals as goal

pub slice_bounds-read_piece-end : goal.slice_bounds-read_piece-end
slice_bounds-read_piece-end c =
    sym (length-take-le _ _ (omega (arith, size-most c.args.last c.args.text.now, c.line_size-size.ensures)))
