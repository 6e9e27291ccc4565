-- `from_lines::tell_refused` is safe and ends. Assumes nothing.
use Rattle.std.proofs.Common.{sym, arith, length-take-le}
use Rattle.text_lines.proofs.Lines.{size-most}
use Rattle.from_lines.proofs.tell_refused.Goals as goal

pub slice_bounds-read_day-end : goal.slice_bounds-read_day-end
slice_bounds-read_day-end c =
    sym (length-take-le _ _ (omega (arith, size-most c.args.last c.args.text.now, c.line_size-size.ensures)))
