-- `to_fields::next_line` meets its contract. Assumes nothing.
use Rattle.std.proofs.Common.{sym, refl, arith, length-take-le}
use Rattle.text_lines.proofs.Lines.{size-most}
use Rattle.to_fields.proofs.Lines.{next-none, next-is}
use Rattle.to_fields.proofs.next_line.Goals as goal

pub returns-then-room-lt-FIELD : goal.returns-then-room-lt-FIELD
returns-then-room-lt-FIELD c = next-none _ _ _ _ c.if-room-lt-FIELD.true c.no_call.ensures

pub slice_bounds-read_piece-end : goal.slice_bounds-read_piece-end
slice_bounds-read_piece-end c =
    sym (length-take-le _ _ (omega (arith, size-most c.args.last c.args.input.now, c.line_size-size.ensures)))

pub returns : goal.returns
returns c =
    next-is _ _ _ _ _ _ _ c.if-room-lt-FIELD.false c.line_size-size.ensures refl c.read_piece-read.ensures c.line_of.ensures
