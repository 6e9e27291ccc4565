-- `rows::next_day` meets its contract. Assumes nothing.
use mathlib.Core.Path.{sym, refl}
use native.Mathlib.Omega.{arith}
use lib.Seq.{length-take-le}
use Rattle.text_lines.proofs.Lines.{size-most}
use Rattle.rows.proofs.Days.{next-none, next-empty, next-refused, next-is}
use Rattle.rows.proofs.next_day.Goals as goal

pub returns-then-room-lt-RECORD : goal.returns-then-room-lt-RECORD
returns-then-room-lt-RECORD c = next-none _ _ _ _ c.if-room-lt-RECORD.true

pub slice_bounds-read_day-end : goal.slice_bounds-read_day-end
slice_bounds-read_day-end c =
    sym (length-take-le c.line_size-size.result c.args.input.now (omega (arith, size-most c.args.last c.args.input.now, c.line_size-size.ensures)))

pub returns-then-size-eq0 : goal.returns-then-size-eq0
returns-then-size-eq0 c = next-empty _ _ _ _ _ c.if-room-lt-RECORD.false c.line_size-size.ensures c.if-size-eq0.true

pub returns-in-Ok : goal.returns-in-Ok
returns-in-Ok c = (next-is _ _ _ _ _ c.if-room-lt-RECORD.false c.line_size-size.ensures _ _ refl c.in-Ok.ensures, c.if-size-eq0.false)

pub returns-in-Err : goal.returns-in-Err
returns-in-Err c = next-refused _ _ _ _ _ c.if-room-lt-RECORD.false c.line_size-size.ensures _ _ refl c.in-Err.ensures
