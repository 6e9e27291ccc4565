-- `rows::read_day` meets its contract. Assumes nothing.
use Rattle.std.specs.Prelude.{Err}
use mathlib.Core.Path.{sym, refl, ap}
use native.Mathlib.Omega.{arith}
use lib.Seq.{length-take-le}
use Rattle.text_lines.proofs.Lines.{to-most}
use Rattle.rows.proofs.Days.{day-long, day-there}
use Rattle.rows.proofs.read_day.Goals as goal

pub returns-then-k-gt-LONGEST : goal.returns-then-k-gt-LONGEST
returns-then-k-gt-LONGEST c = day-long _ _ _ c.length_to-k.ensures _ c.if-k-gt-LONGEST.true (ap Err c.too_long.ensures)

pub slice_bounds-read_row-end : goal.slice_bounds-read_row-end
slice_bounds-read_row-end c =
    sym (length-take-le c.length_to-k.result c.args.line.now (omega (arith, to-most c.args.line.now, c.length_to-k.ensures)))

pub returns : goal.returns
returns c = day-there _ _ _ c.length_to-k.ensures _ _ c.if-k-gt-LONGEST.false refl c.read_row.ensures
