-- `rows::scanned` meets its contract. The invariant: what is read and what is left are the line. Assumes nothing.
use mathlib.Core.Path.{◌≡◌}
use lib.ListN.{drop}
use Rattle.rows.specs.Scans.{begin}
use Rattle.rows.specs.Reading.{scan}
use Rattle.rows.proofs.scanned.Given as goal

abbrev pub invariant-loop-i : goal.invariant-loop-i
invariant-loop-i l = scan l.least l.most l.limit l.s l.i (drop l.i l.line) ≡ scan l.least l.most l.limit begin 0 l.line
