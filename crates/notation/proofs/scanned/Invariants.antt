-- `notation::scanned` meets its contract. The invariant: what is read and what is left are the line. Assumes nothing.
use mathlib.Core.Path.{◌≡◌}
use lib.ListN.{drop}
use Rattle.notation.specs.Scans.{begin}
use Rattle.notation.specs.Reading.{scan}
use Rattle.notation.proofs.scanned.Given as goal

abbrev pub invariant-loop-i : goal.invariant-loop-i
invariant-loop-i l = scan l.s l.i (drop l.i l.line) ≡ scan begin 0 l.line
