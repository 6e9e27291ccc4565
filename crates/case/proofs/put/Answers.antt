-- `case::put` meets its contract. Assumes nothing.
use mathlib.Core.Path.{sym}
use lib.Seq.{set_out}
use Rattle.case.proofs.put.Goals as goal

pub returns-else-k-run : goal.returns-else-k-run
returns-else-k-run g c = sym (set_out _ _ _ c.if-k-run.false)
