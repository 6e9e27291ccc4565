-- `timing::reading_in` meets its contract. Assumes nothing.
use mathlib.Core.Bool.{false≢true}
use Rattle.timing.proofs.reading_in.Goals as goal

pub returns-in-Some : goal.returns-in-Some
returns-in-Some c = rw c.in-Some.is (λ held. c.reading.ensures)

pub returns-in-None : goal.returns-in-None
returns-in-None c = rw c.in-None.is (λ held. absurd (false≢true held))
