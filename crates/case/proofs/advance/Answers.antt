-- `case::advance` meets its contract. Assumes nothing.
use Rattle.std.specs.Prelude.{Some}
use mathlib.Core.Bool.{true}
use mathlib.Core.Path.{ap}
use Rattle.case.specs.declared.Case.{Case}
use Rattle.case.specs.Cases.{Held, answer_to}
use Rattle.case.proofs.advance.Goals as goal

-- a case, as what is held
abbrev held : Case → Held
held c = Some c

pub returns-in-Some : goal.returns-in-Some
unfolding answer_to
returns-in-Some c = rw c.in-Some.is (λ e. ap held (c.step.ensures true e))

pub returns-in-None : goal.returns-in-None
unfolding answer_to
returns-in-None c = rw c.in-None.is (λ e. ap held (c.begun.ensures e))
