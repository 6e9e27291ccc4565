-- `case::answer_in` meets its contract. Assumes nothing.
use mathlib.Core.Path.{◌∙◌}
use Rattle.case.proofs.Outcomes.{reserves-answered}
use Rattle.case.proofs.answer_in.Goals as goal

pub returns-in-Round : goal.returns-in-Round
returns-in-Round c = rw c.in-Round.is (c.reserves_answer.ensures ∙ reserves-answered _ _ _ _ _ _)
