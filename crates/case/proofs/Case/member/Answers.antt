-- `case::Case::member` meets its contract. Assumes nothing.
use mathlib.Core.Path.{ap}
use mathlib.Core.Option.{some}
use mathlib.Core.List.{[], ◌∷◌}
use Rattle.machine.specs.Wire.{MEMBER}
use Rattle.case.specs.Cases.{case_of, case_answer_to, case_answer, after_asked, case_after}
use Rattle.case.proofs.Outcomes.{declined, accepted}
use Rattle.case.proofs.Case.member.Goals as goal

pub returns-in-Err : goal.returns-in-Err
unfolding case_answer_to case_answer
returns-in-Err c = declined c.args.self (some (MEMBER c.args.m c.args.contribution (c.args.p ∷ c.args.q ∷ c.args.r ∷ c.args.s ∷ []))) _ c.in-Err.ensures _ c.declined.ensures

pub returns-in-Ok : goal.returns-in-Ok
unfolding case_answer_to case_answer after_asked case_after
returns-in-Ok c = accepted c.args.self (some (MEMBER c.args.m c.args.contribution (c.args.p ∷ c.args.q ∷ c.args.r ∷ c.args.s ∷ []))) c.in-Ok.ensures _ (ap (case_of c.args.self.stage) c.take_member.ensures) _ c.accepted.ensures
