-- `case::Case::round` meets its contract. Assumes nothing.
use mathlib.Core.Path.{sym, ◌∙◌}
use Rattle.wire.specs.Asked.{asked}
use Rattle.wire.specs.declared.Call.TheVariants.{Round}
use Rattle.case.proofs.Outcomes.{declined, accepted, reserves-answered, reserves-after}
use Rattle.case.proofs.Case.round.Goals as goal

pub returns-in-Err : goal.returns-in-Err
returns-in-Err c = declined c.args.self (asked (Round c.args.n c.args.p c.args.q c.args.r c.args.s)) _ (c.in-Err.ensures ∙ reserves-answered _ _ _ _ _ _) _ c.declined.ensures

pub returns-in-Ok : goal.returns-in-Ok
returns-in-Ok c = accepted c.args.self (asked (Round c.args.n c.args.p c.args.q c.args.r c.args.s)) (c.in-Ok.ensures ∙ reserves-answered _ _ _ _ _ _) _ (rw (c.take_round-more.ensures, c.reserve_if-in-Ok-3.ensures, c.reserve_if-in-Ok-2.ensures, c.reserve_if-in-Ok.ensures, c.reserve_if.ensures, c.next_round.ensures, c.round_of.ensures) (reserves-after c.args.self _ _ _ _ _ (sym (c.in-Ok.ensures ∙ reserves-answered _ _ _ _ _ _)))) _ c.accepted.ensures
