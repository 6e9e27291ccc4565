-- `sets::Iter::next` meets its contract: what is left begins with its least member, and goes on without it. Assumes nothing.
use mathlib.Core.Path.{ap, ◌∙◌}
use native.Mathlib.Omega.{arith}
use Rattle.sets.specs.Set.{members}
use Rattle.sets.proofs.Bits.{members-none}
use Rattle.sets.proofs.Members.{Taken, taken, next-below}
use Rattle.sets.proofs.IterIterator.next.Goals as goal
use Rattle.sets.proofs.IterIterator.next.Goals.{After-without_least-self, After-next-least}

-- the least member, known and taken off
least-taken : (c : After-without_least-self) → Taken c.args.self.now.left c.next-least.result c.without_least-self.result
least-taken c = taken _ _ _ c.if-self-eq0.false (omega arith) c.next-least.ensures c.without_least-self.ensures

pub returns-then-self-eq0-clause-steps : goal.returns-then-self-eq0-clause-steps
returns-then-self-eq0-clause-steps c = let e = ap members c.if-self-eq0.true ∙ members-none in (e, e)

pub overflow_cast-least : goal.overflow_cast-least
overflow_cast-least c = let below = next-below _ _ c.if-self-eq0.false (omega arith) c.next-least.ensures in omega (arith, below)

pub returns-clause-steps : goal.returns-clause-steps
returns-clause-steps c = (least-taken (goal.at.returns-clause-steps c).After-without_least-self).cons

pub returns-clause-goes : goal.returns-clause-goes
returns-clause-goes c = let t = least-taken (goal.at.returns-clause-goes c).After-without_least-self in record {
  on = λ _. (tt, tt, t.shorter);
  keeps = tt;
  rests = λ _. tt;
}
