-- `waterfall::with_senior` meets its contract, by what `is_senior` answers. Assumes nothing.
use Rattle.waterfall.proofs.with_senior.Goals as goal

pub returns-then-is_senior : goal.returns-then-is_senior
returns-then-is_senior c = simp (← c.is_senior.ensures, c.if-is_senior.true) c.with.ensures

pub returns-else-is_senior : goal.returns-else-is_senior
returns-else-is_senior c = simp (← c.is_senior.ensures, c.if-is_senior.false)
