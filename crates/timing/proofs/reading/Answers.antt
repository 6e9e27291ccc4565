-- `timing::reading` meets its contract. Assumes nothing.
use mathlib.Core.Path.{◌∙◌}
use Rattle.timing.specs.Numbers.{reading_of}
use Rattle.timing.proofs.reading.Goals as goal

pub returns-then-res : goal.returns-then-res
unfolding reading_of
returns-then-res c = rw (c.if-res.true, ← c.result-given.ensures) c.min.ensures

pub returns : goal.returns
unfolding reading_of
returns c = rw c.if-res.false (c.from.ensures ∙ c.open_units.ensures)
