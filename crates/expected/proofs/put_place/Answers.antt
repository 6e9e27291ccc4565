-- `expected::put_place` meets its contract. Assumes nothing.
use Rattle.std.proofs.Common.{sym, refl, ◌∙◌, arith}
use Rattle.forms.proofs.Puts.{put-none, put_as}
use Rattle.expected.specs.Shares.{place_text}
use Rattle.expected.proofs.put_place.Goals as goal

pub returns-then-has : goal.returns-then-has
unfolding place_text
returns-then-has c = rw (sym c.has.ensures ∙ c.if-has.true, ← c.from.ensures) c.put_member.ensures

pub returns : goal.returns
unfolding place_text
returns c = rw (sym c.has.ensures ∙ c.if-has.false) (put_as 88 (omega arith) refl (put-none _ _))
