-- `spelling::put_members` meets its contract. Assumes nothing.
use mathlib.Core.Path.{ap, ◌∙◌}
use native.Mathlib.Omega.{arith}
use Rattle.sets.specs.Set.{members}
use Rattle.sets.proofs.Members.{taken}
use Rattle.sets.proofs.Bits.{members-none as none-of-none}
use Rattle.forms.proofs.Puts.{put_as, put_then}
use Rattle.machine.specs.Printed.{decimal}
use Rattle.spelling.specs.Text.{more_text}
use Rattle.spelling.proofs.Texts.{members-next, members-none}
use Rattle.spelling.proofs.put_members.Goals as goal

pub returns-then-set-eq0 : goal.returns-then-set-eq0
returns-then-set-eq0 c = put_as 692 (omega arith) (members-none _ (ap members c.if-set-eq0.true ∙ none-of-none)) c.put.ensures

pub returns : goal.returns
returns c =
    let a = c.args in
    let m = c.from-m.ensures ∙ c.next.ensures in
    let t = taken a.set c.from-m.result c.without_least-rest.result c.if-set-eq0.false c.ranges.set.fits m c.without_least-rest.ensures in
    put_as 692 (omega arith) (members-next a.set c.from-m.result c.without_least-rest.result t.cons)
    (put_then (decimal 20 c.from-m.result) (more_text (members c.without_least-rest.result)) c.put_decimal-a.ensures c.put_more.ensures)
