-- `wire::right_length` meets its contract. ROUND has lengths of its own; every other tag has one. Assumes nothing.
use Rattle.std.proofs.Common.{sym, arith}
use Rattle.std.proofs.lemmas.Bool.Decides.{nat_tests}
use Rattle.wire.proofs.Numbers.{length-round, length-other}
use Rattle.wire.proofs.right_length.Goals as goal
use Rattle.wire.proofs.right_length.Goals.{then-n-ge4, else-n-ge4}

pub returns-then-n-le16 : goal.returns-then-n-le16
returns-then-n-le16 c =
    rw (length-round c.args.tag c.args.n c.if-tag-eq4.true)
    (elim c.if-n-ge4.branch [ then-n-ge4 w ↦ grind (arith, nat_tests) | else-n-ge4 w ↦ grind (arith, nat_tests) ])

pub returns-else-n-le16 : goal.returns-else-n-le16
returns-else-n-le16 c =
    rw (length-round c.args.tag c.args.n c.if-tag-eq4.true)
    (elim c.if-n-ge4.branch [ then-n-ge4 w ↦ grind (arith, nat_tests) | else-n-ge4 w ↦ grind (arith, nat_tests) ])

pub returns : goal.returns
returns c = rw (c.from-2.ensures, c.from.ensures) (sym (length-other c.args.tag c.args.n c.if-tag-eq4.false))
