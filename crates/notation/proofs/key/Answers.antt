-- `notation::key` meets its contract. Assumes nothing.
use mathlib.Core.Path.{sym}
use Prim.Native.Nat.{◌+◌, ◌*◌}
use native.Mathlib.Omega.{arith}
use Rattle.notation.proofs.Codes.{row_in, key-high, key-past, key_in}
use Rattle.notation.proofs.key.Goals as goal
use Rattle.notation.proofs.key.Goals.{then-tag-ge16-via-then-tag-ge16, then-tag-ge16-via-else-tag-ge16+then-i-ge8}

pub returns-then-tag-ge16 : goal.returns-then-tag-ge16
returns-then-tag-ge16 c =
    elim c.then-tag-ge16.branch [
      | then-tag-ge16-via-then-tag-ge16 w ↦ sym (key-high _ _ w.if-tag-ge16.true)
      | then-tag-ge16-via-else-tag-ge16+then-i-ge8 w ↦ sym (key-past _ _ w.if-tag-ge16.false w.if-i-ge8.true)
    ]

pub bounds-n : goal.bounds-n
bounds-n c = omega (arith, c.from-n.ensures, row_in (c.from.result * 8 + c.args.i))

pub returns : goal.returns
returns c = rw (c.from-n.ensures, c.from.ensures) (sym (key_in c.args.tag c.args.i c.if-tag-ge16.false c.if-i-ge8.false))
