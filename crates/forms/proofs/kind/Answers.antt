-- `forms::kind` meets its contract. Assumes nothing.
use Rattle.std.proofs.Common.{sym}
use Rattle.forms.proofs.Table.{kind-high, kind-past, kind-in}
use Rattle.forms.proofs.kind.Goals as goal
use Rattle.forms.proofs.kind.Goals.{then-tag-ge16-via-then-tag-ge16, then-tag-ge16-via-else-tag-ge16+then-i-ge8}

pub returns-then-tag-ge16 : goal.returns-then-tag-ge16
returns-then-tag-ge16 c =
    elim c.then-tag-ge16.branch [
      | then-tag-ge16-via-then-tag-ge16 w ↦ sym (kind-high _ _ w.if-tag-ge16.true)
      | then-tag-ge16-via-else-tag-ge16+then-i-ge8 w ↦ sym (kind-past _ _ w.if-tag-ge16.false w.if-i-ge8.true)
    ]

pub returns : goal.returns
returns c =
    let a = c.args in
    rw c.from.ensures (sym (kind-in a.tag a.i c.if-tag-ge16.false c.if-i-ge8.false))
