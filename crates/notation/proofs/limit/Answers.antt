-- `notation::limit` meets its contract. Assumes nothing.
use mathlib.Core.Path.{sym}
use native.Mathlib.Omega.{arith}
use Rattle.notation.proofs.Codes.{limit-high, limit-small, limit-in}
use Rattle.notation.proofs.limit.Goals as goal

pub returns-then-kind-ge6 : goal.returns-then-kind-ge6
returns-then-kind-ge6 c = (sym (limit-high _ c.if-kind-ge6.true), omega arith)

pub returns : goal.returns
returns c = (rw c.from.ensures (sym (limit-in _)), limit-small c.from.result)
