use mathlib.Core.Path.{ap}
use native.Mathlib.Omega.{arith}
use lib.ListN.{length}
use borrow.Author.Rules.{rules}
use Rattle.lines.proofs.Numbers.{text-end, length-next}
use Rattle.lines.proofs.width.Goals as goal

pub loop-n-preserved : goal.loop-n-preserved
loop-n-preserved c =
    let l = c.loop-n in
    let d = c.digits.ensures in
    (omega (arith, d.1), omega (arith, d.0, length-next l.n-index c.args.numbers.now (search rules)))

pub returns : goal.returns
returns c =
    let l = c.loop-n in
    let e = ap length (text-end l.n-index c.args.numbers.now (omega arith)) in
    (omega (arith, e), omega arith)
