use Rattle.std.proofs.Common.{arith}
use Rattle.to_text.proofs.Texts.{hex-starts, hex-goes, hex-ends}
use Rattle.to_text.proofs.put_bytes.Goals as goal

pub loop-i-init : goal.loop-i-init
loop-i-init c = hex-starts _ _ _

pub loop-i-preserved : goal.loop-i-preserved
loop-i-preserved c = hex-goes _ _ _ _ _ _ c.loop-i.invariant c.loop-i-test.true _ _ c.put_byte-to.ensures

pub returns : goal.returns
returns c = hex-ends _ _ _ _ _ _ c.loop-i.invariant c.loop-i-test.false (omega arith)
