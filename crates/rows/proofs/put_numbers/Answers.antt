use Prim.Native.Nat.{◌+◌, ◌*◌}
use native.Mathlib.Omega.{arith}
use lib.ListN.{get_or}
use Rattle.forms.specs.Encode.{bytes_of}
use Rattle.forms.proofs.Puts.{put-into, putting-start, putting-turn, putting-end, putting-most}
use Rattle.rows.proofs.Days.{four-next, four-none, four-long}
use Rattle.rows.proofs.put_numbers.Goals as goal

pub loop-n-init : goal.loop-n-init
loop-n-init c = putting-start _ _ _

pub loop-n-preserved : goal.loop-n-preserved
loop-n-preserved c =
    let l = c.loop-n in
    let xs = c.args.numbers.now in
    let i = l.n-index in
    let done = l.invariant.put in
    let put = put-into 4 (bytes_of 4 (get_or xs i 0)) (four-long _) (omega (arith, done.behind, done.short, done.same)) c.write_four-to.ensures in
    putting-most ((i + 1) * 4) (omega arith) (putting-turn _ _ l.invariant (four-next i xs (omega arith)) put)

pub shape_of-out : goal.shape_of-out
shape_of-out c = c.loop-n.invariant.put.same

pub returns : goal.returns
returns c = putting-end 128 (omega arith) (four-none c.loop-n.n-index c.args.numbers.now (omega arith)) c.loop-n.invariant
