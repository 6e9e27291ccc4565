-- `spelling::put_item` meets its contract. Assumes nothing.
use mathlib.Core.Path.{ap}
use Prim.Native.Nat.{ℕ}
use native.Mathlib.Omega.{arith}
use lib.ListN.{length}
use Rattle.forms.proofs.Puts.{put_as, put_then}
use Rattle.forms.specs.Forms.{kind_of}
use Rattle.spelling.specs.Words.{key_of, separator}
use Rattle.spelling.specs.Text.{number_text}
use Rattle.spelling.proofs.Tables.{separator-short}
use Rattle.spelling.proofs.put_item.Goals as goal

pub put-a-requires : goal.put-a-requires
put-a-requires c = omega (arith, ap length c.separator.ensures, separator-short c.args.tag c.args.i c.requires.0 c.requires.1)

pub returns : goal.returns
returns c =
    let a = c.args in
    let short = separator-short a.tag a.i c.requires.0 c.requires.1 in
    put_then (separator (key_of a.tag a.i)) (number_text (kind_of a.tag a.i) a.n)
    (put_as 16 (omega (arith, ap length c.separator.ensures, short)) c.separator.ensures c.put-a.ensures)
    (put_as 692 (omega arith) (ap (λ (k : ℕ). number_text k a.n) c.kind.ensures) c.put_number.ensures)

pub put_number-requires : goal.put_number-requires
put_number-requires c =
    let p = c.put-a.ensures in
    omega (arith, ap length c.separator.ensures, separator-short c.args.tag c.args.i c.requires.0 c.requires.1, p.behind, p.same)
