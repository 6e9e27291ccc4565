-- `spelling::put_form` meets its contract. Assumes nothing.
use mathlib.Core.Path.{ap}
use native.Mathlib.Omega.{arith}
use lib.ListN.{length}
use Rattle.forms.proofs.Puts.{put_as, put_then}
use Rattle.spelling.specs.Words.{name_of}
use Rattle.spelling.specs.Text.{items_text}
use Rattle.spelling.proofs.Tables.{name-short}
use Rattle.spelling.proofs.put_form.Goals as goal

pub put-a-requires : goal.put-a-requires
put-a-requires c = omega (arith, ap length c.name.ensures, name-short c.args.tag)

pub returns : goal.returns
returns c =
    let a = c.args in
    put_then (name_of a.tag) (items_text a.tag 0 a.numbers.now)
    (put_as 16 (omega (arith, ap length c.name.ensures, name-short a.tag)) c.name.ensures c.put-a.ensures) c.put_items.ensures

pub put_items-requires : goal.put_items-requires
put_items-requires c =
    let p = c.put-a.ensures in
    (c.requires.0, c.requires.1, omega (arith, ap length c.name.ensures, name-short c.args.tag, p.behind, p.same))
