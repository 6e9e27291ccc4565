-- `spelling::write_key` meets its contract. Assumes nothing.
use mathlib.Core.Path.{sym, ap}
use native.Mathlib.Omega.{arith}
use Rattle.forms.proofs.Puts.{put_as}
use lib.ListN.{length}
use Rattle.spelling.proofs.Tables.{separator-short}
use Rattle.spelling.proofs.Texts.{key-short, key-no-call, key-no-number, key-put}
use borrow.Author.Rules.{rules}
use Rattle.spelling.proofs.write_key.Goals as goal
use Rattle.spelling.proofs.write_key.Goals.{then-tag-ge16-via-then-tag-ge16, then-tag-ge16-via-else-tag-ge16+then-i-ge8}

pub returns-then-out-lt16 : goal.returns-then-out-lt16
returns-then-out-lt16 c = sym (key-short _ _ _ (search rules))

pub returns-then-tag-ge16 : goal.returns-then-tag-ge16
returns-then-tag-ge16 c =
    elim c.then-tag-ge16.branch [
      | then-tag-ge16-via-then-tag-ge16 w ↦ sym (key-no-call _ _ _ c.if-out-lt16.false w.if-tag-ge16.true)
      | then-tag-ge16-via-else-tag-ge16+then-i-ge8 w ↦ sym (key-no-number _ _ _ c.if-out-lt16.false w.if-tag-ge16.false w.if-i-ge8.true)
    ]

pub put-requires : goal.put-requires
put-requires c = omega (arith, ap length c.separator.ensures, separator-short c.args.tag c.args.i c.if-tag-ge16.false c.if-i-ge8.false)

pub returns : goal.returns
returns c =
    let a = c.args in
    let short = separator-short a.tag a.i c.if-tag-ge16.false c.if-i-ge8.false in
    key-put a.tag a.i _ _ _ c.if-out-lt16.false c.if-tag-ge16.false c.if-i-ge8.false
    (put_as 16 (omega (arith, ap length c.separator.ensures, short)) c.separator.ensures c.put.ensures)
