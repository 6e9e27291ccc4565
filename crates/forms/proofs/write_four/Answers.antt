-- `forms::write_four` meets its contract. Assumes nothing.
use Rattle.std.proofs.Common.{length, sym, ap, ◌∙◌, arith}
use Rattle.forms.proofs.Puts.{put_as, into-short, into-put}
use Rattle.forms.proofs.Values.{four-is}
use Rattle.forms.proofs.write_four.Goals as goal

pub returns-then-out-lt4 : goal.returns-then-out-lt4
returns-then-out-lt4 c = sym (into-short 4 _ _ _ (omega arith))

pub returns-then-out-at : goal.returns-then-out-at
returns-then-out-at c = sym (into-short 4 _ _ _ (omega arith))

pub returns : goal.returns
returns c =
    let e = c.to_be_bytes.ensures ∙ four-is c.args.n in
    into-put 4 _ (omega (arith, c.if-out-at.false, c.if-out-lt4.false)) (put_as 4 (omega (arith, ap length c.to_be_bytes.ensures)) e c.put.ensures)
