-- `spelling::write_text` meets its contract. Assumes nothing.
use mathlib.Core.Path.{sym}
use Prim.Native.Nat.{◌≤◌}
use lib.ListN.{length-take}
use native.Mathlib.Omega.{arith}
use Rattle.forms.proofs.Puts.{put-none, put_as, into-short, into-put}
use Rattle.forms.proofs.Values.{flat-few}
use Rattle.spelling.proofs.Texts.{tag_small, line-none, line-some}
use borrow.Author.Rules.{rules}
use Rattle.spelling.proofs.write_text.Goals as goal

pub returns-then-out-at : goal.returns-then-out-at
returns-then-out-at c = (sym (into-short 8192 _ _ _ (search rules)), search rules)

pub returns-then-out-at-lt8192 : goal.returns-then-out-at-lt8192
returns-then-out-at-lt8192 c = (sym (into-short 8192 _ _ _ (omega arith)), search rules)

pub returns-then-f-eq0 : goal.returns-then-f-eq0
returns-then-f-eq0 c =
    let f = c.flat-f in
    (into-put 8192 _ (omega arith) (put_as 8192 (omega arith) (line-none _ f.result f.ensures c.if-f-eq0.true) (put-none _ _)), search rules)

pub put_form-requires : goal.put_form-requires
put_form-requires c =
    let few : c.flat-f.result.count ≤ 8 = rw c.flat-f.ensures (flat-few _) in
    (rw c.flat-f.ensures (tag_small _), simp length-take (omega arith), omega arith)

pub shared_ref_as_front-put_form : goal.shared_ref_as_front-put_form
shared_ref_as_front-put_form c = rw c.flat-f.ensures (flat-few _)

pub returns : goal.returns
returns c =
    let f = c.flat-f in
    let p = c.put_form.ensures in
    (into-put 8192 _ (omega arith) (put_as 8192 (omega arith) (line-some _ f.result f.ensures c.if-f-eq0.false) p), omega (arith, p.behind, p.short))
