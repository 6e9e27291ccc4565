-- `forms::write_call` meets its contract. Assumes nothing.
use Rattle.std.proofs.Common.{sym, arith, rules}
use Rattle.forms.proofs.Puts.{put-none, put_as, into-short, into-put}
use Rattle.forms.proofs.Values.{flat-few, encoded-none, encoded-some}
use Rattle.forms.proofs.write_call.Goals as goal

pub returns-then-out-at : goal.returns-then-out-at
returns-then-out-at c = (sym (into-short 64 _ _ _ (search rules)), search rules)

pub returns-then-out-at-lt64 : goal.returns-then-out-at-lt64
returns-then-out-at-lt64 c = (sym (into-short 64 _ _ _ (omega arith)), search rules)

pub returns-then-f-eq0 : goal.returns-then-f-eq0
returns-then-f-eq0 c =
    let f = c.flat-f in
    (into-put 64 _ (omega arith) (put_as 64 (omega arith) (encoded-none _ f.result f.ensures c.if-f-eq0.true) (put-none _ _)), search rules)

pub shared_ref_as_front-put_form : goal.shared_ref_as_front-put_form
shared_ref_as_front-put_form c = rw c.flat-f.ensures (flat-few _)

pub returns : goal.returns
returns c =
    let f = c.flat-f in
    let p = c.put_form.ensures in
    (into-put 64 _ (omega arith) (put_as 64 (omega arith) (encoded-some _ f.result f.ensures c.if-f-eq0.false) p), omega (arith, p.behind, p.short))
