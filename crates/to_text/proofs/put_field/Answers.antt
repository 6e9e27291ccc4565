-- `to_text::put_field` meets its contract. Assumes nothing.
use Rattle.to_text.proofs.Texts.{field-line, field-comment}
use Rattle.to_text.proofs.put_field.Goals as goal

pub returns-then-to-at : goal.returns-then-to-at
returns-then-to-at c =
    let w = c.write_text-to in
    field-comment c.args.field.now c.args.out.now _ c.args.at w.result _ c.read_call-call.ensures c.requires w.ensures.0 w.ensures.1
    c.if-to-at.true _ _ c.put_comment.ensures

pub returns : goal.returns
returns c =
    let w = c.write_text-to in
    field-line c.args.field.now c.args.out.now _ c.args.at w.result _ c.read_call-call.ensures c.requires w.ensures.0 w.ensures.1
    c.if-to-at.false
