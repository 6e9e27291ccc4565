-- `wire::read_call` meets its contract. Each test is one of those of `decode`. Assumes nothing.
use Rattle.std.proofs.Common.{sym, refl, ◌∙◌, arith}
use Rattle.wire.specs.Asked.{asked}
use Rattle.wire.proofs.Numbers.{decode-short, decode-low, decode-high, decode-size, decode-length, decode_call}
use Rattle.wire.proofs.read_call.Goals as goal
use Rattle.wire.proofs.read_call.Goals.{then-tag-lt1-via-then-tag-lt1, then-tag-lt1-via-else-tag-lt1+then-tag-gt-LAST_TAG}

pub returns-then-n-lt3 : goal.returns-then-n-lt3
unfolding asked
returns-then-n-lt3 c = sym (decode-short _ (omega arith))

pub returns-then-tag-lt1 : goal.returns-then-tag-lt1
unfolding asked
returns-then-tag-lt1 c =
    elim c.then-tag-lt1.branch [
      | then-tag-lt1-via-then-tag-lt1 w ↦ sym (decode-low _ _ refl (omega arith) w.if-tag-lt1.true)
      | then-tag-lt1-via-else-tag-lt1+then-tag-gt-LAST_TAG w ↦ sym (decode-high _ _ refl (omega arith) w.if-tag-lt1.false w.if-tag-gt-LAST_TAG.true)
    ]

pub returns-then-from-v : goal.returns-then-from-v
unfolding asked
returns-then-from-v c =
    sym (decode-size _ _ refl (omega arith) (omega arith) (omega arith) (λ e. c.if-from-v.true (c.from.ensures ∙ c.two.ensures ∙ e)))

pub returns-then-not-right_length : goal.returns-then-not-right_length
unfolding asked
returns-then-not-right_length c =
    let size = sym c.two.ensures ∙ sym c.from.ensures ∙ c.if-from-v.false in
    sym (decode-length _ _ refl (omega arith) (omega arith) (omega arith) size (sym c.right_length.ensures ∙ c.if-not-right_length.true))

pub returns : goal.returns
returns c =
    let size = sym c.two.ensures ∙ sym c.from.ensures ∙ c.if-from-v.false in
    c.read_value.ensures
    ∙ sym (decode_call _ _ refl (omega arith) (omega arith) (omega arith) size
    (sym c.right_length.ensures ∙ c.if-not-right_length.false))
