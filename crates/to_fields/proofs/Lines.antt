-- The first line of a text: what it is read as. Assumes nothing.
use Rattle.std.proofs.Common.{◌≡◌, ℕ, ◌<◌, ◌≤◌, Bool, true, List, [], take, sym, refl, ap, ◌∙◌, ap₂, le-ltb, lt-ltb}
use mathlib.Core.Bool.{false≢true}
use Rattle.lists.specs.Lists.{when◌then◌else◌}
use Rattle.lists.proofs.Bools.{cases}
use Rattle.notation.specs.declared.Reason.{Reason}
use Rattle.notation.specs.declared.Reason.TheVariants.{LineTooLong}
use Rattle.notation.specs.declared.Read.{Read}
use Rattle.notation.specs.declared.Read.TheVariants.{Nothing, Called, Refused}
use Rattle.notation.specs.Reading.{read_line, asked_by, is_refused}
use Rattle.wire.specs.declared.Call.{Call}
use Rattle.wire.specs.declared.Call.TheVariants.{Unknown}
use Rattle.wire.specs.Asked.{asked}
use Rattle.forms.specs.Forms.{form_of}
use Rattle.forms.specs.Encode.{encode_form}
use Rattle.to_fields.specs.declared.Line.{Line}
use Rattle.to_fields.specs.Computing.{computing}
use Rattle.text_lines.specs.Lines.{length_to, line_size, good_size as good_by}
use Rattle.text_lines.proofs.Taking.{size_small, size-there}
use Rattle.to_fields.specs.Lines.{line_read, field_of, line_field, good_size}
use Rattle.to_fields.specs.Turns.{NoCall, IsLine, NextLine}

-- ---- what a line is read as

module _ (line : List ℕ) (n : ℕ) (is : n ≡ length_to line) where
  pub read-long : 65536 < n → Refused 65536 LineTooLong 0 0 ≡ line_read line
  unfolding line_read
  read-long h = rw (← is, lt-ltb 65536 n h) refl

  pub read-there : (part : List ℕ) (r : Read) → n ≤ 65536 → part ≡ take n line → r ≡ read_line part → r ≡ line_read line
  unfolding line_read
  read-there part r h lends e = rw (← is, le-ltb 65536 n h) (e ∙ ap read_line lends)

-- ---- a line as its bytes and its call

-- no line, and no call
empty-field : line_field [] ≡ []
unfolding computing
empty-field = refl

no_call : encode_form (form_of (asked Unknown)) ≡ []
unfolding asked form_of encode_form
no_call = refl

refused-field : (read : Read) → is_refused read ≡ true → field_of read ≡ []
unfolding is_refused field_of asked_by form_of encode_form
refused-field Nothing e = refl
refused-field (Called call) e = absurd (false≢true e)
refused-field (Refused at reason tag item) e = refl

pub is-unknown : (size : ℕ) → NoCall size (record { size = size; call = Unknown })
is-unknown size = record { size = refl; field = no_call }

module _ (size : ℕ) (read : Read) (r : Line) where
  pub is-nothing : read ≡ Nothing → NoCall size r → IsLine size read r
  unfolding is_refused field_of asked_by form_of encode_form
  is-nothing e n = record { size = rw e n.size; field = rw e n.field }

  pub is-refused : {at : ℕ} {reason : Reason} {tag item : ℕ} → read ≡ Refused at reason tag item → NoCall 0 r → IsLine size read r
  unfolding is_refused field_of asked_by form_of encode_form
  is-refused e n = record { size = rw e n.size; field = rw e n.field }

pub is_call : (size : ℕ) (read : Read) (call : Call) → read ≡ Called call → IsLine size read (record { size = size; call = call })
unfolding is_refused field_of asked_by
is_call size read call e = record { size = rw e refl; field = rw e refl }

-- no room
pub next-none : (room : ℕ) (last : Bool) (s : List ℕ) (r : Line) → room < 64 → NoCall 0 r → NextLine room last s r
next-none room last s r h n =
    record {
      size = n.size ∙ sym (size_small 64 room (good_size last) s h);
      field = n.field ∙ sym (ap (λ (k : ℕ). line_field (take k s)) n.size ∙ empty-field);
    }

pub next-is : (room : ℕ) (last : Bool) (s part : List ℕ) (size : ℕ) (read : Read) (r : Line) → 64 ≤ room → size ≡ line_size last s → part ≡ take size s
    → read ≡ line_read part → IsLine size read r → NextLine room last s r
unfolding good_by
next-is room last s part size read r h is lends e l =
    let same : read ≡ line_read (take (line_size last s) s) = e ∙ ap line_read (lends ∙ ap (λ (n : ℕ). take n s) is) in
    record {
      size =
          l.size
          ∙ ap₂ (λ (x : Read) (n : ℕ). when is_refused x then 0 else n) same is
          ∙ sym (size-there 64 room (good_size last) s h);
      field =
          l.field
          ∙ cases (is_refused read) (field_of read ≡ line_field (take r.size s))
          (λ t. refused-field read t ∙ sym (ap (λ (n : ℕ). line_field (take n s)) (l.size ∙ ap (λ (b : Bool). when b then 0 else size) t) ∙ empty-field))
          (λ t.
          ap field_of (e ∙ ap line_read lends)
          ∙ sym (ap (λ (n : ℕ). line_field (take n s)) (l.size ∙ ap (λ (b : Bool). when b then 0 else size) t)));
    }
