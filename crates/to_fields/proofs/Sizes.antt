-- The line that is taken next, where there is room for its field, and lines taken one by one. Assumes nothing.
use Rattle.std.proofs.Common.{◌≡◌, ℕ, ◌+◌, ◌-◌, ◌≤◌, Bool, List, length, take, drop, arith}
use Rattle.wire.specs.Asked.{asked}
use Rattle.forms.specs.Forms.{form_of}
use Rattle.forms.specs.Encode.{encode_form, encoded_into}
use Rattle.forms.specs.Put.{Put, Written}
use Rattle.forms.proofs.Puts.{put_as}
use Rattle.translation.proofs.Writing.{put-into, Writing, writing-starts}
use Rattle.text_lines.proofs.Parts.{good-most as good-by}
use Rattle.text_lines.proofs.Taking.{taking-first, taking-lent, taking-few, taking-within, taking-room, taking-behind, taking-goes, taking-ends}
use Rattle.to_fields.specs.declared.Line.{Line}
use Rattle.to_fields.specs.Lines.{line_field, refused_line, good_size}
use Rattle.to_fields.specs.Turns.{NextLine, WritesLines}

-- a line that is taken is within the text
abbrev pub good-most : (last : Bool) (s : List ℕ) → good_size last s ≤ length s
good-most last s = good-by refused_line last s

-- so many lines are taken
abbrev pub Taking : Bool → List ℕ → List ℕ → List ℕ → ℕ → ℕ → ℕ → Type 0
Taking last input old out count used to = Writing (good_size last) (good-most last) line_field input old out count used to

-- none yet
pub taking-starts : (last : Bool) (input out : List ℕ) → Taking last input out out 0 0 0
taking-starts last input out = writing-starts (good_size last) (good-most last) line_field input out

pub next-first : (last : Bool) (input out : List ℕ) (line : Line) → NextLine (length out) last input line → NextLine (length out - 0) last (drop 0 input) line
next-first last input out line n = taking-first (λ room s. NextLine room last s line) input out n

-- what is left, as the code lends it
pub next-lent : (room : ℕ) (last : Bool) (input : List ℕ) (used : ℕ) (line : Line) → NextLine room last (take (length input - used) (drop used input)) line
    → NextLine room last (drop used input) line
next-lent room last input used line n = taking-lent (λ s. NextLine room last s line) input used n

module _ (last : Bool) (input old out : List ℕ) (count used to : ℕ) (line : Line) (g : Taking last input old out count used to)
    (n : NextLine (length out - to) last (drop used input) line) where
  pub lines-few : count ≤ length input
  lines-few = taking-few (good_size last) (good-most last) line_field 64 input old out count used to g line.size n.size

  module _ (some : line.size ≡ 0 → ⊥) where
    pub lines-within : used + line.size ≤ length input
    lines-within = taking-within (good_size last) (good-most last) line_field 64 input old out count used to g line.size n.size some

    module _ (r : ℕ) (next : List ℕ) (put : (◌≡◌ {A = Written} (r, next) (encoded_into (asked line.call) out to)) × (r ≤ to + 64)) where
      field : Put out to (line_field (take line.size (drop used input))) 64 r next
      field =
          put_as 64 (omega arith) n.field
          (put-into 64 (encode_form (form_of (asked line.call))) out next to r
          (taking-room (good_size last) (good-most last) line_field 64 input old out count used to g line.size n.size some) put.0 put.1)

      pub lines-behind : r ≤ length next
      lines-behind = taking-behind (good_size last) (good-most last) line_field 64 input old out count used to g line.size n.size some r next field

      pub lines-go : Taking last input old next (count + 1) (used + line.size) r
      lines-go = taking-goes (good_size last) (good-most last) line_field 64 input old out count used to g line.size n.size some r next field

  pub lines_end : line.size ≡ 0 → WritesLines last input old out (record { count = count; used = used; written = to })
  lines_end stop = taking-ends (good_size last) (good-most last) line_field 64 input old out count used to g line.size n.size stop
