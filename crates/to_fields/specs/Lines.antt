-- A text as lines, and the lines as the fields of their calls.
use Rattle.std.specs.Prelude.{ℕ, Bool, List, take, nat_lt}
use Rattle.lists.specs.Lists.{when◌then◌else◌}
use Rattle.forms.specs.Forms.{form_of}
use Rattle.forms.specs.Encode.{encode_form}
use Rattle.notation.specs.declared.Reason.TheVariants.{LineTooLong}
use Rattle.notation.specs.declared.Read.{Read}
use Rattle.notation.specs.declared.Read.TheVariants.{Refused}
use Rattle.notation.specs.Reading.{read_line, asked_by, is_refused}
use Rattle.translation.specs.Writes.{texts}
use Rattle.text_lines.specs.Lines as Lines
use Rattle.text_lines.specs.Lines.{length_to}

-- what a line is read as
unfoldable pub line_read : List ℕ → Read
line_read line = when nat_lt 65536 (length_to line) then Refused 65536 LineTooLong 0 0 else read_line (take (length_to line) line)

-- the field of the call that was read; nothing where the line is empty or a comment, or is refused
unfoldable pub field_of : Read → List ℕ
field_of read = encode_form (form_of (asked_by read))

abbrev pub line_field : List ℕ → List ℕ
line_field line = field_of (line_read line)

-- the fields of lines
abbrev pub fields_of : List (List ℕ) → List ℕ
fields_of lines = texts line_field lines

-- whether a line is refused
abbrev pub refused_line : List ℕ → Bool
refused_line line = is_refused (line_read line)

-- the bytes of the first line, and 0 where it is refused or not all there
abbrev pub good_size : Bool → List ℕ → ℕ
good_size last s = Lines.good_size refused_line last s

-- the lines at the front of a text that goes on, up to the first that is refused or not all there
abbrev pub good_lines : List ℕ → List (List ℕ)
good_lines s = Lines.good_lines refused_line s

-- what is left behind them
abbrev pub rest : List ℕ → List ℕ
rest s = Lines.rest refused_line s
