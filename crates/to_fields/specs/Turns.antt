-- The loop that writes lines as fields: what one part of it writes, and what is still to be written when the reading has stopped.
use Rattle.std.specs.Prelude.{◌≡◌, ℕ, ◌+◌, ◌%◌, ◌^◌, ◌<◌, ◌≤◌, Bool, true, false, not, List, [], ◌∷◌, ◌++◌, length, take, ◌==◌, Result, IfOk}
use Rattle.lists.specs.Lists.{when◌then◌else◌, joined, Bytes, Each}
use Rattle.wire.specs.Asked.{asked}
use Rattle.forms.specs.Forms.{form_of}
use Rattle.forms.specs.Encode.{encode_form}
use Rattle.input.specs.Pieces.{all_pieces, left_of}
use Rattle.notation.specs.declared.Read.{Read}
use Rattle.notation.specs.Reading.{is_refused}
use Rattle.feed.specs.declared.Failed.{Failed}
use Rattle.feed.specs.Feeds.{Keeps, Fed}
use Rattle.translation.specs.Writes.{WritesSome, WritesAll}
use Rattle.to_fields.specs.declared.Line.{Line}
use Rattle.to_fields.specs.declared.Part.{Part}
use Rattle.to_fields.specs.declared.Wrote.{Wrote}
use Rattle.to_fields.specs.declared.Turn.{Turn}
use Rattle.to_fields.specs.declared.Rest.{Rest}
use Rattle.to_fields.specs.declared.Ending.{Ending}
use Rattle.text_lines.specs.Lines as Lines
use Rattle.text_lines.specs.Lines.{line_size, lines_of}
use Rattle.to_fields.specs.Lines.{field_of, line_field, fields_of, refused_line, good_size, good_lines, rest}

-- the bytes of the first line, and 0 where it is refused or not all there, or a field has no room
abbrev pub size_within : ℕ → Bool → List ℕ → ℕ
size_within room last s = Lines.size_within 64 room (good_size last) s

-- a line of so many bytes that asks for no call
pub record NoCall (bytes : ℕ) (r : Line) : Type 0 where
  pub size : r.size ≡ bytes
  pub field : encode_form (form_of (asked r.call)) ≡ []

-- a line of so many bytes by what it is read as: one that is refused has no bytes
pub record IsLine (bytes : ℕ) (read : Read) (r : Line) : Type 0 where
  pub size : r.size ≡ (when is_refused read then 0 else bytes)
  pub field : encode_form (form_of (asked r.call)) ≡ field_of read

-- the contract of `next_line`
pub record NextLine (room : ℕ) (last : Bool) (s : List ℕ) (r : Line) : Type 0 where
  pub size : r.size ≡ size_within room last s
  pub field : encode_form (form_of (asked r.call)) ≡ line_field (take r.size s)

-- the contract of `take_some`: the fields of the first lines that are good stand at the buffer's front. With 64 bytes there is room for any field
abbrev pub WritesLines : Bool → List ℕ → List ℕ → List ℕ → Part → Type 0
WritesLines last input old new r = WritesSome (good_size last) line_field (64 ≤ length old) input old new r.count r.used r.written

-- one number is another, as a number of 64 bits
abbrev pub Counts : ℕ → ℕ → Type 0
Counts n m = n % 2 ^ 64 ≡ m % 2 ^ 64

-- whether the first line that is left is refused: it is all there, and was not taken
abbrev pub stops_at : List ℕ → Bool
stops_at s = not (line_size false (rest s) == 0)

-- the contract of `write_all`, where no write failed: all lines are written, up to the first that is refused or not all there, and counted
pub record WritesAllLines (first : ℕ) (input : List ℕ) (r : Wrote) : Type 0 where
  pub wrote : WritesAll (good_size false) input r.used false
  pub lines : Counts r.lines (first + length (good_lines input))
  pub refused : r.refused ≡ stops_at input

-- A turn over some bytes at the front of the buffer, where no write failed: their lines are counted, what is left of the bytes stands at the buffer's front, with
-- the buffer's own bytes behind it, and it is known whether that begins with a line that is refused.
pub record TakesTurn (first : ℕ) (bytes buf buf' : List ℕ) (r : Turn) : Type 0 where
  pub keeps : Keeps rest bytes buf buf' r.len
  pub lines : Counts r.lines (first + length (good_lines bytes))
  pub refused : r.refused ≡ stops_at bytes

-- After all turns there are parts, those that were read; the number of lines is that of the lines at the front of the parts joined, up to the first that is
-- refused or not all there, and what is kept at the buffer's front is what is left behind them.
abbrev pub FedTo : List ℕ → ℕ → ℕ → Type 0
FedTo buf lines len = Fed rest (λ s. Counts lines (length (good_lines s))) buf len

-- The contract of `take_input`, where no write failed. Where the input ended, at most 65,536 bytes are kept, so that a buffer of 65,537 bytes has room for a further
-- read, and the read that brought nothing is the input's end.
pub record TakesInput (buf : List ℕ) (r : Rest) : Type 0 where
  pub fed : FedTo buf r.lines r.len
  pub room : r.ended ≡ true → r.len ≤ 65536

-- the first bytes of a buffer are a field that is cut off: tag 0, the greatest length, and fewer bytes behind it than that
pub record CutOff (out : List ℕ) (len : ℕ) : Type 0 where
  pub front : take 3 out ≡ 0 ∷ 255 ∷ 255 ∷ []
  pub some : 3 ≤ len
  pub short : len < 65538
  pub fits : len ≤ length out

-- the contract of `finish`: where all lines that are left are good, their fields are still to be written, and else a field that is cut off
pub record Finishes (left out : List ℕ) (r : Ending) : Type 0 where
  pub all : r.good ≡ true → left_of (good_size true) left ≡ []
  pub last : r.good ≡ true → take r.len out ≡ fields_of (all_pieces (good_size true) left)
  pub cut : r.good ≡ false → CutOff out r.len
  pub fits : r.len ≤ length out

-- Before the last write there are parts, those that were read. Where all was read and written and is good, no line of the parts joined is refused, and the fields
-- that were written and the bytes that are still to be written are the fields of all lines. Else, unless a write failed, the bytes that are still to
-- be written are a field that is cut off.
pub record Ends (out : List ℕ) (r : Result Ending Failed) : Type 0 where
  pub parts : List (List ℕ)
  pub bytes : Bytes (joined parts)
  pub all : IfOk r (λ e. e.good ≡ true → Each (λ line. refused_line line ≡ false) (lines_of (joined parts)))
  pub last : IfOk r (λ e. e.good ≡ true → fields_of (good_lines (joined parts)) ++ take e.len out ≡ fields_of (lines_of (joined parts)))
  pub cut : IfOk r (λ e. e.good ≡ false → CutOff out e.len)
  pub fits : IfOk r (λ e. e.len ≤ length out)
