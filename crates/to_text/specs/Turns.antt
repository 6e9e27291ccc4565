-- The loop that writes fields as text: what one part of it writes, and what is still to be written when the input has ended.
use Rattle.std.specs.Prelude.{◌≡◌, false, List, [], ◌∷◌, ◌++◌, ℕ, ◌-◌, ◌/◌, ◌≤◌, leb, ltb, length, take, Result, IfOk}
use Rattle.lists.specs.Lists.{when◌then◌else◌, joined, Bytes}
use Rattle.machine.specs.Printed.{fields_in}
use Rattle.input.specs.Fields.{front_size, whole, rest}
use Rattle.feed.specs.declared.Failed.{Failed}
use Rattle.feed.specs.Feeds.{Fed}
use Rattle.translation.specs.Writes.{WritesSome}
use Rattle.to_text.specs.declared.Part.{Part}
use Rattle.to_text.specs.Texts.{field_text, fields_text}

-- the bytes of the first field, and 0 where it is not all there or its text may have no room: a text has at most 8,192 bytes and five for each byte of its field
unfoldable pub size_within : ℕ → List ℕ → ℕ
size_within room s =
    when ltb room 8192 then 0
    else when leb (front_size false s) ((room - 8192) / 5) then front_size false s
    else 0

-- the contract of `take_some`: the text of the first whole fields stands at the buffer's front. With 335,882 bytes there is room for the longest field
abbrev pub WritesFields : List ℕ → List ℕ → List ℕ → Part → Type 0
WritesFields input old new r =
    WritesSome (front_size false) field_text (Bytes input × (335882 ≤ length old)) input old new r.count r.used r.written

-- After all turns there are parts, those that were read, and what is kept at the buffer's front is what is left of them behind their whole fields. That is less than
-- a field can have (`rest-short`), so a buffer of 65,538 bytes has room for a further read, and a read that brings nothing is the input's end.
abbrev pub FedTo : List ℕ → ℕ → Type 0
FedTo buf len = Fed rest (λ s. Unit {0}) buf len

-- the text of the end: that of a field that is cut off, where bytes of it are left
unfoldable pub cut_text : List ℕ → List ℕ
cut_text [] = []
cut_text (x ∷ s) = field_text (x ∷ s)

-- Before the last write there are parts, those that were read, such that, where the input ended, the text of their whole fields and the text that is still to be
-- written are the text of all fields of the parts joined, the one that is cut off too.
pub record Ends (out : List ℕ) (r : Result ℕ Failed) : Type 0 where
  pub parts : List (List ℕ)
  pub bytes : Bytes (joined parts)
  pub last : IfOk r (λ len. fields_text (whole (joined parts)) ++ take len out ≡ fields_text (fields_in (length (joined parts)) (joined parts)))
  pub fits : IfOk r (λ len. len ≤ length out)
