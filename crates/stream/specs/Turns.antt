-- The loop of the program `ledger`: one turn over the bytes that are in the buffer, and what is held and kept after all turns (`Fed`, `feed/specs/Feeds`).
use Rattle.std.specs.Prelude.{◌≡◌, List, ◌++◌, ℕ, ◌≤◌, length, take, Result, IfOk}
use Rattle.std.proofs.lemmas.List.Edits.{sets}
use Rattle.lists.specs.Lists.{joined, Bytes}
use Rattle.machine.specs.Printed.{text, printed}
use Rattle.lines.specs.Placed.{Placed}
use Rattle.input.specs.Fields.{whole, rest}
use Rattle.case.specs.Cases.{Held}
use Rattle.case.specs.Cases.{no_held}
use Rattle.case.specs.Input.{ledger_after, HeldAfter}
use Rattle.report.specs.Texts.{ledger_lines, cut_lines, held_lines, placed_lines}
use Rattle.feed.specs.declared.Failed.{Failed}
use Rattle.feed.specs.Feeds.{Keeps, Fed}
use Rattle.stream.specs.declared.Turn.{Turn}

-- A turn over some bytes at the front of the buffer: their whole fields are taken, their s lines are the text to be written, and what is left of
-- the bytes stands at the buffer's front, with the buffer's own bytes behind it.
pub record TakesTurn (h : Held) (bytes buf buf' out out' : List ℕ) (r : Turn) : Type 0 where
  pub held : r.held ≡ ledger_after h (whole bytes)
  pub keeps : Keeps rest bytes buf buf' r.len
  pub lines : out' ≡ sets out 0 (text (ledger_lines h (whole bytes)))
  pub written : r.written ≡ length (text (ledger_lines h (whole bytes)))
  pub fits : r.written ≤ length out

-- After all turns what is held is what the ledger holds after the whole fields of the parts that were read, joined, and what is kept at the buffer's front is
-- what is left of them. That is less than a field can have (`rest-short`), so a buffer of 65,538 bytes has room for a further read, and a read that brings
-- nothing is the input's end.
abbrev pub FedTo : List ℕ → Held → ℕ → Type 0
FedTo buf held len = Fed rest (HeldAfter held) buf len

-- the text of the end, each line where it fits
pub record Last (h : Held) (kept out out' : List ℕ) (r : ℕ) : Type 0 where
  pub is : ◌≡◌ {A = Placed} (r, out') (placed_lines (cut_lines kept ++ held_lines h) out 0)
  pub fits : r ≤ length out

-- Before the last write there are parts, those that were read, such that, where the input ended, the s lines of their whole fields and the text that
-- is still to be written are what the machine prints for the parts joined.
pub record Ends (out : List ℕ) (r : Result ℕ Failed) : Type 0 where
  pub parts : List (List ℕ)
  pub bytes : Bytes (joined parts)
  pub last : IfOk r (λ len. text (ledger_lines no_held (whole (joined parts))) ++ take len out ≡ printed (joined parts))
  pub fits : IfOk r (λ len. len ≤ length out)
