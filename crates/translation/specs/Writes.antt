-- Pieces of an input, fields or lines, written one by one as other bytes: what one part of the writing leaves in a buffer, and what all parts use of the input.
use Rattle.std.specs.Prelude.{◌≡◌, Bool, false, List, map, ℕ, ◌≤◌, length}
use Rattle.lists.specs.Lists.{joined}
use Rattle.input.specs.Strings.{bytes_of}
use Rattle.input.specs.Pieces.{pieces, all_pieces}
use Rattle.forms.specs.Put.{Put}

-- what is written of pieces, one behind the other
abbrev pub texts : (List ℕ → List ℕ) → List (List ℕ) → List ℕ
texts write ps = joined (map write ps)

-- The first pieces of some bytes, so many of them, are written to the front of a buffer, each as its text. Where there is enough room, some are written if there
-- is any.
pub record WritesSome (size : List ℕ → ℕ) (write : List ℕ → List ℕ) (Enough : Type 0) (input old new : List ℕ) (count used written : ℕ) : Type 0 where
  pub there : length (pieces size count input) ≡ count
  pub bytes : used ≡ bytes_of (pieces size count input)
  pub put : Put old 0 (texts write (pieces size count input)) (length old) written new
  pub some : Enough → count ≡ 0 → size input ≡ 0

-- All pieces of some bytes are written, a part at a time, unless a write failed.
pub record WritesAll (size : List ℕ → ℕ) (input : List ℕ) (used : ℕ) (failed : Bool) : Type 0 where
  pub within : used ≤ length input
  pub all : failed ≡ false → used ≡ bytes_of (all_pieces size input)
