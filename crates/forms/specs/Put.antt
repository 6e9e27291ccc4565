-- What a function promises that puts a text into a lent buffer.
use Rattle.std.specs.Prelude.{◌≡◌, ℕ, ◌+◌, ◌≤◌, List, length, nat_le}
use Rattle.std.proofs.lemmas.List.Edits.{sets}
use Rattle.lists.specs.Lists.{when◌then◌else◌}

-- a text of at most so many bytes is put from a place on, and the place behind it is given
pub record Put (old : List ℕ) (at : ℕ) (text : List ℕ) (most place : ℕ) (new : List ℕ) : Type 0 where
  pub behind : place ≡ at + length text
  pub stored : new ≡ sets old at text
  pub short : length text ≤ most
  pub same : length new ≡ length old

-- a place, and what a buffer holds
abbrev pub Written : Type 0
Written = ℕ × List ℕ

-- a text put from a place on, and the place behind it, where there is so much room; else the place and the buffer stay as they are
unfoldable pub put_into : ℕ → List ℕ → List ℕ → ℕ → Written
put_into room text out at = when nat_le (at + room) (length out) then (at + length text, sets out at text) else (at, out)
