-- What the shared functions of the programs leave in a lent buffer, and the loop of a program: one turn over the bytes that are in the buffer, and what holds after
-- all turns. What a program takes of bytes, fields or lines, is cut off by a function `rest`, which says what is left of them.
use Rattle.std.specs.Prelude.{◌≡◌, List, ◌++◌, ℕ, ◌-◌, ◌≤◌, length, take, drop, Result, IfOk}
use Rattle.lists.specs.Lists.{joined, Bytes}
use Rattle.feed.specs.declared.Failed.{Failed}

-- a read into a buffer from a place on: the bytes before the place stay, and those that came are behind it, within the buffer
pub record Reads (at : ℕ) (old new : List ℕ) (r : Result ℕ Failed) : Type 0 where
  pub front : take at new ≡ take at old
  pub room : IfOk r (λ n. n ≤ length old - at)

-- the bytes from a start to an end, moved to the front of a buffer, with the buffer's own behind them
abbrev pub slid : ℕ → ℕ → List ℕ → List ℕ
slid start end buf = take (end - start) (drop start buf) ++ drop (end - start) buf

-- the contract of `slide`
pub record Slides (start end : ℕ) (old new : List ℕ) (r : ℕ) : Type 0 where
  pub moved : start ≤ end → end ≤ length old → new ≡ slid start end old
  pub len : start ≤ end → end ≤ length old → r ≡ end - start
  pub most : r ≤ length old

-- a turn over some bytes at the front of a buffer: what is left of them stands at the front then, with the buffer's own bytes behind it
pub record Keeps (rest : List ℕ → List ℕ) (bytes old new : List ℕ) (n : ℕ) : Type 0 where
  pub kept : new ≡ rest bytes ++ drop n old
  pub len : n ≡ length (rest bytes)

-- After all turns there are parts, those that were read, such that what was taken is what `Taken` says of the parts joined, and what is kept at the buffer's
-- front is what is left of them.
pub record Fed (rest : List ℕ → List ℕ) (Taken : List ℕ → Type 0) (buf : List ℕ) (len : ℕ) : Type 0 where
  pub parts : List (List ℕ)
  pub bytes : Bytes (joined parts)
  pub is : Taken (joined parts)
  pub kept : take len buf ≡ rest (joined parts)
  pub fits : len ≤ length buf
