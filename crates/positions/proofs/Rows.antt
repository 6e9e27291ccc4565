-- The rows of the ring: behind the last row comes the first. Assumes nothing.
use Rattle.std.proofs.Common.{◌≡◌, ℕ, ◌<◌, ◌≤◌, le-ltb, lt-ltb}
use Rattle.positions.specs.Keeping.{row_of}

pub row_on : (row : ℕ) → row < 66 → row_of row ≡ row
unfolding row_of
row_on row l = rw (lt-ltb row 66 l)

pub row_back : (row : ℕ) → 66 ≤ row → row_of row ≡ 0
unfolding row_of
row_back row l = rw (le-ltb row 66 l)
