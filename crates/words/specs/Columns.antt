-- A word in a column of a lent buffer: spaces before it, up to the column's width.
use Rattle.std.specs.Prelude.{List, ℕ, ◌-◌, min, length, take, replicate}
use Rattle.lines.specs.Placed.{Placed, placed}

-- as many spaces as are asked for, at most 64, the widest column
unfoldable pub blanks : ℕ → List ℕ
blanks n = take (min n 64) (replicate 64 32)

-- spaces, and the word behind them, each where it fits
unfoldable pub placed_right : ℕ → List ℕ → List ℕ → ℕ → Placed
placed_right width word out at =
    let p = placed (blanks (width - length word)) out at in
    placed word p.1 p.0
