-- The stage of the program's case as the machine has it.
use Rattle.std.specs.Prelude.{ℕ, ◌+◌, min}
use Rattle.machine.specs.State as M
use Rattle.book.specs.declared.Stage.{Stage}
use Rattle.book.specs.declared.Stage.TheVariants.{Setup, Bidding, After, CallsOut, Finished}

abbrev pub view_stage : Stage → M.Stage
view_stage Setup = M.Setup
view_stage (Bidding round) = M.Bidding round
view_stage (After round) = M.After round
view_stage CallsOut = M.CallsOut
view_stage Finished = M.Finished

-- the letter of a stage: S 1, B 2, A 3, C 4, F 5
abbrev pub letter_of : Stage → ℕ
letter_of s = M.letter (view_stage s)

-- the round of a stage; 0 outside the rounds
abbrev pub round_of : Stage → ℕ
round_of s = M.round_of (view_stage s)

-- the number of the next round
unfoldable pub next_round : ℕ → ℕ
next_round round = min (round + 1) 255
