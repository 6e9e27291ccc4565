-- An input that comes in parts, as the program `ledger` reads it, and the claim that its text does not depend on where the parts end, nor, but for ranks and charges on
-- contribution, on reserves. The program takes each part by `take_part`, behind the bytes that are left of those before, and at the input's end calls `write_cut` and
-- `write_end`. The claims are proved in proofs/Streaming.antt.
use Rattle.std.specs.Prelude.{◌≡◌, List, [], ◌∷◌, ◌++◌, ℕ}
use Rattle.lists.specs.Lists.{joined, Bytes}
use Rattle.machine.specs.Printed.{text, printed}
use Rattle.reserves.specs.Reserves.{SameButReserves}
use Rattle.reserves.specs.Text.{text_outside, fields_of}
use Rattle.input.specs.Fields.{whole, rest}
use Rattle.case.specs.Cases.{Held}
use Rattle.case.specs.Cases.{no_held}
use Rattle.case.specs.Input.{ledger_after}
use Rattle.report.specs.Texts.{ledger_lines, cut_lines, held_lines}

-- what is written for parts that come in turn, from what is held and the bytes left of the parts before
unfoldable pub streamed : Held → List ℕ → List (List ℕ) → List ℕ
streamed h kept [] = text (cut_lines kept ++ held_lines h)
streamed h kept (part ∷ parts) =
    let s = kept ++ part in
    text (ledger_lines h (whole s)) ++ streamed (ledger_after h (whole s)) (rest s) parts

-- however an input is cut into parts, what is written is what the machine prints for the whole
abbrev pub Streams : Type 0
Streams = (parts : List (List ℕ)) → Bytes (joined parts) → streamed no_held [] parts ≡ printed (joined parts)

-- Document 02, C-17: of two inputs whose fields are the same but for reserves, by which the same bids are valid, the same is written, wherever their parts end, but for
-- the rank and the charge on contribution in m lines
abbrev pub StreamsAlike : Type 0
StreamsAlike =
    (parts others : List (List ℕ)) → Bytes (joined parts) → Bytes (joined others) → SameButReserves (fields_of (joined parts)) (fields_of (joined others))
    → text_outside (streamed no_held [] parts) ≡ text_outside (streamed no_held [] others)
