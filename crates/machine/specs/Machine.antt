-- Document 01, "The unit roll": "The roll's machine is fed the calls' bytes and nothing else .. It takes each call on these by the rules
-- above and refuses by the list below; a refused call leaves all as it was."
use Rattle.std.specs.Prelude.{List, ℕ, eqb}
use Rattle.std.proofs.Math.Option.{Option, none, some}
use Rattle.lists.specs.Lists.{when◌then◌else◌}
use Rattle.machine.specs.Wire.{Call, decode}
use Rattle.machine.specs.State.{State, the_case}
use Rattle.machine.specs.Calls.{accepted}
use Rattle.machine.specs.Refusals.{refusal}

-- an answer and the state that goes with it
pub record Answered : Type 0 where
  pub answer : ℕ
  pub state : State

-- a call taken: "Each gives its number and the unchanged case (none where there was none); 0 is accepted."
unfoldable pub answered : State → Option Call → Answered
answered s none = record { answer = 1; state = s }
answered s (some call) =
    let n = refusal s call in
    record { answer = n; state = when eqb n 0 then some (accepted (the_case s) call) else s }

-- one call, from its bytes
unfoldable pub step : State → List ℕ → Answered
step s bytes = answered s (decode bytes)
