-- Document 02, C-17: the question for the requirement is answered alike, whatever the reserves (specs/Answers.antt, `SaysAlike`). Assumes nothing.
use Rattle.std.specs.Prelude.{Some, None}
use mathlib.Core.Path.{◌≡◌, refl, sym, ap, ◌∙◌}
use mathlib.Core.List.{List}
use Prim.Native.Nat.{ℕ}
use lib.ListN.{length, take}
use lib.Seq.{take-length}
use Rattle.reserves.specs.Reserves.{Outside, outside_of}
use Rattle.case.specs.Cases.{no_held}
use Rattle.case.specs.Input.{ledger_after}
use Rattle.case.specs.Claim.{outside_in}
use Rattle.case.proofs.Claims.{claim}
use Rattle.std.specs.Prelude.{true, false, eqb}
use Rattle.lists.specs.Lists.{when◌then◌else◌}
use Rattle.case.specs.Cases.{Held}
use Rattle.case.specs.Readings.{reading_in, as_read}
use Rattle.asking.specs.Answers.{Said, requirement_text, refusal_text, reading_said, said_to, SaysAlike}

-- what is said, from a reading as a pair
abbrev said : ℕ × ℕ → Said
said p = when eqb p.0 0 then (true, requirement_text p.1) else (false, refusal_text p.0)

said-is : (h : Held) → reading_said (reading_in h) ≡ said (as_read (reading_in h))
unfolding reading_said reading_in
said-is None = refl
said-is (Some c) = refl

pub says-alike : SaysAlike
unfolding said_to outside_in outside_of
says-alike calls others each also same =
    let seen : List (List ℕ) → Outside = λ cs. outside_in (ledger_after no_held cs) in
    let all : take (length calls) others ≡ others = ap (λ (n : ℕ). take n others) same.fields.as_many ∙ take-length others in
    let shown : seen calls ≡ seen others
    = ap seen (sym (take-length calls)) ∙ (claim.reserves calls others each also same).shown (length calls) ∙ ap seen all in
    said-is (ledger_after no_held calls) ∙ ap (λ (o : Outside). said o.requirement) shown ∙ sym (said-is (ledger_after no_held others))
