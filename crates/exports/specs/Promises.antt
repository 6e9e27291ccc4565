-- What the exported functions promise, in the terms of the machine.
use Rattle.std.specs.Prelude.{◌≡◌, List, map, ℕ}
use Rattle.std.proofs.Math.Option.{none}
use Rattle.machine.specs.Run.{Observed, run, run_from, observed}
use Rattle.exports.specs.declared.Shown.{Shown}
use Rattle.input.specs.Strings.{in_front}
use Rattle.exports.specs.Showing.{asks}
use Rattle.exports.specs.Machine.{shown_by}

-- of `ledger_calls`: the machine's answers in front of what was there, and what the machine shows after the calls
pub record Called (calls : List (List ℕ)) (old new : List ℕ) (r : Shown) : Type 0 where
  pub answers : new ≡ in_front (map (λ (o : Observed). o.answer) (run calls)) old
  pub shows : r ≡ shown_by (run_from none calls)

-- of `ledger_holdings`: what members hold after the calls
abbrev pub holdings_after : List (List ℕ) → List ℕ → List ℕ → List ℕ → List ℕ
holdings_after calls = asks (observed 0 (run_from none calls)).holdings
