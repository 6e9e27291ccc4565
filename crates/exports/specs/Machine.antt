-- What the machine shows, in the numbers of `Shown`.
use Rattle.std.specs.Prelude.{true, ◌/◌, ◌%◌, eqb, length, get_or}
use Rattle.std.proofs.Math.Option.{none, some}
use Rattle.lists.specs.Lists.{when◌then◌else◌, tab}
use Rattle.machine.specs.Roll.{no_bid}
use Rattle.machine.specs.State.{Case, State, letter, round_of}
use Rattle.machine.specs.Requirement.{requirement, prefunded, owes}
use Rattle.machine.specs.Result.{rank, six_charges, uncovered_rest, on_contribution, on_payments}
use Rattle.machine.specs.Run.{five_counts, sum_of_prices}
use Rattle.book.specs.declared.Result.{Result}
use Rattle.exports.specs.declared.Shown.{Shown}
use Rattle.exports.specs.declared.Reading.{Reading}
use Rattle.exports.specs.Showing.{no_result, none_shown}

-- "After an accepted FINISH also the loss, the six charges, the uncovered rest and each member's rank and charges"
unfoldable pub final_of : Case → Result
final_of c =
    record {
      loss = requirement c;
      charges = six_charges c;
      uncovered = uncovered_rest c;
      ranks = tab 32 (rank c);
      contributions = tab 32 (on_contribution c);
      payments = tab 32 (on_payments c);
    }

-- how many bids there are and which of them stand, "per pool the five counts" and "the sum of prices of the units not open", the requirement, what is prefunded and what each member owes
unfoldable pub shown_in : Case → Shown
shown_in c =
    let r = when eqb (letter c.stage) 5 then final_of c else no_result in
    record {
      present = true;
      stage = letter c.stage;
      round = round_of c.stage;
      pools = length c.pools;
      bids = length c.bids;
      stands = tab 256 (λ n. (get_or c.bids n no_bid).stands);
      counts = tab 20 (λ k. get_or (five_counts c.roll (k / 5)) (k % 5) 0);
      prices = sum_of_prices c;
      requirement = requirement c;
      prefunded = prefunded c;
      owes = tab 32 (owes c.members);
      loss = r.loss;
      charges = r.charges;
      uncovered = r.uncovered;
      ranks = r.ranks;
      contributions = r.contributions;
      payments = r.payments;
    }

-- zeros where there is no case
unfoldable pub shown_by : State → Shown
shown_by none = none_shown
shown_by (some c) = shown_in c

-- document 02, C-16: the requirement; "with no case the reading is declined by 2"
unfoldable pub read_by : State → Reading
read_by none = record { answer = 2; cents = 0 }
read_by (some c) = record { answer = 0; cents = requirement c }
