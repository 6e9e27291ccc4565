-- Document 01, "The unit roll": what is compared after every call, over every list of calls.
use Rattle.std.specs.Prelude.{◌&&◌, List, [], ◌∷◌, map, ℕ, eqb, ℤ, length}
use Rattle.std.proofs.Math.Option.{Option, none, some}
use Rattle.lists.specs.Lists.{when◌then◌else◌, count, tab}
use Rattle.auction.specs.Price.{sum_cents}
use Rattle.machine.specs.Roll.{Entry, Bid, kind, price_of, held_by, prices}
use Rattle.machine.specs.State.{Case, State, the_case, is_f, member_list}
use Rattle.machine.specs.Requirement.{requirement}
use Rattle.machine.specs.Machine.{step}
use Rattle.machine.specs.Result.{rank, six_charges, uncovered_rest, on_contribution, on_payments}

-- "per pool the five counts": open, sold, allocated, moved, torn
unfoldable pub five_counts : List Entry → ℕ → List ℕ
five_counts roll pool = tab 5 (λ k. count (λ e. eqb e.pool pool && eqb (kind e.state) k) roll)

-- "per member its holdings (units sold to its bids, allocated or moved to it, by pool and price)": the units of a pool that it holds at a price
unfoldable pub holding : List Bid → List Entry → ℕ → ℕ → ℕ → ℕ
holding bids roll m pool price =
    count (λ e. eqb e.pool pool && held_by bids m e.state && eqb (price_of bids e.state) price) roll

-- "the sum of prices of the units not open", in cents
unfoldable pub sum_of_prices : Case → ℤ
sum_of_prices c = sum_cents (prices c.bids c.roll)

-- "each member's rank and charges"
pub record MemberResult : Type 0 where
  pub member : ℕ
  pub rank : ℕ
  pub on_contribution : ℕ
  pub on_payments : ℕ

-- "After an accepted FINISH also the loss, the six charges, the uncovered rest and each member's rank and charges"
pub record Result : Type 0 where
  pub loss : ℕ
  pub charges : List ℕ
  pub uncovered : ℕ
  pub members : List MemberResult

unfoldable pub result_of : Case → Result
result_of c =
    record {
      loss = requirement c;
      charges = six_charges c;
      uncovered = uncovered_rest c;
      members =
          map
          (λ m. record { member = m; rank = rank c m; on_contribution = on_contribution c m; on_payments = on_payments c m })
          (member_list c.head);
    }

-- "Compared after every call: the answer, per pool the five counts, per member its holdings .., and the sum of prices of the units not open."
pub record Observed : Type 0 where
  pub answer : ℕ
  pub counts : List (List ℕ)
  pub holdings : ℕ → ℕ → ℕ → ℕ
  pub prices : ℤ
  pub result : Option Result

unfoldable pub observed : ℕ → State → Observed
observed n s =
    let c = the_case s in
    record {
      answer = n;
      counts = tab (length c.pools) (five_counts c.roll);
      holdings = holding c.bids c.roll;
      prices = sum_of_prices c;
      result = when is_f s then some (result_of c) else none;
    }

-- the state after a list of calls
unfoldable pub run_from : State → List (List ℕ) → State
run_from s [] = s
run_from s (call ∷ calls) = run_from (step s call).state calls

-- what is observed after each call of a list
unfoldable pub observed_from : State → List (List ℕ) → List Observed
observed_from s [] = []
observed_from s (call ∷ calls) =
    let next = step s call in
    observed next.answer next.state ∷ observed_from next.state calls

-- "All this is one claim about every list of calls": what every ledger must show, from no case on
unfoldable pub run : List (List ℕ) → List Observed
run calls = observed_from none calls
