-- What outsiders read of the program's case.
use Rattle.std.specs.Prelude.{is_some}
use Rattle.std.specs.Prelude as R
use Rattle.std.specs.Prelude.{Ok, Err, List, [], map, ℕ, eqb, ℤ, pos, get_or}
use Rattle.std.proofs.Math.Option.{none, some}
use Rattle.std.proofs.Math.IntN.{sub_ℕ}
use Rattle.lists.specs.Lists.{when◌then◌else◌, tab}
use Rattle.sets.specs.Set.{members}
use Rattle.machine.specs.Run.{MemberResult, Result, Observed}
use Rattle.machine.specs.Running.{Reading}
use Rattle.units.specs.Steps.{zero_sum}
use Rattle.units.specs.Shown.{count_of, holding_of, sum_of, zero_prices}
use Rattle.accounts.specs.Members.{owes_of}
use Rattle.book.specs.Stages.{letter_of}
use Rattle.book.specs.Books.{prices_in, requirement_in}
use Rattle.book.specs.Results.{result_in}
use Rattle.book.specs.declared.Book.{Book}
use Rattle.case.specs.declared.Case.{Case}
use Rattle.case.specs.Cases.{Held, case_in}

-- the five counts of a pool
unfoldable pub counts_in : Case → ℕ → List ℕ
counts_in c pool = tab 5 (count_of c.book.units c.book.bids.pool pool)

-- the units of a pool that a member holds at a price
unfoldable pub holding_in : Case → ℕ → ℕ → ℕ → ℕ
holding_in c m pool price = holding_of c.book.units c.book.bids.member c.book.bids.pool c.book.bids.price m pool price

-- the sum of the prices of the units not open, in cents
unfoldable pub sum_of_prices_in : Case → ℤ
sum_of_prices_in c = sub_ℕ (prices_in c.book) zero_prices

-- document 02, C-16: what is kept of the units of a pool that have left the house, in cents; nothing has left where no case is held
unfoldable pub pool_prices_in : Held → ℕ → ℤ
pool_prices_in h pool = when is_some h then sub_ℕ (sum_of (case_in h).book.units pool) zero_sum else pos 0

-- the requirement, "read from this sum and the two losses alone; with no case the reading is declined by 2"
unfoldable pub reading_in : Held → R.Result ℕ ℕ
reading_in h = when is_some h then Ok (requirement_in (case_in h).book) else Err 2

-- a reading as the machine gives it: an answer, and cents where it is 0
abbrev pub as_read : R.Result ℕ ℕ → Reading
as_read (Ok cents) = (0, cents)
as_read (Err n) = (n, 0)

-- document 02, C-17: "every call on a member", and what each owes, in member order; none where no case is held
unfoldable pub called_in : Held → List ℕ
called_in h = let b = (case_in h).book in when is_some h then map (λ m. get_or b.members.called m 0) (members b.head.set) else []

unfoldable pub owed_in : Held → List ℕ
owed_in h = let b = (case_in h).book in when is_some h then map (owes_of b.members) (members b.head.set) else []

-- member m's rank and charges
abbrev pub member_result_in : Book → ℕ → MemberResult
member_result_in b m =
    record {
      member = m;
      rank = get_or (result_in b).ranks m 0;
      on_contribution = get_or (result_in b).contributions m 0;
      on_payments = get_or (result_in b).payments m 0;
    }

-- what FINISH gives
unfoldable pub shown_result : Book → Result
shown_result b =
    record {
      loss = (result_in b).loss;
      charges = (result_in b).charges;
      uncovered = (result_in b).uncovered;
      members = map (member_result_in b) (members b.head.set);
    }

-- what is observed of what is held, after a call that was answered n
unfoldable pub seen : ℕ → Held → Observed
seen n h =
    let c = case_in h in
    record {
      answer = n;
      counts = when is_some h then tab c.book.pools.given (counts_in c) else [];
      holdings = λ m pool price. when is_some h then holding_in c m pool price else 0;
      prices = when is_some h then sum_of_prices_in c else pos 0;
      result = when is_some h then (when eqb (letter_of c.stage) 5 then some (shown_result c.book) else none) else none;
    }
