-- What is shown of what is held, in the program's own terms.
use Rattle.std.specs.Prelude.{is_some}
use Rattle.std.specs.Prelude.{true, false, List, ℕ, ◌/◌, ◌%◌, min, eqb, pos, length, get_or, replicate}
use Rattle.lists.specs.Lists.{when◌then◌else◌, tab}
use Rattle.units.specs.Shown.{count_of}
use Rattle.accounts.specs.Members.{owes_of}
use Rattle.book.specs.declared.Book.{Book}
use Rattle.book.specs.declared.Result.{Result}
use Rattle.book.specs.Stages.{letter_of, round_of}
use Rattle.book.specs.Books.{requirement_in, prefunded_in}
use Rattle.book.specs.Results.{result_in}
use Rattle.case.specs.declared.Case.{Case}
use Rattle.case.specs.Cases.{Held, case_in}
use Rattle.case.specs.Readings.{sum_of_prices_in, holding_in}
use Rattle.exports.specs.declared.Shown.{Shown}

-- the five counts of pool 0, then of pools 1 to 3
unfoldable pub count_table : Case → List ℕ
count_table c = tab 20 (λ k. count_of c.book.units c.book.bids.pool (k / 5) (k % 5))

-- what each of the 32 places owes
unfoldable pub owes_table : Book → List ℕ
owes_table b = tab 32 (owes_of b.members)

-- no result yet
unfoldable pub no_result : Result
no_result =
    record {
      loss = 0;
      charges = replicate 6 0;
      uncovered = 0;
      ranks = replicate 32 0;
      contributions = replicate 32 0;
      payments = replicate 32 0;
    }

-- what FINISH gave
unfoldable pub result_shown : Case → Result
result_shown c = when eqb (letter_of c.stage) 5 then result_in c.book else no_result

-- where no case is held
unfoldable pub none_shown : Shown
none_shown =
    record {
      present = false;
      stage = 0;
      round = 0;
      pools = 0;
      bids = 0;
      stands = replicate 256 false;
      counts = replicate 20 0;
      prices = pos 0;
      requirement = 0;
      prefunded = 0;
      owes = replicate 32 0;
      loss = 0;
      charges = replicate 6 0;
      uncovered = 0;
      ranks = replicate 32 0;
      contributions = replicate 32 0;
      payments = replicate 32 0;
    }

-- where a case is held
unfoldable pub case_shown : Case → Shown
case_shown c =
    let r = result_shown c in
    record {
      present = true;
      stage = letter_of c.stage;
      round = round_of c.stage;
      pools = c.book.pools.given;
      bids = c.book.bids.kept;
      stands = c.book.bids.stands;
      counts = count_table c;
      prices = sum_of_prices_in c;
      requirement = requirement_in c.book;
      prefunded = prefunded_in c.book;
      owes = owes_table c.book;
      loss = r.loss;
      charges = r.charges;
      uncovered = r.uncovered;
      ranks = r.ranks;
      contributions = r.contributions;
      payments = r.payments;
    }

unfoldable pub shown_of : Held → Shown
shown_of h = when is_some h then case_shown (case_in h) else none_shown

-- the units of a pool that a member holds at a price
unfoldable pub holding_shown : Held → ℕ → ℕ → ℕ → ℕ
holding_shown h m pool price = when is_some h then holding_in (case_in h) m pool price else 0

-- holdings asked by member, pool and price, as many as there are of all three
unfoldable pub asks : (ℕ → ℕ → ℕ → ℕ) → List ℕ → List ℕ → List ℕ → List ℕ
asks holding members pools prices =
    tab (min (min (length members) (length pools)) (length prices)) (λ k. holding (get_or members k 0) (get_or pools k 0) (get_or prices k 0))

abbrev pub holdings_of : Held → List ℕ → List ℕ → List ℕ → List ℕ
holdings_of h = asks (holding_shown h)
