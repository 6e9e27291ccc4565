-- The sum of prices that is shown is a signed number of 64 bits. Assumes nothing.
use mathlib.Core.Path.{◌≡◌, ap}
use mathlib.Core.Bool.{true}
use lib.IntN.{ℤ}
use mir.Syntax.{w64}
use mir.Val.{SFits, to_z, of_z}
use mir.Facts.{to_z-of_z}
use Rattle.book.specs.Books.{requirement_in, prefunded_in}
use Rattle.book.specs.Stages.{letter_of, round_of}
use Rattle.case.specs.declared.Case.{Case}
use Rattle.case.specs.Readings.{sum_of_prices_in}
use Rattle.exports.specs.declared.Shown.{Shown}
use Rattle.exports.specs.Showing.{count_table, owes_table, result_shown, case_shown}

-- what is shown of a case, with another sum of prices
unfoldable pub with-prices : Case → ℤ → Shown
with-prices c z =
    let r = result_shown c in
    record {
      present = true;
      stage = letter_of c.stage;
      round = round_of c.stage;
      pools = c.book.pools.given;
      bids = c.book.bids.kept;
      stands = c.book.bids.stands;
      counts = count_table c;
      prices = z;
      requirement = requirement_in c.book;
      prefunded = prefunded_in c.book;
      owes = owes_table c.book;
      loss = r.loss;
      charges = r.charges;
      uncovered = r.uncovered;
      ranks = r.ranks;
      contributions = r.contributions;
      payments = r.payments;
    }

-- the sum read back from its 64 bits
pub read_back : (c : Case) → SFits w64 (sum_of_prices_in c) → with-prices c (to_z w64 (of_z w64 (sum_of_prices_in c))) ≡ case_shown c
unfolding case_shown with-prices
read_back c fits = ap (with-prices c) (to_z-of_z {w = w64} {z = sum_of_prices_in c} fits)
