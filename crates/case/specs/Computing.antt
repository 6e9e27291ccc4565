-- Written by tools/computing.py. Under the line `unfolding computing` every definition of these specs computes.
use Rattle.case.specs.Cases.{new_case as Cases·new_case, empty_case as Cases·empty_case, case_answer as Cases·case_answer, first_answer as Cases·first_answer, case_answer_to as Cases·case_answer_to, first_answer_to as Cases·first_answer_to, answer_to as Cases·answer_to, reserves_answer as Cases·reserves_answer, case_after as Cases·case_after, after_asked as Cases·after_asked, take_asked as Cases·take_asked, applied as Cases·applied, head_outcome as Cases·head_outcome, outcome_of as Cases·outcome_of}
use Rattle.case.specs.Readings.{counts_in as Readings·counts_in, holding_in as Readings·holding_in, sum_of_prices_in as Readings·sum_of_prices_in, pool_prices_in as Readings·pool_prices_in, reading_in as Readings·reading_in, called_in as Readings·called_in, owed_in as Readings·owed_in, shown_result as Readings·shown_result, seen as Readings·seen}
use Rattle.case.specs.Input.{ledger_after as Input·ledger_after, ledger_answers as Input·ledger_answers}
use Rattle.case.specs.Claim.{ledger_from as Claim·ledger_from, outside_in as Claim·outside_in}
use Rattle.lists.specs.Computing.{computing as lists·computing}
use Rattle.sets.specs.Computing.{computing as sets·computing}
use Rattle.splitting.specs.Computing.{computing as splitting·computing}
use Rattle.auction.specs.Computing.{computing as auction·computing}
use Rattle.waterfall.specs.Computing.{computing as waterfall·computing}
use Rattle.machine.specs.Computing.{computing as machine·computing}
use Rattle.reserves.specs.Computing.{computing as reserves·computing}
use Rattle.wire.specs.Computing.{computing as wire·computing}
use Rattle.input.specs.Computing.{computing as input·computing}
use Rattle.units.specs.Computing.{computing as units·computing}
use Rattle.accounts.specs.Computing.{computing as accounts·computing}
use Rattle.book.specs.Computing.{computing as book·computing}
use Rattle.refusals.specs.Computing.{computing as refusals·computing}

unfoldable pub computing : Unit {0}
unfolding Cases·new_case Cases·empty_case Cases·case_answer Cases·first_answer Cases·case_answer_to Cases·first_answer_to Cases·answer_to Cases·reserves_answer Cases·case_after Cases·after_asked Cases·take_asked Cases·applied Cases·head_outcome Cases·outcome_of Readings·counts_in Readings·holding_in Readings·sum_of_prices_in Readings·pool_prices_in Readings·reading_in Readings·called_in Readings·owed_in Readings·shown_result Readings·seen Input·ledger_after Input·ledger_answers Claim·ledger_from Claim·outside_in lists·computing sets·computing splitting·computing auction·computing waterfall·computing machine·computing reserves·computing wire·computing input·computing units·computing accounts·computing book·computing refusals·computing
computing = tt
