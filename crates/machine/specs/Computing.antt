-- Written by tools/computing.py. Under the line `unfolding computing` every definition of these specs computes.
use Rattle.machine.specs.Wire.{big_endian as Wire·big_endian, number as Wire·number, signed as Wire·signed, price as Wire·price, right_length as Wire·right_length, call_of as Wire·call_of, decode as Wire·decode}
use Rattle.machine.specs.Roll.{kind as Roll·kind, is_agreed as Roll·is_agreed, is_open as Roll·is_open, open_in as Roll·open_in, price_of as Roll·price_of, held_by as Roll·held_by, passed_to as Roll·passed_to, put_up as Roll·put_up, give_lowest as Roll·give_lowest, open_units as Roll·open_units, any_open as Roll·any_open, prices as Roll·prices, agreed_prices as Roll·agreed_prices, sold_by_agreement as Roll·sold_by_agreement}
use Rattle.machine.specs.State.{round_of as State·round_of, letter as State·letter, letter_of as State·letter_of, member_at as State·member_at}
use Rattle.machine.specs.Requirement.{requirement as Requirement·requirement, first_tranche as Requirement·first_tranche, second_tranche as Requirement·second_tranche, contributions as Requirement·contributions, prefunded as Requirement·prefunded, owes as Requirement·owes}
use Rattle.machine.specs.Move.{may_move as Move·may_move, turn as Move·turn, later as Move·later, better as Move·better, next_from as Move·next_from, move_units as Move·move_units, move_all as Move·move_all}
use Rattle.machine.specs.Calls.{after_pool as Calls·after_pool, after_member as Calls·after_member, new_round as Calls·new_round, after_round as Calls·after_round, after_bid as Calls·after_bid, reserve as Calls·reserve, in_round as Calls·in_round, in_auction as Calls·in_auction, won_in as Calls·won_in, won_given as Calls·won_given, bids_after as Calls·bids_after, sell as Calls·sell, after_close as Calls·after_close, won_by_member as Calls·won_by_member, shortfall as Calls·shortfall, total_shortfall as Calls·total_shortfall, allocation as Calls·allocation, give_shares as Calls·give_shares, also_allocated as Calls·also_allocated, after_allocate as Calls·after_allocate, after_tear as Calls·after_tear, calls as Calls·calls, after_call as Calls·after_call, after_pay as Calls·after_pay, after_move as Calls·after_move, after_miss as Calls·after_miss, sold as Calls·sold, after_sale as Calls·after_sale, after_withdraw as Calls·after_withdraw, accepted as Calls·accepted}
use Rattle.machine.specs.Refusals.{head_ok as Refusals·head_ok, pool_ok as Refusals·pool_ok, member_ok as Refusals·member_ok, bid_ok as Refusals·bid_ok, payment_ok as Refusals·payment_ok, not_in_case as Refusals·not_in_case, not_in_set as Refusals·not_in_set, none_open as Refusals·none_open, marked as Refusals·marked, not_given as Refusals·not_given, someone_owes as Refusals·someone_owes, none_passed as Refusals·none_passed, sale_too_dear as Refusals·sale_too_dear, none_stands as Refusals·none_stands, tests as Refusals·tests, refusal as Refusals·refusal}
use Rattle.machine.specs.Machine.{answered as Machine·answered, step as Machine·step}
use Rattle.machine.specs.Table.{letter_of_stage as Table·letter_of_stage, letter_in as Table·letter_in, row as Table·row, stage_table as Table·stage_table, wrong_reserves as Table·wrong_reserves, wrong_length as Table·wrong_length, declined as Table·declined, meant as Table·meant, early_answer as Table·early_answer}
use Rattle.machine.specs.Result.{worst_reserve as Result·worst_reserve, standing as Result·standing, rank as Result·rank, payments as Result·payments, limits as Result·limits, six_charges as Result·six_charges, charge as Result·charge, uncovered_rest as Result·uncovered_rest, spent as Result·spent, on_contribution as Result·on_contribution, on_payments as Result·on_payments}
use Rattle.machine.specs.Run.{five_counts as Run·five_counts, holding as Run·holding, sum_of_prices as Run·sum_of_prices, result_of as Run·result_of, observed as Run·observed, run_from as Run·run_from, observed_from as Run·observed_from, run as Run·run}
use Rattle.machine.specs.Running.{left_prices as Running·left_prices, left_sum as Running·left_sum, in_cents as Running·in_cents, at_price as Running·at_price, sold_for as Running·sold_for, saved_in as Running·saved_in, torn_for as Running·torn_for, added as Running·added, added_by as Running·added_by, kept_step as Running·kept_step, kept_from as Running·kept_from, read_from as Running·read_from, reading as Running·reading}
use Rattle.machine.specs.Printed.{fields_in as Printed·fields_in, s_line as Printed·s_line, p_line as Printed·p_line, l_line as Printed·l_line, m_line as Printed·m_line, end_lines as Printed·end_lines, lines_from as Printed·lines_from, decimal as Printed·decimal, numbers_text as Printed·numbers_text, text as Printed·text, printed as Printed·printed}
use Rattle.lists.specs.Computing.{computing as lists·computing}
use Rattle.sets.specs.Computing.{computing as sets·computing}
use Rattle.splitting.specs.Computing.{computing as splitting·computing}
use Rattle.auction.specs.Computing.{computing as auction·computing}
use Rattle.waterfall.specs.Computing.{computing as waterfall·computing}

unfoldable pub computing : Unit {0}
unfolding Wire·big_endian Wire·number Wire·signed Wire·price Wire·right_length Wire·call_of Wire·decode Roll·kind Roll·is_agreed Roll·is_open Roll·open_in Roll·price_of Roll·held_by Roll·passed_to Roll·put_up Roll·give_lowest Roll·open_units Roll·any_open Roll·prices Roll·agreed_prices Roll·sold_by_agreement State·round_of State·letter State·letter_of State·member_at Requirement·requirement Requirement·first_tranche Requirement·second_tranche Requirement·contributions Requirement·prefunded Requirement·owes Move·may_move Move·turn Move·later Move·better Move·next_from Move·move_units Move·move_all Calls·after_pool Calls·after_member Calls·new_round Calls·after_round Calls·after_bid Calls·reserve Calls·in_round Calls·in_auction Calls·won_in Calls·won_given Calls·bids_after Calls·sell Calls·after_close Calls·won_by_member Calls·shortfall Calls·total_shortfall Calls·allocation Calls·give_shares Calls·also_allocated Calls·after_allocate Calls·after_tear Calls·calls Calls·after_call Calls·after_pay Calls·after_move Calls·after_miss Calls·sold Calls·after_sale Calls·after_withdraw Calls·accepted Refusals·head_ok Refusals·pool_ok Refusals·member_ok Refusals·bid_ok Refusals·payment_ok Refusals·not_in_case Refusals·not_in_set Refusals·none_open Refusals·marked Refusals·not_given Refusals·someone_owes Refusals·none_passed Refusals·sale_too_dear Refusals·none_stands Refusals·tests Refusals·refusal Machine·answered Machine·step Table·letter_of_stage Table·letter_in Table·row Table·stage_table Table·wrong_reserves Table·wrong_length Table·declined Table·meant Table·early_answer Result·worst_reserve Result·standing Result·rank Result·payments Result·limits Result·six_charges Result·charge Result·uncovered_rest Result·spent Result·on_contribution Result·on_payments Run·five_counts Run·holding Run·sum_of_prices Run·result_of Run·observed Run·run_from Run·observed_from Run·run Running·left_prices Running·left_sum Running·in_cents Running·at_price Running·sold_for Running·saved_in Running·torn_for Running·added Running·added_by Running·kept_step Running·kept_from Running·read_from Running·reading Printed·fields_in Printed·s_line Printed·p_line Printed·l_line Printed·m_line Printed·end_lines Printed·lines_from Printed·decimal Printed·numbers_text Printed·text Printed·printed lists·computing sets·computing splitting·computing auction·computing waterfall·computing
computing = tt
