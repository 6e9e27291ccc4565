-- Written by tools/computing.py. Under the line `unfolding computing` every definition of these specs computes.
use Rattle.units.specs.Places.{unit_at as Places·unit_at, weigh as Places·weigh}
use Rattle.units.specs.Steps.{no_units as Steps·no_units, transferred as Steps·transferred, repriced as Steps·repriced, put_up_units as Steps·put_up_units, sell_units as Steps·sell_units, shared_counts as Steps·shared_counts, shared_sums as Steps·shared_sums, allocate_units as Steps·allocate_units, noted_at as Steps·noted_at, tear_units as Steps·tear_units, missed_to as Steps·missed_to, miss_units as Steps·miss_units, sale_units as Steps·sale_units}
use Rattle.units.specs.Groups.{pool_at as Groups·pool_at, move_units as Groups·move_units}
use Rattle.units.specs.Shown.{open_of as Shown·open_of, agreed_of as Shown·agreed_of, buyer_of as Shown·buyer_of, sale_price_of as Shown·sale_price_of, column as Shown·column, sold_in as Shown·sold_in, count_of as Shown·count_of, sold_for as Shown·sold_for, holding_of as Shown·holding_of, passed_of as Shown·passed_of, sum_of as Shown·sum_of, prices_of as Shown·prices_of}
use Rattle.lists.specs.Computing.{computing as lists·computing}
use Rattle.sets.specs.Computing.{computing as sets·computing}
use Rattle.auction.specs.Computing.{computing as auction·computing}
use Rattle.machine.specs.Computing.{computing as machine·computing}
use Rattle.turns.specs.Computing.{computing as turns·computing}

unfoldable pub computing : Unit {0}
unfolding Places·unit_at Places·weigh Steps·no_units Steps·transferred Steps·repriced Steps·put_up_units Steps·sell_units Steps·shared_counts Steps·shared_sums Steps·allocate_units Steps·noted_at Steps·tear_units Steps·missed_to Steps·miss_units Steps·sale_units Groups·pool_at Groups·move_units Shown·open_of Shown·agreed_of Shown·buyer_of Shown·sale_price_of Shown·column Shown·sold_in Shown·count_of Shown·sold_for Shown·holding_of Shown·passed_of Shown·sum_of Shown·prices_of lists·computing sets·computing auction·computing machine·computing turns·computing
computing = tt
