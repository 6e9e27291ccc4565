-- Written by tools/computing.py. Under the line `unfolding computing` every definition of these specs computes.
use Rattle.reserves.specs.Reserves.{valid as Reserves·valid, totals as Reserves·totals, totals_if as Reserves·totals_if, outside_of as Reserves·outside_of, outside as Reserves·outside}
use Rattle.reserves.specs.Text.{left_out as Text·left_out, text_from as Text·text_from}
use Rattle.lists.specs.Computing.{computing as lists·computing}
use Rattle.sets.specs.Computing.{computing as sets·computing}
use Rattle.splitting.specs.Computing.{computing as splitting·computing}
use Rattle.auction.specs.Computing.{computing as auction·computing}
use Rattle.waterfall.specs.Computing.{computing as waterfall·computing}
use Rattle.machine.specs.Computing.{computing as machine·computing}

unfoldable pub computing : Unit {0}
unfolding Reserves·valid Reserves·totals Reserves·totals_if Reserves·outside_of Reserves·outside Text·left_out Text·text_from lists·computing sets·computing splitting·computing auction·computing waterfall·computing machine·computing
computing = tt
