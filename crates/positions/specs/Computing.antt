-- Written by tools/computing.py. Under the line `unfolding computing` every definition of these specs computes.
use Rattle.positions.specs.Days.{day_at as Days·day_at, days_of as Days·days_of, in_range as Days·in_range, last_days as Days·last_days, sum_at as Days·sum_at, sums_of as Days·sums_of, why_before as Days·why_before, records_in as Days·records_in, why_record as Days·why_record, why_run as Days·why_run, by_member as Days·by_member, expected_units as Days·expected_units}
use Rattle.positions.specs.Keeping.{no_days as Keeping·no_days, row_of as Keeping·row_of, rolled as Keeping·rolled, rolled_at as Keeping·rolled_at, day_kept as Keeping·day_kept, kept_after as Keeping·kept_after, taken as Keeping·taken, part_of as Keeping·part_of, why_end as Keeping·why_end, ended as Keeping·ended, fed as Keeping·fed, in_parts as Keeping·in_parts}
use Rattle.lists.specs.Computing.{computing as lists·computing}
use Rattle.sets.specs.Computing.{computing as sets·computing}
use Rattle.splitting.specs.Computing.{computing as splitting·computing}
use Rattle.auction.specs.Computing.{computing as auction·computing}
use Rattle.machine.specs.Computing.{computing as machine·computing}
use Rattle.wire.specs.Computing.{computing as wire·computing}

unfoldable pub computing : Unit {0}
unfolding Days·day_at Days·days_of Days·in_range Days·last_days Days·sum_at Days·sums_of Days·why_before Days·records_in Days·why_record Days·why_run Days·by_member Days·expected_units Keeping·no_days Keeping·row_of Keeping·rolled Keeping·rolled_at Keeping·day_kept Keeping·kept_after Keeping·taken Keeping·part_of Keeping·why_end Keeping·ended Keeping·fed Keeping·in_parts lists·computing sets·computing splitting·computing auction·computing machine·computing wire·computing
computing = tt
