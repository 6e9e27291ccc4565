-- Written by tools/computing.py. Under the line `unfolding computing` every definition of these specs computes.
use Rattle.splitting.specs.Split.{floor_at as Split·floor_at, remainder_at as Split·remainder_at, at_tie as Split·at_tie, ahead as Split·ahead, places_ahead as Split·places_ahead, left as Split·left, share_at as Split·share_at, split as Split·split, split_among as Split·split_among}
use Rattle.splitting.specs.Ranking.{put as Ranking·put, in_order as Ranking·in_order, ranking as Ranking·ranking, sweep as Ranking·sweep, swept as Ranking·swept}
use Rattle.splitting.specs.Limits.{refusal as Limits·refusal, split_into as Limits·split_into, ranking_into as Limits·ranking_into}
use Rattle.splitting.specs.Parts.{remainders as Parts·remainders, ahead_in as Parts·ahead_in, ranking_in as Parts·ranking_in, into as Parts·into, merge as Parts·merge}
use Rattle.lists.specs.Computing.{computing as lists·computing}

unfoldable pub computing : Unit {0}
unfolding Split·floor_at Split·remainder_at Split·at_tie Split·ahead Split·places_ahead Split·left Split·share_at Split·split Split·split_among Ranking·put Ranking·in_order Ranking·ranking Ranking·sweep Ranking·swept Limits·refusal Limits·split_into Limits·ranking_into Parts·remainders Parts·ahead_in Parts·ranking_in Parts·into Parts·merge lists·computing
computing = tt
