-- Written by tools/computing.py. Under the line `unfolding computing` every definition of these specs computes.
use Rattle.turns.specs.Keys.{allocated_key as Keys·allocated_key, sold_key as Keys·sold_key, key_at as Keys·key_at, live_keys as Keys·live_keys, least_key as Keys·least_key, key_place as Keys·key_place, key_price as Keys·key_price, needed as Keys·needed}
use Rattle.lists.specs.Computing.{computing as lists·computing}
use Rattle.auction.specs.Computing.{computing as auction·computing}
use Rattle.machine.specs.Computing.{computing as machine·computing}

unfoldable pub computing : Unit {0}
unfolding Keys·allocated_key Keys·sold_key Keys·key_at Keys·live_keys Keys·least_key Keys·key_place Keys·key_price Keys·needed lists·computing auction·computing machine·computing
computing = tt
