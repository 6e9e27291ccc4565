-- Written by tools/computing.py. Under the line `unfolding computing` every definition of these specs computes.
use Rattle.wire.specs.Asked.{asked as Asked·asked}
use Rattle.lists.specs.Computing.{computing as lists·computing}
use Rattle.auction.specs.Computing.{computing as auction·computing}
use Rattle.machine.specs.Computing.{computing as machine·computing}

unfoldable pub computing : Unit {0}
unfolding Asked·asked lists·computing auction·computing machine·computing
computing = tt
