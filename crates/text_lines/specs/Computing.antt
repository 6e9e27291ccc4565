-- Written by tools/computing.py. Under the line `unfolding computing` every definition of these specs computes.
use Rattle.text_lines.specs.Lines.{length_to as Lines·length_to, line_size as Lines·line_size, start_of as Lines·start_of, line_at as Lines·line_at, good_size as Lines·good_size, size_within as Lines·size_within}
use Rattle.lists.specs.Computing.{computing as lists·computing}
use Rattle.auction.specs.Computing.{computing as auction·computing}
use Rattle.machine.specs.Computing.{computing as machine·computing}
use Rattle.wire.specs.Computing.{computing as wire·computing}
use Rattle.input.specs.Computing.{computing as input·computing}
use Rattle.forms.specs.Computing.{computing as forms·computing}

unfoldable pub computing : Unit {0}
unfolding Lines·length_to Lines·line_size Lines·start_of Lines·line_at Lines·good_size Lines·size_within lists·computing auction·computing machine·computing wire·computing input·computing forms·computing
computing = tt
