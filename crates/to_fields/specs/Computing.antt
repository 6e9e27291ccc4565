-- Written by tools/computing.py. Under the line `unfolding computing` every definition of these specs computes.
use Rattle.to_fields.specs.Lines.{line_read as Lines·line_read, field_of as Lines·field_of}
use Rattle.lists.specs.Computing.{computing as lists·computing}
use Rattle.sets.specs.Computing.{computing as sets·computing}
use Rattle.auction.specs.Computing.{computing as auction·computing}
use Rattle.machine.specs.Computing.{computing as machine·computing}
use Rattle.wire.specs.Computing.{computing as wire·computing}
use Rattle.input.specs.Computing.{computing as input·computing}
use Rattle.forms.specs.Computing.{computing as forms·computing}
use Rattle.spelling.specs.Computing.{computing as spelling·computing}
use Rattle.notation.specs.Computing.{computing as notation·computing}
use Rattle.text_lines.specs.Computing.{computing as text_lines·computing}

unfoldable pub computing : Unit {0}
unfolding Lines·line_read Lines·field_of lists·computing sets·computing auction·computing machine·computing wire·computing input·computing forms·computing spelling·computing notation·computing text_lines·computing
computing = tt
