-- Written by tools/computing.py. Under the line `unfolding computing` every definition of these specs computes.
use Rattle.rows.specs.Reading.{strange as Reading·strange, settle as Reading·settle, grow as Reading·grow, has_room as Reading·has_room, first_digit as Reading·first_digit, on_digit as Reading·on_digit, on_comma as Reading·on_comma, ended as Reading·ended, on_mark as Reading·on_mark, byte_read as Reading·byte_read, behind as Reading·behind, step as Reading·step, scan as Reading·scan, finish as Reading·finish, outcome as Reading·outcome, row_of as Reading·row_of, more_text as Reading·more_text, row_text as Reading·row_text}
use Rattle.rows.specs.Days.{day_of as Days·day_of, refused_day as Days·refused_day, four_each as Days·four_each, record_of as Days·record_of}
use Rattle.lists.specs.Computing.{computing as lists·computing}
use Rattle.auction.specs.Computing.{computing as auction·computing}
use Rattle.machine.specs.Computing.{computing as machine·computing}
use Rattle.wire.specs.Computing.{computing as wire·computing}
use Rattle.input.specs.Computing.{computing as input·computing}
use Rattle.forms.specs.Computing.{computing as forms·computing}
use Rattle.text_lines.specs.Computing.{computing as text_lines·computing}

unfoldable pub computing : Unit {0}
unfolding Reading·strange Reading·settle Reading·grow Reading·has_room Reading·first_digit Reading·on_digit Reading·on_comma Reading·ended Reading·on_mark Reading·byte_read Reading·behind Reading·step Reading·scan Reading·finish Reading·outcome Reading·row_of Reading·more_text Reading·row_text Days·day_of Days·refused_day Days·four_each Days·record_of lists·computing auction·computing machine·computing wire·computing input·computing forms·computing text_lines·computing
computing = tt
