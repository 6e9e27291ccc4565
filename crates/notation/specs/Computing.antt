-- Written by tools/computing.py. Under the line `unfolding computing` every definition of these specs computes.
use Rattle.notation.specs.Reading.{letter_of as Reading·letter_of, grown as Reading·grown, code_from as Reading·code_from, key_code as Reading·key_code, tag_named as Reading·tag_named, limit_of as Reading·limit_of, number_of as Reading·number_of, strangeness as Reading·strangeness, settle_name as Reading·settle_name, settle_key as Reading·settle_key, settle_number as Reading·settle_number, settle_dash as Reading·settle_dash, settle as Reading·settle, on_letter as Reading·on_letter, next_point as Reading·next_point, more_digits as Reading·more_digits, on_digit as Reading·on_digit, on_minus as Reading·on_minus, on_point as Reading·on_point, on_member as Reading·on_member, on_list as Reading·on_list, on_comma as Reading·on_comma, complete as Reading·complete, ended as Reading·ended, returned as Reading·returned, behind as Reading·behind, mark_read as Reading·mark_read, byte_read as Reading·byte_read, step as Reading·step, scan as Reading·scan, call_of as Reading·call_of, outcome as Reading·outcome, read_line as Reading·read_line, asked_by as Reading·asked_by, is_refused as Reading·is_refused}
use Rattle.lists.specs.Computing.{computing as lists·computing}
use Rattle.sets.specs.Computing.{computing as sets·computing}
use Rattle.auction.specs.Computing.{computing as auction·computing}
use Rattle.machine.specs.Computing.{computing as machine·computing}
use Rattle.wire.specs.Computing.{computing as wire·computing}
use Rattle.forms.specs.Computing.{computing as forms·computing}
use Rattle.spelling.specs.Computing.{computing as spelling·computing}

unfoldable pub computing : Unit {0}
unfolding Reading·letter_of Reading·grown Reading·code_from Reading·key_code Reading·tag_named Reading·limit_of Reading·number_of Reading·strangeness Reading·settle_name Reading·settle_key Reading·settle_number Reading·settle_dash Reading·settle Reading·on_letter Reading·next_point Reading·more_digits Reading·on_digit Reading·on_minus Reading·on_point Reading·on_member Reading·on_list Reading·on_comma Reading·complete Reading·ended Reading·returned Reading·behind Reading·mark_read Reading·byte_read Reading·step Reading·scan Reading·call_of Reading·outcome Reading·read_line Reading·asked_by Reading·is_refused lists·computing sets·computing auction·computing machine·computing wire·computing forms·computing spelling·computing
computing = tt
