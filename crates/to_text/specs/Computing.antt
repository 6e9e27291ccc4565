-- Written by tools/computing.py. Under the line `unfolding computing` every definition of these specs computes.
use Rattle.to_text.specs.Texts.{hex_digit as Texts·hex_digit, hex_text as Texts·hex_text, break_text as Texts·break_text, hex_from as Texts·hex_from, comment as Texts·comment, field_text as Texts·field_text}
use Rattle.to_text.specs.Turns.{size_within as Turns·size_within, cut_text as Turns·cut_text}
use Rattle.lists.specs.Computing.{computing as lists·computing}
use Rattle.machine.specs.Computing.{computing as machine·computing}
use Rattle.wire.specs.Computing.{computing as wire·computing}
use Rattle.input.specs.Computing.{computing as input·computing}
use Rattle.forms.specs.Computing.{computing as forms·computing}
use Rattle.spelling.specs.Computing.{computing as spelling·computing}

unfoldable pub computing : Unit {0}
unfolding Texts·hex_digit Texts·hex_text Texts·break_text Texts·hex_from Texts·comment Texts·field_text Turns·size_within Turns·cut_text lists·computing machine·computing wire·computing input·computing forms·computing spelling·computing
computing = tt
