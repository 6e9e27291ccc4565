-- Written by tools/computing.py. Under the line `unfolding computing` every definition of these specs computes.
use Rattle.input.specs.Strings.{cut_at as Strings·cut_at, strings_from as Strings·strings_from, in_front as Strings·in_front, ends_from as Strings·ends_from, bytes_of as Strings·bytes_of}
use Rattle.input.specs.Pieces.{pieces as Pieces·pieces}
use Rattle.input.specs.Fields.{field_size as Fields·field_size, front_size as Fields·front_size}
use Rattle.lists.specs.Computing.{computing as lists·computing}
use Rattle.machine.specs.Computing.{computing as machine·computing}
use Rattle.wire.specs.Computing.{computing as wire·computing}

unfoldable pub computing : Unit {0}
unfolding Strings·cut_at Strings·strings_from Strings·in_front Strings·ends_from Strings·bytes_of Pieces·pieces Fields·field_size Fields·front_size lists·computing machine·computing wire·computing
computing = tt
