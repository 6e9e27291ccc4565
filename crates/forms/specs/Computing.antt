-- Written by tools/computing.py. Under the line `unfolding computing` every definition of these specs computes.
use Rattle.forms.specs.Forms.{tag_of as Forms·tag_of, numbers_of as Forms·numbers_of, form_of as Forms·form_of, kind_of as Forms·kind_of, flat_round as Forms·flat_round, flattened as Forms·flattened}
use Rattle.forms.specs.Put.{put_into as Put·put_into}
use Rattle.forms.specs.Encode.{bytes_of as Encode·bytes_of, width_of as Encode·width_of, raw_of as Encode·raw_of, field_bytes as Encode·field_bytes, value_from as Encode·value_from, encode_form as Encode·encode_form, encode as Encode·encode, AllBelow as Encode·AllBelow, InWidth as Encode·InWidth}
use Rattle.lists.specs.Computing.{computing as lists·computing}
use Rattle.auction.specs.Computing.{computing as auction·computing}
use Rattle.machine.specs.Computing.{computing as machine·computing}
use Rattle.wire.specs.Computing.{computing as wire·computing}

unfoldable pub computing : Unit {0}
unfolding Forms·tag_of Forms·numbers_of Forms·form_of Forms·kind_of Forms·flat_round Forms·flattened Put·put_into Encode·bytes_of Encode·width_of Encode·raw_of Encode·field_bytes Encode·value_from Encode·encode_form Encode·encode Encode·AllBelow Encode·InWidth lists·computing auction·computing machine·computing wire·computing
computing = tt
