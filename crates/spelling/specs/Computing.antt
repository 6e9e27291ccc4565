-- Written by tools/computing.py. Under the line `unfolding computing` every definition of these specs computes.
use Rattle.spelling.specs.Words.{key_of as Words·key_of, name_of as Words·name_of, separator as Words·separator, pieces as Words·pieces}
use Rattle.spelling.specs.Text.{money_text as Text·money_text, price_text as Text·price_text, more_text as Text·more_text, members_text as Text·members_text, number_text as Text·number_text, items_text as Text·items_text, line_form as Text·line_form, line_of as Text·line_of, key_into as Text·key_into}
use Rattle.lists.specs.Computing.{computing as lists·computing}
use Rattle.sets.specs.Computing.{computing as sets·computing}
use Rattle.auction.specs.Computing.{computing as auction·computing}
use Rattle.machine.specs.Computing.{computing as machine·computing}
use Rattle.wire.specs.Computing.{computing as wire·computing}
use Rattle.forms.specs.Computing.{computing as forms·computing}

unfoldable pub computing : Unit {0}
unfolding Words·key_of Words·name_of Words·separator Words·pieces Text·money_text Text·price_text Text·more_text Text·members_text Text·number_text Text·items_text Text·line_form Text·line_of Text·key_into lists·computing sets·computing auction·computing machine·computing wire·computing forms·computing
computing = tt
