-- Written by tools/computing.py. Under the line `unfolding computing` every definition of these specs computes.
use Rattle.report.specs.Texts.{p_line_of as Texts·p_line_of, l_line_of as Texts·l_line_of, m_line_of as Texts·m_line_of, result_lines as Texts·result_lines, finish_lines as Texts·finish_lines, held_lines as Texts·held_lines, ledger_lines as Texts·ledger_lines, cut_lines as Texts·cut_lines, placed_lines as Texts·placed_lines, answer_line as Texts·answer_line, take_part as Texts·take_part}
use Rattle.report.specs.Parts.{streamed as Parts·streamed}
use Rattle.lists.specs.Computing.{computing as lists·computing}
use Rattle.sets.specs.Computing.{computing as sets·computing}
use Rattle.waterfall.specs.Computing.{computing as waterfall·computing}
use Rattle.machine.specs.Computing.{computing as machine·computing}
use Rattle.reserves.specs.Computing.{computing as reserves·computing}
use Rattle.wire.specs.Computing.{computing as wire·computing}
use Rattle.input.specs.Computing.{computing as input·computing}
use Rattle.units.specs.Computing.{computing as units·computing}
use Rattle.accounts.specs.Computing.{computing as accounts·computing}
use Rattle.book.specs.Computing.{computing as book·computing}
use Rattle.case.specs.Computing.{computing as case·computing}

unfoldable pub computing : Unit {0}
unfolding Texts·p_line_of Texts·l_line_of Texts·m_line_of Texts·result_lines Texts·finish_lines Texts·held_lines Texts·ledger_lines Texts·cut_lines Texts·placed_lines Texts·answer_line Texts·take_part Parts·streamed lists·computing sets·computing waterfall·computing machine·computing reserves·computing wire·computing input·computing units·computing accounts·computing book·computing case·computing
computing = tt
