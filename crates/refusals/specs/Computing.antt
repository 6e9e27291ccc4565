-- Written by tools/computing.py. Under the line `unfolding computing` every definition of these specs computes.
use Rattle.refusals.specs.Answers.{amounts_ok as Answers·amounts_ok, head_answer as Answers·head_answer, pool_answer as Answers·pool_answer, member_answer as Answers·member_answer, round_answer as Answers·round_answer, bid_answer as Answers·bid_answer, close_answer as Answers·close_answer, allocate_answer as Answers·allocate_answer, tear_answer as Answers·tear_answer, call_answer as Answers·call_answer, pay_answer as Answers·pay_answer, move_answer as Answers·move_answer, miss_answer as Answers·miss_answer, finish_answer as Answers·finish_answer, sale_answer as Answers·sale_answer, withdraw_answer as Answers·withdraw_answer}
use Rattle.lists.specs.Computing.{computing as lists·computing}
use Rattle.sets.specs.Computing.{computing as sets·computing}
use Rattle.auction.specs.Computing.{computing as auction·computing}
use Rattle.machine.specs.Computing.{computing as machine·computing}
use Rattle.wire.specs.Computing.{computing as wire·computing}
use Rattle.units.specs.Computing.{computing as units·computing}
use Rattle.accounts.specs.Computing.{computing as accounts·computing}
use Rattle.book.specs.Computing.{computing as book·computing}

unfoldable pub computing : Unit {0}
unfolding Answers·amounts_ok Answers·head_answer Answers·pool_answer Answers·member_answer Answers·round_answer Answers·bid_answer Answers·close_answer Answers·allocate_answer Answers·tear_answer Answers·call_answer Answers·pay_answer Answers·move_answer Answers·miss_answer Answers·finish_answer Answers·sale_answer Answers·withdraw_answer lists·computing sets·computing auction·computing machine·computing wire·computing units·computing accounts·computing book·computing
computing = tt
