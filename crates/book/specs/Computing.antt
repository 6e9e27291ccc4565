-- Written by tools/computing.py. Under the line `unfolding computing` every definition of these specs computes.
use Rattle.book.specs.Stages.{next_round as Stages·next_round}
use Rattle.book.specs.Books.{any_open_in as Books·any_open_in, too_dear_in as Books·too_dear_in, requirement_in as Books·requirement_in, contributions_in as Books·contributions_in, prefunded_in as Books·prefunded_in, short_in as Books·short_in, allocation_in as Books·allocation_in, calls_in as Books·calls_in, new_book as Books·new_book, pool_book as Books·pool_book, member_book as Books·member_book, round_book as Books·round_book, bid_book as Books·bid_book, close_book as Books·close_book, allocate_book as Books·allocate_book, tear_book as Books·tear_book, call_book as Books·call_book, pay_book as Books·pay_book, move_book as Books·move_book, miss_book as Books·miss_book, sale_book as Books·sale_book, withdraw_book as Books·withdraw_book}
use Rattle.book.specs.Results.{limits_in as Results·limits_in, ranks_in as Results·ranks_in, result_in as Results·result_in}
use Rattle.lists.specs.Computing.{computing as lists·computing}
use Rattle.sets.specs.Computing.{computing as sets·computing}
use Rattle.splitting.specs.Computing.{computing as splitting·computing}
use Rattle.auction.specs.Computing.{computing as auction·computing}
use Rattle.waterfall.specs.Computing.{computing as waterfall·computing}
use Rattle.machine.specs.Computing.{computing as machine·computing}
use Rattle.wire.specs.Computing.{computing as wire·computing}
use Rattle.units.specs.Computing.{computing as units·computing}
use Rattle.accounts.specs.Computing.{computing as accounts·computing}

unfoldable pub computing : Unit {0}
unfolding Stages·next_round Books·any_open_in Books·too_dear_in Books·requirement_in Books·contributions_in Books·prefunded_in Books·short_in Books·allocation_in Books·calls_in Books·new_book Books·pool_book Books·member_book Books·round_book Books·bid_book Books·close_book Books·allocate_book Books·tear_book Books·call_book Books·pay_book Books·move_book Books·miss_book Books·sale_book Books·withdraw_book Results·limits_in Results·ranks_in Results·result_in lists·computing sets·computing splitting·computing auction·computing waterfall·computing machine·computing wire·computing units·computing accounts·computing
computing = tt
