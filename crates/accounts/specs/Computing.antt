-- Written by tools/computing.py. Under the line `unfolding computing` every definition of these specs computes.
use Rattle.accounts.specs.Fours.{put_four as Fours·put_four}
use Rattle.accounts.specs.Pools.{no_pools as Pools·no_pools, put_pool as Pools·put_pool}
use Rattle.accounts.specs.Members.{no_members as Members·no_members, owes_of as Members·owes_of, someone_owes_in as Members·someone_owes_in, shortfall_at as Members·shortfall_at, shortfalls_of as Members·shortfalls_of, over_pools_at as Members·over_pools_at, over_pools as Members·over_pools, without_pools as Members·without_pools, put_member as Members·put_member, add_shares as Members·add_shares, with_shares as Members·with_shares}
use Rattle.accounts.specs.Rounds.{no_rounds as Rounds·no_rounds, put_round as Rounds·put_round, reserve_of as Rounds·reserve_of, worst_in as Rounds·worst_in, worst_of as Rounds·worst_of, worsts_of as Rounds·worsts_of}
use Rattle.accounts.specs.Bids.{no_bids as Bids·no_bids, put_bid as Bids·put_bid, in_round_at as Bids·in_round_at, in_auction_at as Bids·in_auction_at, stands_for as Bids·stands_for, withdraw_bid as Bids·withdraw_bid, units_in as Bids·units_in, wins_of as Bids·wins_of, with_wins as Bids·with_wins, won_table as Bids·won_table, gain_at as Bids·gain_at, gain_table as Bids·gain_table}
use Rattle.lists.specs.Computing.{computing as lists·computing}
use Rattle.sets.specs.Computing.{computing as sets·computing}
use Rattle.splitting.specs.Computing.{computing as splitting·computing}
use Rattle.auction.specs.Computing.{computing as auction·computing}
use Rattle.machine.specs.Computing.{computing as machine·computing}

unfoldable pub computing : Unit {0}
unfolding Fours·put_four Pools·no_pools Pools·put_pool Members·no_members Members·owes_of Members·someone_owes_in Members·shortfall_at Members·shortfalls_of Members·over_pools_at Members·over_pools Members·without_pools Members·put_member Members·add_shares Members·with_shares Rounds·no_rounds Rounds·put_round Rounds·reserve_of Rounds·worst_in Rounds·worst_of Rounds·worsts_of Bids·no_bids Bids·put_bid Bids·in_round_at Bids·in_auction_at Bids·stands_for Bids·withdraw_bid Bids·units_in Bids·wins_of Bids·with_wins Bids·won_table Bids·gain_at Bids·gain_table lists·computing sets·computing splitting·computing auction·computing machine·computing
computing = tt
