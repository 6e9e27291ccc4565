-- `accounts::bids::Bids::withdraw` meets its contract. A number past the places leaves them as they were. Assumes nothing.
use Rattle.std.proofs.Common.{sym, arith, rules}
use Rattle.accounts.specs.Bids.{withdraw_bid}
use Rattle.accounts.proofs.Past.{withdraw-past}
use Rattle.accounts.proofs.bids.Bids.withdraw.Goals as goal

pub returns-then-i-lt-MOST : goal.returns-then-i-lt-MOST
unfolding withdraw_bid
returns-then-i-lt-MOST c = simp c.from-i.ensures

pub returns-else-i-lt-MOST : goal.returns-else-i-lt-MOST
returns-else-i-lt-MOST c = sym (withdraw-past c.args.self c.args.n (search rules) (omega arith))
