-- `accounts::bids::Bids::units_in` meets its contract. Assumes nothing.
use Rattle.std.proofs.Common.{get_or, rules}
use Rattle.lists.specs.Lists.{when◌then◌else◌}
use Rattle.lists.proofs.Made.{made}
use Rattle.accounts.specs.Bids.{in_auction_at, units_in}
use Rattle.accounts.proofs.bids.Bids.units_in.Goals as goal

pub returns : goal.returns
unfolding units_in
returns c = let a = c.args in
    made _ (λ k. when in_auction_at a.self.now a.round a.pool k then get_or a.self.now.units k 0 else 0) (λ k y f h. search rules) c.from_fn.result 256 0 c.from_fn.ensures.items
