-- `units::Units::buyer` meets its contract. Assumes nothing.
use Rattle.std.proofs.Common.{◌≡◌, ◌∙◌, get_or, rules}
use Rattle.units.specs.Shown.{buyer_of}
use Rattle.units.proofs.Results.{pool-of}
use Rattle.units.proofs.Units.buyer.Goals as goal

pub returns : goal.returns
unfolding buyer_of
returns c = let read : c.unwrap_or.result ≡ get_or c.args.self.buyers c.args.pool 0 = search rules in
    read ∙ pool-of c.args.self.buyers c.args.pool 0 (search rules)
