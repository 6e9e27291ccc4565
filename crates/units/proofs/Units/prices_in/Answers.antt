-- `units::Units::prices_in` meets its contract. Assumes nothing.
use Rattle.std.proofs.Common.{◌≡◌, ◌∙◌, get_or, rules}
use Rattle.units.specs.Shown.{sum_of}
use Rattle.units.proofs.Results.{pool-of}
use Rattle.units.proofs.Units.prices_in.Goals as goal

pub returns : goal.returns
unfolding sum_of
returns c = let read : c.unwrap_or.result ≡ get_or c.args.self.sums c.args.pool 1000000000 = search rules in
    read ∙ pool-of c.args.self.sums c.args.pool 1000000000 (search rules)
