-- `exports::show_case` meets its contract. The sum of prices goes by its 64 bits. Assumes nothing.
use mathlib.Core.Path.{subst}
use mir.Syntax.{w64}
use mir.Val.{SFits}
use Rattle.exports.proofs.Prices.{with-prices, read_back}
use Rattle.exports.proofs.show_case.Goals as goal

pub returns : goal.returns
unfolding with-prices
returns c =
    rw (
      c.counts-counts.ensures,
      c.owes-owes.ensures,
      c.result-given.ensures,
      c.letter.ensures,
      c.round_of.ensures,
      c.sum_of_prices.ensures,
      c.requirement.ensures,
      c.prefunded.ensures,
    ) (read_back c.args.case
    (subst (SFits w64) c.sum_of_prices.ensures (record { sfits = c.sum_of_prices.type_inv })))
