-- `auction::ledger_auction_records` meets its contract. The auction over the flat arrays is the auction over the records; a signed parameter that is passed on
-- is read from its bits. Assumes nothing.
use mathlib.Core.Path.{ap, ◌∙◌}
use lib.IntN.{ℤ}
use lib.ListN.{length}
use mir.Facts.{to_z-of_z}
use Rattle.auction.specs.Gathered.{alone_over}
use Rattle.auction.specs.declared.Bids.{Bids}
use Rattle.auction.proofs.Lending.{same-auction}
use Rattle.auction.proofs.ledger_auction_records.Goals as goal

pub returns : goal.returns
returns c =
    let a = c.args in
    c.alone_over.ensures
    ∙ ap (λ (z : ℤ). alone_over c.gather-f.result (length a.bids.now) a.open_units z a.counts.now) (to_z-of_z c.ranges.reserve)
    ∙ ap (λ (f : Bids). alone_over f (length a.bids.now) a.open_units a.reserve a.counts.now) c.gather-f.ensures
    ∙ same-auction a.bids.now a.open_units a.reserve a.counts.now
