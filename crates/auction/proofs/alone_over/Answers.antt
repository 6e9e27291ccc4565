-- `auction::alone_over` meets its contract. A signed parameter that is passed on is read from its bits. Assumes nothing.
use mathlib.Core.Path.{◌≡◌, sym, ap, ◌∙◌}
use native.Mathlib.Omega.{arith}
use lib.ListN.{length}
use lib.Seq.{length-take-le}
use mir.Facts.{to_z-of_z}
use borrow.Author.Tests.{le-leb, lt-leb}
use Rattle.auction.specs.Lent.{held}
use Rattle.auction.specs.Gathered.{alone_over}
use borrow.Author.Rules.{rules}
use Rattle.auction.proofs.alone_over.Goals as goal

pub slice_bounds-units-end : goal.slice_bounds-units-end
slice_bounds-units-end c =
    let long : length c.args.bids.units ≡ 256 = search rules in
    omega arith

pub slice_bounds-alone-end : goal.slice_bounds-alone-end
slice_bounds-alone-end c =
    let long : length c.args.bids.units ≡ 256 = search rules in
    sym (length-take-le c.args.n c.args.bids.units (omega arith))

pub slice_bounds-prices-end : goal.slice_bounds-prices-end
slice_bounds-prices-end c =
    let long : length c.args.bids.prices ≡ 256 = search rules in
    omega arith

pub slice_bounds-alone-end-then-n-le-BID_LIMIT : goal.slice_bounds-alone-end-then-n-le-BID_LIMIT
slice_bounds-alone-end-then-n-le-BID_LIMIT c =
    let long : length c.args.bids.prices ≡ 256 = search rules in
    sym (length-take-le c.args.n c.args.bids.prices (omega arith))

pub returns-then-n-le-BID_LIMIT : goal.returns-then-n-le-BID_LIMIT
unfolding alone_over
returns-then-n-le-BID_LIMIT c =
    let least = c.held-least.ensures ∙ ap held (to_z-of_z c.ranges.reserve) in
    rw (le-leb c.args.n 256 (omega arith), ← least, ← c.from.ensures) c.alone.ensures

pub returns-else-n-le-BID_LIMIT : goal.returns-else-n-le-BID_LIMIT
unfolding alone_over
returns-else-n-le-BID_LIMIT c = rw (lt-leb c.args.n 256 (omega arith))
