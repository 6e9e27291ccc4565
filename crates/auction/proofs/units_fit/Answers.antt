-- `auction::units_fit` meets its contract: std's `all` answers whether each bid has from `least` to the most units. Assumes nothing.
use Prim.Native.Nat.{◌≤◌}
use borrow.Author.Rules.{rules}
use borrow.Author.Tests.{le-leb, leb-true}
use Rattle.std.specs.Prelude.{IsTrue, ◌↔◌, EachIndex, slice_index}
use Rattle.std.proofs.iter.runs.Made.{chains}
use Rattle.lists.specs.Lists.{between}
use Rattle.lists.proofs.Bools.{and_both, and_left, and_right}
use Rattle.lists.proofs.Std.{all-decided}
use Rattle.auction.specs.Limits.{unit_limit}
use Rattle.auction.proofs.units_fit.Goals as goal

pub returns : goal.returns
returns c =
    let each : IsTrue c.all.result ↔ EachIndex c.args.units.now (λ k. (c.args.least ≤ slice_index c.args.units.now k) × (slice_index c.args.units.now k ≤ unit_limit)) = search (rules, chains) in
    all-decided (between c.args.least unit_limit) c.args.units.now 0 c.all.result
    (λ e k h. and_both _ _ (le-leb _ _ (each.0 e k h).0) (le-leb _ _ (each.0 e k h).1))
    (λ f. each.1 (λ k h. (leb-true _ _ (and_left _ _ (f k h)), leb-true _ _ (and_right _ _ (f k h)))))
