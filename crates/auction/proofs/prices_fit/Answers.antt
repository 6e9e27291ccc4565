-- `auction::prices_fit` meets its contract: std's `all` answers whether each price is within its limit. Assumes nothing.
use Prim.Native.Nat.{◌≤◌}
use borrow.Author.Rules.{rules}
use borrow.Author.Tests.{le-leb, leb-true}
use Rattle.std.specs.Prelude.{IsTrue, ◌↔◌, EachIndex, slice_index}
use Rattle.std.proofs.iter.runs.Made.{chains}
use Rattle.lists.proofs.Std.{all-decided}
use Rattle.auction.specs.Price.{price_limit, price_ok}
use Rattle.auction.proofs.prices_fit.Goals as goal

pub returns : goal.returns
returns c =
    let each : IsTrue c.all.result ↔ EachIndex c.args.prices.now (λ k. slice_index c.args.prices.now k ≤ price_limit) = search (rules, chains) in
    all-decided price_ok c.args.prices.now 0 c.all.result (λ e k h. le-leb _ _ (each.0 e k h)) (λ f. each.1 (λ k h. leb-true _ _ (f k h)))
