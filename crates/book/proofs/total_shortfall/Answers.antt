-- `book::total_shortfall` meets its contract. The sum is std's, and each shortfall is held to 16 bits, so that it fits. Assumes nothing.
use mathlib.Core.Path.{◌≡◌, sym, ◌∙◌}
use Prim.Native.Nat.{◌<◌, ◌^◌}
use native.Mathlib.Omega.{arith}
use borrow.Author.Rules.{rules}
use lib.ListN.{length}
use Rattle.std.specs.List.{sum}
use Rattle.std.proofs.iter.runs.Made.{chains}
use Rattle.lists.proofs.Sums.{sum_bound}
use Rattle.lists.proofs.Std.{sum-std}
use Rattle.lists.specs.Adding.{most16}
use Rattle.book.proofs.total_shortfall.Goals as goal

pub sum-requires-clause-fits : goal.sum-requires-clause-fits
sum-requires-clause-fits c =
    let xs = c.shortfalls.result in
    let long : length xs ≡ 32 = search rules in
    let small : sum xs < 2 ^ 64 = omega (arith, sum-std xs, sum_bound most16 xs c.shortfalls.ensures.1, long) in
    search (rules, chains)

pub returns : goal.returns
returns c =
    let xs = c.shortfalls.result in
    let added : c.sum.result ≡ sum xs = search (rules, chains) in
    added ∙ sym (sum-std xs) ∙ rw c.shortfalls.ensures.0
