-- `accounts::bids::Bids::won_table` meets its contract. The invariant: the run has the sums over the places passed. Assumes nothing.
use mathlib.Core.Path.{◌≡◌}
use Prim.Native.Nat.{◌*◌, ◌+◌}
use lib.ListN.{get_or}
use Rattle.lists.specs.Lists.{places}
use Rattle.lists.specs.Adding.{most16}
use Rattle.lists.proofs.Adding.{tallied}
use Rattle.accounts.proofs.bids.Bids.won_table.Given as goal

abbrev pub invariant-loop-i : goal.invariant-loop-i
invariant-loop-i l = l.out ≡ tallied 128 (λ i. 4 * get_or l.self.member i 0 + get_or l.self.pool i 0) (λ i. get_or l.self.won i 0) most16 (places l.i-end) l.i
