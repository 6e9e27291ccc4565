-- `accounts::bids::Bids::gain_table` meets its contract. The invariant: the run has the sums over the places passed. Assumes nothing.
use mathlib.Core.Path.{◌≡◌}
use lib.ListN.{get_or}
use Rattle.lists.specs.Lists.{places}
use Rattle.lists.specs.Adding.{most64}
use Rattle.lists.proofs.Adding.{tallied}
use Rattle.accounts.specs.Bids.{gain_at}
use Rattle.accounts.proofs.bids.Bids.gain_table.Given as goal

abbrev pub invariant-loop-i : goal.invariant-loop-i
invariant-loop-i l = l.out ≡ tallied 32 (λ i. get_or l.self.member i 0) (gain_at l.self l.worsts) most64 (places l.i-end) l.i
