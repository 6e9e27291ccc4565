use mathlib.Core.Path.{refl, sym, ap, ◌∙◌}
use native.Mathlib.Omega.{arith}
use lib.ListN.{length}
use Rattle.lists.specs.Lists.{places}
use Rattle.lists.specs.Adding.{most16}
use Rattle.lists.proofs.Adding.{tallied-none, tallied-long}
use Rattle.accounts.specs.Bids.{won_table}
use Rattle.accounts.proofs.Tallies.{place-added, places-added}
use Rattle.accounts.proofs.bids.Bids.won_table.Goals as goal

pub loop-i-init : goal.loop-i-init
loop-i-init c = tallied-none 128 _ _ most16 (places c.min-i-end.result)

pub slice_bounds-add_at-end : goal.slice_bounds-add_at-end
slice_bounds-add_at-end c = sym (ap length c.loop-i.invariant ∙ tallied-long 128 _ _ most16 (places c.min-i-end.result) c.loop-i.i)

pub loop-i-preserved : goal.loop-i-preserved
loop-i-preserved c = let at = c.loop-i in
    c.add_at.ensures ∙ place-added 128 _ _ most16 _ at.i at.out _ _ at.invariant (omega arith) refl (omega arith)

pub returns : goal.returns
unfolding won_table
returns c = c.loop-i.invariant ∙ places-added 128 _ _ most16 _ c.loop-i.i (omega arith) ∙ rw c.min-i-end.ensures
