use mathlib.Core.Path.{◌≡◌, sym, ap, ◌∙◌}
use native.Mathlib.Omega.{arith}
use lib.ListN.{length, get_or}
use Rattle.lists.specs.Lists.{places}
use Rattle.lists.specs.Adding.{most64}
use Rattle.lists.proofs.Adding.{tallied-none, tallied-long}
use Rattle.accounts.specs.Bids.{gain_at, gain_table}
use Rattle.accounts.proofs.Tallies.{place-added, places-added}
use borrow.Author.Rules.{rules}
use Rattle.accounts.proofs.bids.Bids.gain_table.Goals as goal

pub loop-i-init : goal.loop-i-init
loop-i-init c = tallied-none 32 _ _ most64 (places c.min-i-end.result)

pub slice_bounds-add_at-end : goal.slice_bounds-add_at-end
slice_bounds-add_at-end c = sym (ap length c.loop-i.invariant ∙ tallied-long 32 _ _ most64 (places c.min-i-end.result) c.loop-i.i)

pub loop-i-preserved : goal.loop-i-preserved
unfolding gain_at
loop-i-preserved c = let at = c.loop-i in
    let worst : c.unwrap_or-worst.result ≡ get_or c.args.worsts (get_or c.args.self.pool at.i 0) 0 = search rules in
    let gained = rw worst at c.gain-gained.ensures in
    c.add_at.ensures ∙ place-added 32 _ _ most64 _ at.i at.out _ _ at.invariant c.from-in-loop-i.ensures gained (omega arith)

pub returns : goal.returns
unfolding gain_table
returns c = c.loop-i.invariant ∙ places-added 32 _ _ most64 _ c.loop-i.i (omega arith) ∙ rw c.min-i-end.ensures
