use Rattle.units.proofs.Groups.{turn-next}
use mathlib.Core.Path.{◌≡◌, refl, sym, ◌∙◌}
use Prim.Native.Nat.{◌-◌}
use native.Mathlib.Omega.{arith}
use lib.ListN.{length-set}
use Rattle.units.proofs.Groups.{groups-end, groups-stop, move-done}
use borrow.Author.Rules.{rules}
use Rattle.units.proofs.Units.move_to.Goals as goal

pub loop-init : goal.loop-init
loop-init c = (search rules, refl)

pub slice_bounds-least_key-end : goal.slice_bounds-least_key-end
slice_bounds-least_key-end c = sym c.loop.invariant.0

pub returns-then-either : goal.returns-then-either
returns-then-either c = let l = c.loop in
    move-done c.args.self _ _ _ _ c.live_keys-keys.result l.counts l.sums c.live_keys-keys.ensures
    (sym (groups-stop _ _ l.left l.keys l.counts l.sums (384 - l.counter) (sym (c.either.ensures ∙ rw c.least_key-key.ensures) ∙ c.if-either.true)) ∙ l.invariant.1) _ refl

pub loop-preserved : goal.loop-preserved
loop-preserved c = let l = c.loop in
    let a = c.args in (
      length-set l.keys _ _ ∙ l.invariant.0,
      turn-next a.pools.now a.member l.left l.counter l.keys l.counts l.sums _ c.least_key-key.result c.key_place-j.result c.pool_at-pool.result
          c.key_price-price.result c.saturating_sub-saving.result c.units_needed-n.result c.from-in-loop.result c.saturating_sub-left.result _ _ (omega arith)
          (sym (c.either.ensures ∙ rw c.least_key-key.ensures) ∙ c.if-either.false) l.invariant.1
          c.least_key-key.ensures c.key_place-j.ensures.0 c.pool_at-pool.ensures.0 c.key_price-price.ensures.0
          (c.saturating_sub-saving.ensures ∙ rw c.from.ensures) c.units_needed-n.ensures c.from-in-loop.ensures
          (c.saturating_sub-left.ensures ∙ rw c.from-in-loop-2.ensures) c.transfer.ensures c.reprice.ensures,
    )

pub returns : goal.returns
returns c = let l = c.loop in
    let done : 384 - l.counter ≡ 0 = omega arith in
    move-done c.args.self _ _ _ _ c.live_keys-keys.result l.counts l.sums c.live_keys-keys.ensures
    (sym (groups-end _ _ l.left l.keys l.counts l.sums) ∙ rw done at l.invariant.1) _ refl
